-- A letter that was met is marked as done: at the top face, or in the second word where there is no face.
use mathlib.Core.Path.{◌≡◌, refl, sym, ap, ◌∙◌}
use mathlib.Core.List.{List, [], ◌∷◌, ◌++◌, map, append_assoc}
use Prim.Native.Nat.{ℕ}
use lib.ListN.{length}
use Rattle.model.specs.Word.{Positive}
use Rattle.model.specs.Presentation.{Presentation, complement}
use Rattle.chain_listing.specs.Faces.{Face, slot_of, below, passed_of, Stacked}

abbrev pub marked : ℕ → List Face → List Face
marked b [] = []
marked b (f ∷ fs) = record { a = f.a; b = f.b; done = f.done ++ (b ∷ []); left = f.left; other = f.other } ∷ fs

abbrev pub marked_done : ℕ → List Face → Positive → Positive
marked_done b [] done = done ++ (b ∷ [])
marked_done b (f ∷ fs) done = done

pub passed_marked : (b : ℕ) (faces : List Face) (done : Positive) → passed_of (marked b faces) (marked_done b faces done) ≡ passed_of faces done ++ (b ∷ [])
passed_marked b [] done = refl
passed_marked b (f ∷ fs) done = sym (append_assoc (passed_of fs done) (f.a ∷ f.done) (b ∷ []))

pub below_marked : (b : ℕ) (faces : List Face) (left : Positive) → below (marked b faces) left ≡ below faces left
below_marked b [] left = refl
below_marked b (f ∷ fs) left = refl

pub slots_marked : (b : ℕ) (faces : List Face) → map slot_of (marked b faces) ≡ map slot_of faces
slots_marked b [] = refl
slots_marked b (f ∷ fs) = refl

pub length_marked : (b : ℕ) (faces : List Face) → length (marked b faces) ≡ length faces
length_marked b [] = refl
length_marked b (f ∷ fs) = refl

pub stacked_marked : (T : Presentation) (second : Positive) (b : ℕ) (faces : List Face) (done left : Positive) → Stacked T second (b ∷ []) faces done left
    → Stacked T second [] (marked b faces) (marked_done b faces done) left
stacked_marked T second b [] done left h = append_assoc done (b ∷ []) left ∙ h
stacked_marked T second b (f ∷ fs) done left h = (
  record {
    differ = h.0.differ;
    rule = h.0.rule ∙ ap (λ x. complement x f.other) (sym (append_assoc f.done (b ∷ []) f.left));
  },
  h.1,
)
