-- Faces that are not done, the top one first, and the words that they stand for.
use Rattle.std.specs.Prelude.{List, [], ◌∷◌, ◌++◌, ◌≡◌, ℕ, length}
use Rattle.model.specs.Word.{Word, Positive, positive, negative}
use Rattle.model.specs.Presentation.{Presentation, complement, complete}
use Rattle.model.specs.Equivalence.{Entry}

-- the letter a met the letter b: the letters of C(a,b) that are done, those that are left, and C(b,a)
pub record Face : Type 0 where
  pub a : ℕ
  pub b : ℕ
  pub done : Positive
  pub left : Positive
  pub other : Positive

-- what a face not done has in its slot: the number of letters left where an entry has its offset
abbrev pub slot_of : Face → Entry
slot_of f = record { offset = length f.left; a = f.a; b = f.b }

-- the letters still to be met, after the rest of the first word
abbrev pub below : List Face → Positive → Word
below [] left = positive left
below (f ∷ fs) left = positive f.left ++ (negative f.other ++ below fs left)

-- the word of the reversing; `taken` has the letter, if any, that was taken off and is not met yet
abbrev pub word_of : Positive → Positive → List Face → Positive → Word
word_of rest taken faces left = negative rest ++ (positive taken ++ below faces left)

-- the letters before the rest, in the word that the entries have led to
abbrev pub passed_of : List Face → Positive → Positive
passed_of [] done = done
passed_of (f ∷ fs) done = passed_of fs done ++ (f.a ∷ f.done)

-- the letter that a face is on comes after those done, and before those left
pub record Crossed (T : Presentation) (taken : Positive) (f : Face) : Type 0 where
  pub differ : f.a ≡ f.b → ⊥
  pub rule : complete T f.a f.b ≡ complement (f.done ++ (taken ++ f.left)) f.other

-- the faces stand on each other, the lowest on the second word's letters
abbrev pub Stacked : Presentation → Positive → Positive → List Face → Positive → Positive → Type 0
Stacked T second taken [] done left = done ++ (taken ++ left) ≡ second
Stacked T second taken (f ∷ fs) done left = Crossed T taken f × Stacked T second (f.b ∷ []) fs done left
