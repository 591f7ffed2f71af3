-- A word that is loaded for a reversing: an inverse at the workspace's start and a positive word at its end.
use mathlib.Core.Path.{◌≡◌, refl, sym, ap, ap₂, subst, ◌∙◌}
use mathlib.Core.List.{List, [], ◌++◌, append-nil}
use Prim.Native.Nat.{ℕ, ◌-◌, ◌≤◌}
use native.Mathlib.Omega.{arith}
use lib.ListN.{length, take, drop, take-append-drop}
use lib.Seq.{take_at, drop_at, drop-length, length-take-le}
use Rattle.model.specs.Word.{Word, Positive, positive, negative}
use Rattle.model.specs.Presentation.{Presentation}
use Rattle.model.specs.Reversing.{nowhere, site}
use Rattle.model.proofs.Words.{fraction_nowhere}
use Rattle.engine.specs.Search.{NoneBefore}
use Rattle.engine.specs.Gap.{letters, word_at, place_before, Searched}
use Rattle.model.specs.Range.{Lettered}
use Rattle.cells.specs.Stands.{Stands, Serves}
use Rattle.engine.specs.Turn.{Pushed}
use Rattle.engine.proofs.Letters.{letters_append, letters_nil, length_letters}
use Rattle.engine.proofs.Sites.{none_in_front}
use Rattle.engine.proofs.Lettering.{lettered_append, lettered_negative}

-- two lists in two parts, the first parts equally long
pub front_of : {A : Type 0} (p q r s : List A) → length p ≡ length r → p ++ q ≡ r ++ s → (p ≡ r) × (q ≡ s)
front_of p q r s n e = (
  sym (take_at p q (length p) refl) ∙ (ap (take (length p)) e ∙ take_at r s (length p) (sym n)),
  sym (drop_at p q (length p) refl) ∙ (ap (drop (length p)) e ∙ drop_at r s (length p) (sym n)),
)

-- what a word pushed to the very start or the very end leaves there
pub pushed_front : {w : Word} {bytes after : List ℕ} {count : ℕ} → Pushed w bytes count count after → length w ≡ count → count ≤ length bytes
    → letters (take count after) ≡ w
pushed_front {w} {bytes} {after} {count} p n h =
    let z : 0 ≡ count - count = omega arith in
    let e : letters (take count after) ++ letters (drop count after) ≡ w ++ letters (drop count bytes) =
    sym (letters_append (take count after) (drop count after))
    ∙ (ap letters (take-append-drop count after) ∙ (ap (λ i. letters (drop i after)) z ∙ p.pushed)) in
    (front_of (letters (take count after)) (letters (drop count after)) w (letters (drop count bytes))
    (length_letters (take count after) ∙ (length-take-le count after (omega (arith, p.same_length)) ∙ sym n)) e).0

pub pushed_end : {w : Word} {bytes after : List ℕ} {right count : ℕ} → right ≡ length bytes → Pushed w bytes right count after
    → letters (drop (right - count) after) ≡ w
pushed_end {w} {bytes} e p =
    p.pushed
    ∙ (ap (λ i. w ++ letters (drop i bytes)) e
    ∙ (ap (λ l. w ++ letters l) (drop-length bytes) ∙ (ap (λ v. w ++ v) letters_nil ∙ append-nil w)))

-- no site begins before the place of a search from a gap where the letters before the gap have none
pub front_searched : (bytes : List ℕ) (left right : ℕ) → left ≤ right → right ≤ length bytes → site (letters (take left bytes)) ≡ nowhere
    → NoneBefore (place_before left) (word_at bytes left right)
unfolding word_at
front_searched bytes left right ordered inside h =
    let n : length (letters (take left bytes)) ≡ left = length_letters (take left bytes) ∙ length-take-le left bytes (omega arith) in
    subst (λ k. NoneBefore (place_before k) (letters (take left bytes ++ drop right bytes))) n
    (subst (NoneBefore (place_before (length (letters (take left bytes))))) (sym (letters_append (take left bytes) (drop right bytes)))
    (none_in_front (letters (take left bytes)) (letters (drop right bytes)) h))

module _ (bytes : List ℕ) (left right : ℕ) (u v : Positive) (ordered : left ≤ right) (inside : right ≤ length bytes)
    (eu : letters (take left bytes) ≡ negative u) (ev : letters (drop right bytes) ≡ positive v) where
  pub loaded : word_at bytes left right ≡ negative u ++ positive v
  unfolding word_at
  loaded = letters_append (take left bytes) (drop right bytes) ∙ ap₂ (λ w t. w ++ t) eu ev

  pub load_searched : Searched bytes left right
  load_searched =
      record {
        ordered = ordered;
        inside = inside;
        none_before = front_searched bytes left right ordered inside (ap site eu ∙ fraction_nowhere [] u);
      }

  pub load_serves : {cells : List ℕ} {T : Presentation} → Stands cells T → Lettered T.size (positive u) → Lettered T.size (positive v)
      → Serves cells (word_at bytes left right) T
  load_serves {T} s lu lv =
      record {
        stands = s;
        lettered = rw loaded (lettered_append T.size (negative u) (positive v) (lettered_negative T.size u lu) lv);
      }
