-- Words whose letters are all among n: their parts, their inverses, and their bytes.
use mathlib.Core.Path.{◌≡◌, ap₂, ◌∙◌}
use mathlib.Core.List.{[], ◌∷◌, ◌++◌, map}
use lib.ListN.{length, length-map, length-reverse}
use Prim.Native.Nat.{ℕ, ◌≤◌}
use native.Mathlib.Omega.{arith}
use Rattle.model.specs.Word.{forward, back, Word, Positive, flip, positive, negative}
use Rattle.model.proofs.Words.{negative_cons}
use Rattle.engine.specs.Gap.{letters}
use Rattle.model.specs.Range.{Lettered}
use Rattle.model.specs.Images.{most_size}
use Rattle.engine.proofs.Letters.{letter_forward, letters_cons, letters_nil}

module _ (n : ℕ) where
  pub lettered_append : (u v : Word) → Lettered n u → Lettered n v → Lettered n (u ++ v)
  lettered_append [] v p q = q
  lettered_append (x ∷ u) v p q = (p.0, lettered_append u v p.1 q)

  pub lettered_front : (u v : Word) → Lettered n (u ++ v) → Lettered n u
  lettered_front [] v p = tt
  lettered_front (x ∷ u) v p = (p.0, lettered_front u v p.1)

  pub lettered_end : (u v : Word) → Lettered n (u ++ v) → Lettered n v
  lettered_end [] v p = p
  lettered_end (x ∷ u) v p = lettered_end u v p.1

  pub lettered_negative : (y : Positive) → Lettered n (positive y) → Lettered n (negative y)
  lettered_negative [] p = tt
  lettered_negative (a ∷ y) p = rw (negative_cons a y) (lettered_append (negative y) (back a ∷ []) (lettered_negative y p.1) (p.0, tt))

  -- the bytes of a positive word are its numbers
  pub letters_positive : n ≤ most_size → (x : Positive) → Lettered n (positive x) → letters x ≡ positive x
  letters_positive h [] p = letters_nil
  letters_positive h (a ∷ x) p =
      letters_cons a x ∙ ap₂ (λ l w. l ∷ w) (letter_forward a (omega (arith, p.0.high))) (letters_positive h x p.1)

pub length_positive : (x : Positive) → length (positive x) ≡ length x
length_positive x = length-map x forward

pub length_negative : (y : Positive) → length (negative y) ≡ length y
length_negative y = length-reverse (map flip (positive y)) ∙ (length-map (positive y) flip ∙ length_positive y)
