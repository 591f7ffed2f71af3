-- Words whose letters are all of the table's: such words joined and taken apart, with their signs, and undone.
-- From the definitions alone. Main names: `all_append`, `all_first`, `all_second`, `positive_lettered`, `inverse_lettered`, `negative_lettered`.
use mathlib.Core.Path.{sym, subst}
use mathlib.Core.List.{List, [], ◌∷◌, ◌++◌, map, Memᴰ}
use Prim.Native.Nat.{ℕ}
use Rattle.model.specs.Word.{Letter, forward, back, Word, Positive, flip, inverse, positive, negative}
use Rattle.model.specs.Range.{All, InRange, LetterInRange, Lettered}
use Rattle.model.proofs.Lists.{all_reverse}

-- what holds of every element, of two lists and of the one after the other
pub all_append : {A : Type 0} (P : A → Type 0) (xs ys : List A) → All P xs → All P ys → All P (xs ++ ys)
all_append P [] ys p q = q
all_append P (x ∷ xs) ys p q = (p.0, all_append P xs ys p.1 q)

pub all_first : {A : Type 0} (P : A → Type 0) (xs ys : List A) → All P (xs ++ ys) → All P xs
all_first P [] ys p = tt
all_first P (x ∷ xs) ys p = (p.0, all_first P xs ys p.1)

pub all_second : {A : Type 0} (P : A → Type 0) (xs ys : List A) → All P (xs ++ ys) → All P ys
all_second P [] ys p = p
all_second P (x ∷ xs) ys p = all_second P xs ys p.1

-- and of one that is in a list
pub all_have : {A : Type 0} (P : A → Type 0) {x : A} {xs : List A} → All P xs → Memᴰ x xs → P x
all_have P h (Memᴰ.head e) = subst P (sym e) h.0
all_have P h (Memᴰ.tail m) = all_have P h.1 m

module _ (n : ℕ) where
  -- a positive word, as such and as a word
  pub positive_lettered : (u : Positive) → All (InRange n) u → Lettered n (positive u)
  positive_lettered [] h = tt
  positive_lettered (a ∷ u) h = (h.0, positive_lettered u h.1)

  pub lettered_positive : (u : Positive) → Lettered n (positive u) → All (InRange n) u
  lettered_positive [] h = tt
  lettered_positive (a ∷ u) h = (h.0, lettered_positive u h.1)

  -- undoing keeps the letters
  pub flip_lettered : (l : Letter) → LetterInRange n l → LetterInRange n (flip l)
  flip_lettered (forward a) h = h
  flip_lettered (back a) h = h

  flips_lettered : (w : Word) → Lettered n w → Lettered n (map flip w)
  flips_lettered [] h = tt
  flips_lettered (l ∷ w) h = (flip_lettered l h.0, flips_lettered w h.1)

  pub inverse_lettered : (w : Word) → Lettered n w → Lettered n (inverse w)
  inverse_lettered w h = all_reverse (LetterInRange n) (map flip w) (flips_lettered w h)

  pub negative_lettered : (u : Positive) → All (InRange n) u → Lettered n (negative u)
  negative_lettered u h = inverse_lettered (positive u) (positive_lettered u h)
