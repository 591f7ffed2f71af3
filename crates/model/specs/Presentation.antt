-- Specification 2.2, complemented presentations: a presentation is a table, a right complement a completion, an undefined pair an open pair (2.5).
use Rattle.std.specs.Prelude.{List, [], ◌∷◌, ◌&&◌, cond, ℕ, suc, ◌+◌, ◌-◌, ltb, leb, eqb, get_or}
use Rattle.model.specs.Word.{Positive}

-- 2.2: what a table says of a pair a, b: that it is open, or C(a,b) and then C(b,a)
pub data Complement : Type 0 where
  undefined : Complement
  complement : Positive → Positive → Complement

-- 2.2: a table: `size` is n, `excess` has for each letter its weight less 1, and `rows` has for each a from 1 the pairs of a with a + 1,
-- a + 2, .. up to n
pub record Presentation : Type 0 where
  pub size : ℕ
  pub excess : List ℕ
  pub rows : List (List Complement)

-- 2.2: the weight of a letter, so at least 1; of the numbers that name none, 0 weighs what letter 1 does, and those past the list's end weigh 1
abbrev pub weight_of : Presentation → ℕ → ℕ
weight_of T a = suc (get_or T.excess (a - 1) 0)

-- 2.2: the weight of a word, the sum of its letters', by whatever each of them weighs
abbrev pub total : (ℕ → ℕ) → Positive → ℕ
total weight [] = 0
total weight (a ∷ u) = weight a + total weight u

-- .. under a table
abbrev pub weigh : Presentation → Positive → ℕ
weigh T u = total (weight_of T) u

-- 2.2: the pair b, a of the pair a, b, which is open where that is
abbrev pub swapped : Complement → Complement
swapped undefined = undefined
swapped (complement x y) = complement y x

-- 2.2: the pair a, b where 1 ≤ a < b ≤ n
abbrev pub listed : Presentation → ℕ → ℕ → Complement
listed T a b =
    cond (leb 1 a && leb b T.size) (get_or (get_or T.rows (a - 1) []) (b - a - 1) undefined) undefined

-- 2.2: C(a,b) and C(b,a), both empty where a = b; of two different numbers one of which names no letter the pair is undefined
unfoldable pub complete : Presentation → ℕ → ℕ → Complement
complete T a b = cond (eqb a b) (complement [] []) (cond (ltb a b) (listed T a b) (swapped (listed T b a)))
