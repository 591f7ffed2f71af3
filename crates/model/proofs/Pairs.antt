-- The numbers and the pairs that are left from a place on, in the order of specification 4.1.
use mathlib.Core.Path.{◌≡◌, sym, ap, ap₂, ◌∙◌}
use mathlib.Core.List.{List, [], ◌∷◌, ◌++◌, map}
use Prim.Native.Nat.{ℕ, suc, ◌+◌, ◌-◌, ◌≤◌, ◌<◌}
use native.Mathlib.Omega.{arith}
use native.Mathlib.Numerals.{add-one}
use Rattle.model.specs.Enumeration.{range, concat_map, Two, row, pairs}

-- the numbers from one on up to n
abbrev pub up_to : ℕ → ℕ → List ℕ
up_to n from = range from (n + 1 - from)

pub up_some : (n from : ℕ) → from ≤ n → up_to n from ≡ from ∷ up_to n (from + 1)
up_some n from h =
    let e : n + 1 - from ≡ suc (n + 1 - (from + 1)) = omega arith in
    ap (range from) e ∙ ap (λ i. from ∷ range i (n + 1 - (from + 1))) (sym (add-one from))

pub up_none : (n from : ℕ) → n < from → up_to n from ≡ []
up_none n from h = let e : n + 1 - from ≡ 0 = omega arith in ap (range from) e

abbrev pub pair : ℕ → ℕ → Two
pair a b = record { a = a; b = b }

-- of a with b and the letters after it
abbrev pub row_from : ℕ → ℕ → ℕ → List Two
row_from n a b = map (pair a) (up_to n b)

abbrev pub pairs_from : ℕ → ℕ → List Two
pairs_from n a = concat_map (row n) (up_to n a)

pub row_begins : (n a : ℕ) → row n a ≡ row_from n a (a + 1)
row_begins n a =
    let e : n - a ≡ n + 1 - (a + 1) = omega arith in
    ap₂ (λ i k. map (pair a) (range i k)) (sym (add-one a)) e

pub row_some : (n a b : ℕ) → b ≤ n → row_from n a b ≡ pair a b ∷ row_from n a (b + 1)
row_some n a b h = ap (map (pair a)) (up_some n b h)

pub row_none : (n a b : ℕ) → n < b → row_from n a b ≡ []
row_none n a b h = ap (map (pair a)) (up_none n b h)

pub pairs_begin : (n : ℕ) → pairs n ≡ pairs_from n 1
pairs_begin n = let e : n ≡ n + 1 - 1 = omega arith in ap (λ k. concat_map (row n) (range 1 k)) e

pub pairs_some : (n a : ℕ) → a ≤ n → pairs_from n a ≡ row n a ++ pairs_from n (a + 1)
pairs_some n a h = ap (concat_map (row n)) (up_some n a h)

pub pairs_none : (n a : ℕ) → n < a → pairs_from n a ≡ []
pairs_none n a h = ap (concat_map (row n)) (up_none n a h)
