-- Where a pair stands in the order of 4.1: the pairs of smaller first numbers come before it, and then those of its own row up to it.
use mathlib.Core.Path.{◌≡◌, refl, ap, ◌∙◌}
use mathlib.Core.Logic.{◌≢◌}
use mathlib.Core.List.{List, [], ◌∷◌, ◌++◌, map}
use mathlib.Core.Bool.{Bool, true, false, ◌&&◌, ◌||◌, cond}
use Prim.Native.Nat.{ℕ, zero, suc, ◌+◌, ◌-◌, ◌*◌, ◌≤◌, ◌<◌}
use native.Mathlib.Omega.{arith}
use native.Mathlib.Nat.{mul-le-mul_left}
use native.Mathlib.Decide.{ℕ_discrete, dec_lt}
use lib.Dec.{eqb}
use lib.ListN.{length, length-append}
use borrow.Author.Tests.{eq-eqb, ne_eqb}
use Rattle.model.specs.Range.{InRange}
use Rattle.model.specs.Enumeration.{range, concat_map, Two, pairs}
use Rattle.model.specs.Bed.{is_pair, position}

-- of two numbers in either order
or_turned : (s t : Bool) → s || t ≡ t || s
or_turned true true = refl
or_turned true false = refl
or_turned false true = refl
or_turned false false = refl

pub position_turned : (x y : ℕ) (ps : List Two) → position x y ps ≡ position y x ps
position_turned x y [] = refl
position_turned x y (p ∷ ps) =
    ap (λ t. cond t 0 (suc (position x y ps))) (or_turned (eqb p.a x && eqb p.b y) (eqb p.a y && eqb p.b x))
    ∙ ap (λ k. cond (is_pair y x p) 0 (suc k)) (position_turned x y ps)

-- the pairs of a with the k numbers from one on
abbrev pub row_of : ℕ → ℕ → ℕ → List Two
row_of a from k = map (λ b. record { a = a; b = b }) (range from k)

row_length : (a from k : ℕ) → length (row_of a from k) ≡ k
row_length a from zero = refl
row_length a from (suc k) = ap suc (row_length a (suc from) k)

-- the pairs from row a on
abbrev pub rows_from : ℕ → ℕ → ℕ → List Two
rows_from m a k = concat_map (λ a. row_of a (suc a) (m - a)) (range a k)

-- how many pairs the j rows from a on have
abbrev pub rows : ℕ → ℕ → ℕ → ℕ
rows m a zero = 0
rows m a (suc j) = (m - a) + rows m (suc a) j

rows_length : (m a k : ℕ) → length (rows_from m a k) ≡ rows m a k
rows_length m a zero = refl
rows_length m a (suc k) =
    length-append (row_of a (suc a) (m - a)) (rows_from m (suc a) k)
    ∙ (ap (λ n. n + length (rows_from m (suc a) k)) (row_length a (suc a) (m - a)) ∙ ap (λ n. (m - a) + n) (rows_length m (suc a) k))

-- a row of another first number is passed
module _ (x y a : ℕ) (below : a < x) (order : x < y) where
  not_here : (b : ℕ) → is_pair x y (record { a = a; b = b }) ≡ false
  not_here b =
      ap (λ t. (t && eqb b y) || (eqb a y && eqb b x)) (ne_eqb a x (omega arith))
      ∙ ap (λ t. t && eqb b x) (ne_eqb a y (omega arith))

  row_passed : (from k : ℕ) (ps : List Two) → position x y (row_of a from k ++ ps) ≡ k + position x y ps
  row_passed from zero ps = omega arith
  row_passed from (suc k) ps =
      ap (λ t. cond t 0 (suc (position x y (row_of a (suc from) k ++ ps)))) (not_here from)
      ∙ (ap suc (row_passed (suc from) k ps) ∙ omega arith)

-- in its own row it stands behind those of smaller second numbers
module _ (x y : ℕ) (order : x < y) where
  here : is_pair x y (record { a = x; b = y }) ≡ true
  here =
      ap (λ t. (t && eqb y y) || (eqb x y && eqb y x)) (eq-eqb x x refl)
      ∙ ap (λ t. t || (eqb x y && eqb y x)) (eq-eqb y y refl)

  not_yet : (b : ℕ) → b ≢ y → is_pair x y (record { a = x; b = b }) ≡ false
  not_yet b h =
      ap (λ t. (eqb x x && t) || (eqb x y && eqb b x)) (ne_eqb b y h)
      ∙ (ap (λ t. (t && false) || (eqb x y && eqb b x)) (eq-eqb x x refl) ∙ ap (λ t. t && eqb b x) (ne_eqb x y (omega arith)))

  row_met : (from k : ℕ) (ps : List Two) → from ≤ y → y < from + k → position x y (row_of x from k ++ ps) ≡ y - from
  row_met from zero ps low high = absurd (omega arith)
  row_met from (suc k) ps low high = go (ℕ_discrete from y) (λ l. row_met (suc from) k ps l (omega arith))
    where
      go : Dec (from ≡ y) → (suc from ≤ y → position x y (row_of x (suc from) k ++ ps) ≡ y - suc from)
          → position x y (row_of x from (suc k) ++ ps) ≡ y - from
      go (yes e) rest =
          ap (λ b. cond (is_pair x y (record { a = x; b = b })) 0 (suc (position x y (row_of x (suc from) k ++ ps)))) e
          ∙ (ap (λ t. cond t 0 (suc (position x y (row_of x (suc from) k ++ ps)))) here ∙ omega arith)
      go (no e) rest =
          ap (λ t. cond t 0 (suc (position x y (row_of x (suc from) k ++ ps)))) (not_yet from e)
          ∙ (ap suc (rest (omega arith)) ∙ omega arith)

-- the position of x, y among all pairs of m numbers, which is one of theirs
pub record Placed (m x y at : ℕ) : Type 0 where
  pub at_is : at ≡ rows m 1 (x - 1) + (y - x - 1)
  pub inside : at < rows m 1 m

module _ (m x y : ℕ) (order : x < y) (high : y ≤ m) where
  record FromRow (a k at : ℕ) : Type 0 where
    at_is : at ≡ rows m a (x - a) + (y - x - 1)
    inside : at < rows m a k

  from_row : (a k : ℕ) → a ≤ x → a + k ≡ suc m → FromRow a k (position x y (rows_from m a k))
  from_row a zero low e = absurd (omega arith)
  from_row a (suc k) low e = go (ℕ_discrete a x) (λ l. from_row (suc a) k l (omega arith))
    where
      go : Dec (a ≡ x) → (suc a ≤ x → FromRow (suc a) k (position x y (rows_from m (suc a) k))) → FromRow a (suc k) (position x y (rows_from m a (suc k)))
      go (yes p) rest =
          let met : position x y (rows_from m a (suc k)) ≡ y - suc a =
          ap (λ n. position x y (row_of n (suc a) (m - a) ++ rows_from m (suc a) k)) p ∙ row_met x y order (suc a) (m - a) (rows_from m (suc a) k) (omega arith)
          (omega arith) in
          record {
            at_is = met ∙ (nothing_before ∙ ap (λ j. rows m a j + (y - x - 1)) {x = 0} {y = x - a} (omega arith));
            inside = omega (arith, met);
          }
        where
          nothing_before : y - suc a ≡ 0 + (y - x - 1)
          nothing_before = omega arith
      go (no p) rest =
          let more : suc a ≤ x = omega arith in
          let r = rest more in
          let past = row_passed x y a (omega arith) order (suc a) (m - a) (rows_from m (suc a) k) in
          let one_row : rows m a (suc (x - suc a)) ≡ rows m a (x - a) = ap (rows m a) {x = suc (x - suc a)} {y = x - a} (omega arith) in
          record {
            at_is = omega (arith, past, r.at_is, one_row);
            inside = omega (arith, past, r.inside);
          }

  pub placed : 1 ≤ x → Placed m x y (position x y (pairs m))
  placed low = let r = from_row 1 m low (omega arith) in record { at_is = r.at_is; inside = r.inside }

pub pairs_many : (m : ℕ) → length (pairs m) ≡ rows m 1 m
pairs_many m = rows_length m 1 m

-- twice the pairs of the j rows from a on
rows_twice : (m a j : ℕ) → a + j ≤ suc m → 2 * rows m a j + 2 * (a * j) + j * j ≡ 2 * (m * j) + j
rows_twice m a zero h = omega arith
rows_twice m a (suc j) h = let r = rows_twice m (suc a) j (omega arith) in omega (arith, r)

-- the same as a product
pub rows_product : (m j : ℕ) → j < m → j * (2 * m - 1 - j) ≡ 2 * rows m 1 j
rows_product m j h = go (2 * m - 1 - j) (omega arith)
  where
    go : (d : ℕ) → d + j + 1 ≡ 2 * m → j * d ≡ 2 * rows m 1 j
    go d e = omega (arith, rows_twice m 1 j (omega arith), ap (λ t. j * t) e)

-- m numbers, and twice their pairs, are m times m
pub pairs_square : (m : ℕ) → m + 2 * rows m 1 m ≡ m * m
pairs_square m = omega (arith, rows_twice m 1 m (omega arith))

pub pairs_few : (m : ℕ) → m ≤ 17 → rows m 1 m ≤ 136
pairs_few m h = omega (arith, pairs_square m, mul-le-mul_left m h)

pub pairs_product : (m : ℕ) → 1 ≤ m → m * (m - 1) ≡ 2 * rows m 1 m
pairs_product m h = go (m - 1) (omega arith)
  where
    go : (d : ℕ) → d + 1 ≡ m → m * d ≡ 2 * rows m 1 m
    go d e = omega (arith, pairs_square m, ap (λ t. m * t) e)

-- the position of two different numbers, in either order
module _ (m x y : ℕ) (rx : InRange m x) (ry : InRange m y) (differ : x ≢ y) where
  pub position_inside : position x y (pairs m) < length (pairs m)
  position_inside = go (dec_lt x y)
    where
      go : Dec (x < y) → position x y (pairs m) < length (pairs m)
      go (yes l) = omega (arith, (placed m x y l ry.high rx.low).inside, pairs_many m)
      go (no l) = omega (arith, (placed m y x (omega arith) rx.high ry.low).inside, pairs_many m, position_turned x y (pairs m))

  pub position_few : m ≤ 17 → position x y (pairs m) < 136
  position_few h = omega (arith, position_inside, pairs_many m, pairs_few m h)
