-- The binary digits of a number, counted from its leading zeros. A letter's width is at most four.
use mathlib.Core.Path.{◌≡◌, ap, ◌∙◌}
use Prim.Native.Nat.{ℕ, zero, suc, ◌+◌, ◌-◌, ◌*◌, ◌/◌, ◌^◌, ◌≤◌, ◌<◌}
use native.Mathlib.Omega.{arith}
use mathlib.Core.Bool.{Bool, true, false, cond}
use lib.Dec.{eqb}
use borrow.Author.Tests.{ne_eqb}
use native.Mathlib.Nat.{pow-suc}
use lib.Count.{count_leading_zeros, leading_of_zero}
use Rattle.model.specs.Bits.{binary_digits, letter_width}
use Rattle.model.specs.Images.{most_size, size_width}

-- of k places the leading zeros and the digits take all
pub zeros_and_digits : (most more m : ℕ) → m < 2 ^ most → count_leading_zeros (most + more) m + binary_digits most m ≡ most + more
unfolding count_leading_zeros
zeros_and_digits zero more m h =
    let z : m ≡ 0 = omega arith in
    ap (λ k. count_leading_zeros (0 + more) k + 0) z ∙ omega (arith, leading_of_zero (0 + more))
zeros_and_digits (suc most) more zero h = omega (arith, leading_of_zero (suc most + more))
zeros_and_digits (suc most) more (suc m) h =
    let s : suc most + more ≡ suc (most + more) = omega arith in
    let i : count_leading_zeros (most + more) (suc m / 2) + binary_digits most (suc m / 2) ≡ most + more =
    zeros_and_digits most more (suc m / 2) (omega (arith, pow-suc 2 most)) in
    let d : binary_digits (suc most) (suc m) ≡ suc (binary_digits most (suc m / 2)) =
    ap (λ t. cond t 0 (suc (binary_digits most (suc m / 2)))) (ne_eqb (suc m) 0 (λ e. omega arith)) in
    let l : count_leading_zeros (suc most + more) (suc m) ≡ count_leading_zeros (most + more) (suc m / 2) = ap (λ k. count_leading_zeros k (suc m)) s in
    omega arith

pub width_is : (n : ℕ) → 1 ≤ n → n ≤ most_size → 8 - count_leading_zeros 8 (n - 1) ≡ letter_width n
width_is n l h =
    let e : count_leading_zeros 8 (n - 1) + letter_width n ≡ 8 = zeros_and_digits 4 4 (n - 1) (omega arith) in
    omega arith

pub digits_at_most : (most m : ℕ) → binary_digits most m ≤ most
digits_at_most zero m = omega arith
digits_at_most (suc most) m = by_case (eqb m 0) (digits_at_most most (m / 2))
  where
    by_case : (t : Bool) → binary_digits most (m / 2) ≤ most → cond t 0 (suc (binary_digits most (m / 2))) ≤ suc most
    by_case true h = omega arith
    by_case false h = omega arith

pub width_small : (n : ℕ) → letter_width n ≤ size_width
width_small n = digits_at_most 4 (n - 1)

-- a number is below 2 to the number of its digits
pub below_digits : (most m : ℕ) → m < 2 ^ most → m < 2 ^ binary_digits most m
below_digits zero m h = h
below_digits (suc most) zero h = omega arith
below_digits (suc most) (suc m) h =
    let d : binary_digits (suc most) (suc m) ≡ suc (binary_digits most (suc m / 2)) =
    ap (λ t. cond t 0 (suc (binary_digits most (suc m / 2)))) (ne_eqb (suc m) 0 (λ e. omega arith)) in
    let i : suc m / 2 < 2 ^ binary_digits most (suc m / 2) = below_digits most (suc m / 2) (omega (arith, pow-suc 2 most)) in
    let p : 2 ^ binary_digits (suc most) (suc m) ≡ 2 ^ binary_digits most (suc m / 2) * 2 = ap (λ n. 2 ^ n) d ∙ pow-suc 2 (binary_digits most (suc m / 2)) in
    omega arith

-- a letter's number less 1 fits its field
pub letter_fits : (n a : ℕ) → n ≤ most_size → 1 ≤ a → a ≤ n → a - 1 < 2 ^ letter_width n
letter_fits n a few positive small =
    let m : n - 1 < 2 ^ letter_width n = below_digits 4 (n - 1) (omega arith) in
    omega arith
