-- A number's text is the number in decimal: its digits, read from the left, come to it.
use mathlib.Core.Path.{◌≡◌, sym, ap, ap₂, ◌∙◌}
use mathlib.Core.List.{List, [], ◌∷◌, ◌++◌}
use Prim.Native.Nat.{ℕ, ◌+◌, ◌-◌, ◌*◌, ◌/◌, ◌%◌, ◌≤◌, ◌<◌}
use native.Mathlib.Nat.{div-div-eq-div-mul, mod-eq_of_lt}
use native.Mathlib.Decide.{dec_lt}
use native.Mathlib.Omega.{arith}
use Rattle.text.specs.Text.{zero_digit, digit, number}
use Rattle.text.proofs.Putting.{digit_none, digit_some}

abbrev pub value : ℕ → List ℕ → ℕ
value sum [] = sum
value sum (c ∷ cs) = value (10 * sum + (c - zero_digit)) cs

-- the digits that a number has, by how many they are
module _ (x : ℕ) where
  abbrev ones : List ℕ
  ones = (zero_digit + x % 10) ∷ []

  abbrev at : ℕ → List ℕ
  at power = (zero_digit + (x / power) % 10) ∷ []

  parts : (a b c d : List ℕ) → a ≡ digit 10000 x → b ≡ digit 1000 x → c ≡ digit 100 x → d ≡ digit 10 x → a ++ (b ++ (c ++ (d ++ ones))) ≡ number x
  unfolding number
  parts a b c d e f g h = ap₂ ◌++◌ e (ap₂ ◌++◌ f (ap₂ ◌++◌ g (ap (λ l. l ++ ones) h)))

  none : (power : ℕ) → x < power → [] ≡ digit power x
  none power h = digit_none power x h

  some : (power : ℕ) → power ≤ x → at power ≡ digit power x
  some power h = digit_some power x h

  -- each quotient from the one before
  hundreds : x / 100 ≡ x / 10 / 10
  hundreds = sym (div-div-eq-div-mul x 10 10)

  thousands : x / 1000 ≡ x / 100 / 10
  thousands = sym (div-div-eq-div-mul x 100 10)

  tens_of_thousands : x / 10000 ≡ x / 1000 / 10
  tens_of_thousands = sym (div-div-eq-div-mul x 1000 10)

  pub number_value : x < 100000 → value 0 (number x) ≡ x
  number_value h = five (dec_lt x 10000)
    where
      two : Dec (x < 10) → x < 100 → value 0 (number x) ≡ x
      two (yes l) i =
          sym (ap (value 0) (parts [] [] [] [] (none 10000 (omega arith)) (none 1000 (omega arith)) (none 100 i) (none 10 l))) ∙ omega arith
      two (no l) i =
          sym (ap (value 0) (parts [] [] [] (at 10) (none 10000 (omega arith)) (none 1000 (omega arith)) (none 100 i) (some 10 (omega arith)))) ∙ omega arith

      three : Dec (x < 100) → x < 1000 → value 0 (number x) ≡ x
      three (yes l) i = two (dec_lt x 10) l
      three (no l) i =
          sym (ap (value 0) (parts [] [] (at 100) (at 10) (none 10000 (omega arith)) (none 1000 i) (some 100 (omega arith)) (some 10 (omega arith))))
          ∙ omega (arith, hundreds, mod-eq_of_lt {n = x / 100} {m = 10} (omega arith))

      four : Dec (x < 1000) → x < 10000 → value 0 (number x) ≡ x
      four (yes l) i = three (dec_lt x 100) l
      four (no l) i =
          sym (ap (value 0) (parts [] (at 1000) (at 100) (at 10) (none 10000 i) (some 1000 (omega arith)) (some 100 (omega arith)) (some 10 (omega arith))))
          ∙ omega (arith, hundreds, thousands, mod-eq_of_lt {n = x / 1000} {m = 10} (omega arith))

      five : Dec (x < 10000) → value 0 (number x) ≡ x
      five (yes l) = four (dec_lt x 1000) l
      five (no l) =
          sym (ap (value 0) (parts (at 10000) (at 1000) (at 100) (at 10) (some 10000 (omega arith)) (some 1000 (omega arith)) (some 100 (omega arith))
          (some 10 (omega arith)))) ∙ omega (arith, hundreds, thousands, tens_of_thousands, mod-eq_of_lt {n = x / 10000} {m = 10} (omega arith))
