-- Numbers in texts (specification 6.17): the bytes of digits, and how a number of one digit or two is written.
-- From the definitions alone. Main names: `digit_from`, `decimal_one`, `decimal_two`, `digits_of`.
use mathlib.Core.Path.{◌≡◌, ap, ◌∙◌}
use mathlib.Core.Logic.{◌⊎◌, inl, inr}
use mathlib.Core.List.{List, [], ◌∷◌}
use mathlib.Core.Bool.{true}
use Prim.Native.Nat.{ℕ, ◌+◌, ◌*◌, ◌/◌, ◌%◌, ◌≤◌, ◌<◌}
use native.Mathlib.Omega.{arith}
use lib.Dec.{leb}
use borrow.Author.Tests.{leb-true, lt-ltb, le-ltb, le-leb}
use Rattle.model.specs.Notation.{most_number, zero_byte, decimal, is_digit}
use Rattle.model.proofs.Booleans.{both_true, both}
use Rattle.model.proofs.Numbers.{below_or}

-- a digit's byte is one of ten
pub digit_from : (x : ℕ) → is_digit x ≡ true → (zero_byte ≤ x) × (x ≤ zero_byte + 9)
digit_from x e =
    let h = both_true (leb zero_byte x) (leb x (zero_byte + 9)) e in
    (leb-true zero_byte x h.0, leb-true x (zero_byte + 9) h.1)

-- and each of the ten is a digit's
pub digit_is : (x : ℕ) → zero_byte ≤ x → x ≤ zero_byte + 9 → is_digit x ≡ true
digit_is x low high = both (le-leb zero_byte x low) (le-leb x (zero_byte + 9) high)

-- how a number of one digit is written, and one of two
pub decimal_one : (a : ℕ) → a < 10 → decimal a ≡ (zero_byte + a) ∷ []
decimal_one a h = rw (lt-ltb a 10 h)

pub decimal_two : (t u : ℕ) → 1 ≤ t → u < 10 → decimal (10 * t + u) ≡ (zero_byte + t) ∷ (zero_byte + u) ∷ []
decimal_two t u p h =
    let tens : (10 * t + u) / 10 ≡ t = omega arith in
    let ones : (10 * t + u) % 10 ≡ u = omega arith in
    rw (le-ltb (10 * t + u) 10 (omega arith), tens, ones)

-- a number in range has one digit, or two of which the first is not 0
pub data Digits (a : ℕ) : Type 0 where
  one_digit : a < 10 → Digits a
  two_digits : (t u : ℕ) → 1 ≤ t → t < 10 → u < 10 → a ≡ 10 * t + u → Digits a

pub digits_of : (a : ℕ) → a ≤ most_number → Digits a
digits_of a h = go (below_or a 10)
  where
    go : (a < 10) ⊎ (10 ≤ a) → Digits a
    go (inl l) = one_digit l
    go (inr g) = two_digits (a / 10) (a % 10) (omega arith) (omega arith) (omega arith) (omega arith)

-- the text of a number begins with a digit
pub record DigitFirst (a : ℕ) : Type 0 where
  pub first : ℕ
  pub others : List ℕ
  pub written : decimal a ≡ first ∷ others
  pub digit : is_digit first ≡ true

-- that of a number in range does
pub digit_first : (a : ℕ) → a ≤ most_number → DigitFirst a
digit_first a h = go (digits_of a h)
  where
    go : Digits a → DigitFirst a
    go (one_digit l) =
        record { first = zero_byte + a; others = []; written = decimal_one a l; digit = digit_is (zero_byte + a) (omega arith) (omega arith) }
    go (two_digits t u p l m e) =
        record {
          first = zero_byte + t;
          others = (zero_byte + u) ∷ [];
          written = ap decimal e ∙ decimal_two t u p m;
          digit = digit_is (zero_byte + t) (omega arith) (omega arith);
        }
