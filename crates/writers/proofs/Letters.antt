-- The bits of a program's letters: a sign and a number as one field, and the letters one after another.
use mathlib.Core.Path.{◌≡◌, refl, sym, ap, ◌∙◌}
use mathlib.Core.List.{List, [], ◌∷◌, ◌++◌, append-nil, map}
use mathlib.Core.Bool.{Bool, true, false, cond}
use Prim.Native.Nat.{ℕ, ◌+◌, ◌-◌, ◌*◌, ◌/◌, ◌%◌, ◌^◌, ◌≤◌, ◌<◌}
use native.Mathlib.Omega.{arith}
use native.Mathlib.Numerals.{add-one}
use borrow.Author.Tests.{ltb-true}
use lib.Dec.{ltb}
use lib.ListN.{length, take, get_or, length-append, length-map}
use lib.Seq.{length-take-le, take-suc, take_all}
use lib.Pow.{shl_exact}
use Rattle.model.specs.Word.{forward, back, letter}
use Rattle.model.specs.Enumeration.{concat_map}
use Rattle.model.specs.Bits.{digits, pack, letter_width}
use Rattle.model.specs.Images.{letter_bits, signed_bits, program_image, count_width}
use Rattle.model.specs.Plain.{names_letter}
use Rattle.model.proofs.Lists.{concat_append}
use Rattle.bits.proofs.Digits.{AreBits, length_digits, digits_are_bits, bits_append, digits_append, digits_joined, digits_mod}
use Rattle.bits.proofs.Width.{letter_fits}
use Rattle.images.specs.Widths.{WidthOf}
use Rattle.plain_forms.proofs.Programs.{named_positive, named_small}
use Rattle.images.proofs.Placed.{length_signed}
use Rattle.images.proofs.RoundTrip.{concat_bits, signed_are_bits}
use Rattle.writers.specs.Programs.{program_bits}
use Rattle.writers.proofs.Lengths.{length_concat}

-- a sign and a number are a letter's bits
sign_and_number : (size width x : ℕ) → x < 256 → width ≡ letter_width size → digits 1 (x / 128) ++ digits width (x % 128 - 1) ≡ signed_bits size (letter x)
sign_and_number size width x h e = ap (λ w. digits 1 (x / 128) ++ digits w (x % 128 - 1)) e ∙ by_sign (ltb x 128) refl
  where
    by_sign : (t : Bool) → ltb x 128 ≡ t → digits 1 (x / 128) ++ letter_bits size (x % 128) ≡ signed_bits size (cond t (forward x) (back (x - 128)))
    by_sign true s =
        let l : x < 128 = ltb-true x 128 s in
        ap (λ v. digits 1 v ++ letter_bits size (x % 128)) {x = x / 128} {y = 0} (omega arith) ∙ ap (λ v. 0 ∷ letter_bits size v) {x = x % 128} {y = x}
        (omega arith)
    by_sign false s =
        let l : 128 ≤ x = borrow.Author.Tests.ltb-false x 128 s in
        ap (λ v. digits 1 v ++ letter_bits size (x % 128)) {x = x / 128} {y = 1} (omega arith) ∙ ap (λ v. 1 ∷ letter_bits size v) {x = x % 128} {y = x - 128}
        (omega arith)

-- the sign and the number as one field; `value` is what code computes of the letter's byte, at 32 bits
module _ (size width x : ℕ) (of : WidthOf size width) (byte : x < 256) (named : names_letter size x ≡ true) where
  abbrev value : ℕ
  value = x / 128 * 2 ^ width % 4294967296 + (x % 128 - 1)

  -- the shift of the sign loses no bit
  shifted : x / 128 * 2 ^ width % 4294967296 ≡ x / 128 * 2 ^ width
  shifted = shl_exact 1 width 32 (omega arith) (omega arith)

  pub signed_written : digits (1 + width) value ≡ signed_bits size (letter x)
  signed_written =
      let n : x % 128 - 1 < 2 ^ letter_width size = letter_fits size (x % 128) of.few (named_positive size x named) (named_small size x named) in
      let small : x % 128 - 1 < 2 ^ width = rw of.width_is n in
      ap (λ s. digits (1 + width) (s + (x % 128 - 1))) shifted
      ∙ (digits_joined 1 width (x / 128) (x % 128 - 1) small ∙ sign_and_number size width x byte of.width_is)

-- THE LETTERS OF A PROGRAM, one more at a time

-- the bits of the first i letters
unfoldable pub first_bits : ℕ → List ℕ → ℕ → List ℕ
first_bits size plain i = concat_map (signed_bits size) (map letter (take i plain))

module _ (size width : ℕ) (width_is : width ≡ letter_width size) (plain : List ℕ) where
  pub first_length : (i : ℕ) → i ≤ length plain → length (first_bits size plain i) ≡ i * (1 + width)
  unfolding first_bits
  first_length i h =
      length_concat (signed_bits size) (1 + width) (λ x. length_signed size x ∙ ap (λ w. 1 + w) (sym width_is)) (map letter (take i plain))
      ∙ ap (λ n. n * (1 + width)) (length-map (take i plain) letter ∙ length-take-le i plain h)

  pub first_more : (i : ℕ) → i < length plain → first_bits size plain i ++ signed_bits size (letter (get_or plain i 0)) ≡ first_bits size plain (i + 1)
  unfolding first_bits
  first_more i h =
      ap (λ l. concat_map (signed_bits size) (map letter (take i plain)) ++ l) (sym (append-nil (signed_bits size (letter (get_or plain i 0)))))
      ∙ (sym (concat_append (signed_bits size) (map letter (take i plain)) (letter (get_or plain i 0) ∷ []))
      ∙ ap (concat_map (signed_bits size))
      (one_letter (take i plain) (get_or plain i 0) ∙ ap (map letter) (sym (take-suc plain i 0 h) ∙ ap (λ k. take k plain) (sym (add-one i)))))
    where
      one_letter : (xs : List ℕ) (x : ℕ) → map letter xs ++ (letter x ∷ []) ≡ map letter (xs ++ (x ∷ []))
      one_letter [] x = refl
      one_letter (y ∷ xs) x = ap (λ l. letter y ∷ l) (one_letter xs x)

  pub first_all : (i : ℕ) → length plain ≤ i → digits count_width (length plain) ++ first_bits size plain i ≡ program_bits size plain
  unfolding first_bits program_bits
  first_all i h = ap (λ l. digits count_width (length plain) ++ concat_map (signed_bits size) (map letter l)) (take_all i plain h)

  pub program_length : length (program_bits size plain) ≡ count_width + length plain * (1 + width)
  program_length =
      ap length (sym (first_all (length plain) (omega arith)))
      ∙ (length-append (digits count_width (length plain)) (first_bits size plain (length plain))
      ∙ omega (arith, length_digits count_width (length plain), first_length (length plain) (omega arith)))

pub program_bits_lem : (size : ℕ) (plain : List ℕ) → AreBits (program_bits size plain)
unfolding program_bits
program_bits_lem size plain =
    bits_append (digits count_width (length plain)) (concat_map (signed_bits size) (map letter plain)) (digits_are_bits count_width (length plain))
    (concat_bits (signed_bits size) (signed_are_bits size) (map letter plain))

pub program_image_lem : (size : ℕ) (plain : List ℕ) → program_image size (map letter plain) ≡ pack (program_bits size plain)
unfolding program_bits program_image
program_image_lem size plain = ap (λ n. pack (digits count_width n ++ concat_map (signed_bits size) (map letter plain))) (length-map plain letter)

-- the count's twelve bits, as four and eight
pub count_parts : (n : ℕ) → digits (count_width - 8) (n / 256) ++ digits 8 (n % 256) ≡ digits count_width n
count_parts n = ap (λ l. digits (count_width - 8) (n / 256) ++ l) (digits_mod 8 n) ∙ sym (digits_append (count_width - 8) 8 n)
