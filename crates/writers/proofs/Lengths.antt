-- How many bits words, pairs and tables have in either form, and that they are bits.
use mathlib.Core.Path.{◌≡◌, sym, ap, ◌∙◌}
use mathlib.Core.List.{List, [], ◌∷◌, ◌++◌}
use Prim.Native.Nat.{ℕ, ◌+◌, ◌-◌, ◌*◌}
use native.Mathlib.Omega.{arith}
use native.Mathlib.Nat.{zero-mul, suc-mul, add-mul}
use lib.ListN.{length, get_or, length-append}
use Rattle.model.specs.Word.{Positive}
use Rattle.model.specs.Presentation.{Complement, undefined, complement}
use Rattle.model.specs.Enumeration.{concat_map}
use Rattle.model.specs.Bits.{digits}
use Rattle.cells.specs.Kept.{HoldsPair}
use Rattle.cells.specs.Layout.{cell_at}
use Rattle.bits.proofs.Digits.{AreBits, length_digits, digits_are_bits, bits_append}
use Rattle.images.proofs.RoundTrip.{concat_bits}
use Rattle.writers.specs.Forms.{letter_as, word_as, pair_as, weight_as, table_as}
use Rattle.images.specs.declared.forms.Form.{Form}

-- parts of one length
pub length_concat : {A : Type 0} (f : A → List ℕ) (size : ℕ) → ((x : A) → length (f x) ≡ size) → (xs : List A) → length (concat_map f xs) ≡ length xs * size
length_concat f size h [] = sym (zero-mul size)
length_concat f size h (x ∷ xs) = length-append (f x) (concat_map f xs) ∙ omega (arith, h x, length_concat f size h xs, suc-mul (length xs) size)

module _ (f : Form) where
  word_length : (x : Positive) → length (word_as f x) ≡ f.lengths + length x * f.letters
  word_length x =
      length-append (digits f.lengths (length x)) (concat_map (letter_as f) x)
      ∙ omega (arith, length_digits f.lengths (length x), length_concat (letter_as f) f.letters (λ a. length_digits f.letters (a - (1 - f.low))) x)

  pair_length : (x y : Positive) → f.heads + 2 * f.lengths + (length x + length y) * f.letters ≡ length (pair_as f (complement x y))
  pair_length x y =
      omega (
        arith,
        length-append (digits f.heads f.head) (word_as f x ++ word_as f y),
        length_digits f.heads f.head,
        length-append (word_as f x) (word_as f y),
        word_length x,
        word_length y,
        add-mul (length x) (length y) f.letters,
      )

  -- .. of the pair that two cells hold
  pub open_length : (size : ℕ) (cells : List ℕ) (a b : ℕ) (pair : Complement) → HoldsPair size cells a b pair → get_or cells (cell_at a b) 0 ≡ 255
      → f.opens ≡ length (pair_as f pair)
  open_length size cells a b undefined h e = sym (length_digits f.opens f.mark)
  open_length size cells a b (complement x y) h e = absurd (omega (arith, h.there.count, h.there.in_range.short))

  pub words_length : (size : ℕ) (cells : List ℕ) (a b : ℕ) (pair : Complement) → HoldsPair size cells a b pair
      → (get_or cells (cell_at a b) 0 ≡ 255 → ⊥)
      → f.heads + 2 * f.lengths + (get_or cells (cell_at a b) 0 + get_or cells (cell_at b a) 0) * f.letters ≡ length (pair_as f pair)
  words_length size cells a b undefined h d = absurd (d h.there)
  words_length size cells a b (complement x y) h d = rw (h.there.count, h.back.count) (pair_length x y)

  pub table_length : (size : ℕ) (excess : List ℕ) (rows : List (List Complement)) → length excess ≡ size
      → f.sizes + size * f.weights + length (concat_map (concat_map (pair_as f)) rows) ≡ length (table_as f size excess rows)
  table_length size excess rows many =
      omega (
        arith,
        length-append (digits f.sizes (size - (1 - f.low))) (concat_map (weight_as f) excess ++ concat_map (concat_map (pair_as f)) rows),
        length_digits f.sizes (size - (1 - f.low)),
        length-append (concat_map (weight_as f) excess) (concat_map (concat_map (pair_as f)) rows),
        length_concat (weight_as f) f.weights (λ e. length_digits f.weights (e + f.low)) excess,
        ap (λ n. n * f.weights) many,
      )

-- every field is of bits
module _ (f : Form) where
  word_bits : (x : Positive) → AreBits (word_as f x)
  word_bits x =
      bits_append (digits f.lengths (length x)) (concat_map (letter_as f) x) (digits_are_bits f.lengths (length x))
      (concat_bits (letter_as f) (λ a. digits_are_bits f.letters (a - (1 - f.low))) x)

  pair_bits : (pair : Complement) → AreBits (pair_as f pair)
  pair_bits undefined = digits_are_bits f.opens f.mark
  pair_bits (complement x y) =
      bits_append (digits f.heads f.head) (word_as f x ++ word_as f y) (digits_are_bits f.heads f.head)
      (bits_append (word_as f x) (word_as f y) (word_bits x) (word_bits y))

  pub table_are_bits : (size : ℕ) (excess : List ℕ) (rows : List (List Complement)) → AreBits (table_as f size excess rows)
  table_are_bits size excess rows =
      bits_append (digits f.sizes (size - (1 - f.low))) (concat_map (weight_as f) excess ++ concat_map (concat_map (pair_as f)) rows)
      (digits_are_bits f.sizes (size - (1 - f.low)))
      (bits_append (concat_map (weight_as f) excess) (concat_map (concat_map (pair_as f)) rows)
      (concat_bits (weight_as f) (λ e. digits_are_bits f.weights (e + f.low)) excess)
      (concat_bits (concat_map (pair_as f)) (concat_bits (pair_as f) pair_bits) rows))
