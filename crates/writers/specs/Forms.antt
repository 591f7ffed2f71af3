-- A table written out in either form, field after field, and that every number fits its field.
use Rattle.std.specs.Prelude.{List, ◌++◌, ℕ, ◌+◌, ◌-◌, ◌^◌, ◌≤◌, ◌<◌, length}
use Rattle.model.specs.Word.{Positive}
use Rattle.model.specs.Presentation.{Complement, undefined, complement}
use Rattle.model.specs.Enumeration.{concat_map}
use Rattle.model.specs.Bits.{digits}
use Rattle.model.specs.Images.{weight_width, most_length}
use Rattle.model.specs.Range.{InRange}
use Rattle.images.specs.declared.forms.Form.{Form}

abbrev pub letter_as : Form → ℕ → List ℕ
letter_as f a = digits f.letters (a - (1 - f.low))

abbrev pub word_as : Form → Positive → List ℕ
word_as f x = digits f.lengths (length x) ++ concat_map (letter_as f) x

abbrev pub pair_as : Form → Complement → List ℕ
pair_as f undefined = digits f.opens f.mark
pair_as f (complement x y) = digits f.heads f.head ++ (word_as f x ++ word_as f y)

-- a weight, of which the table has what it is above 1
abbrev pub weight_as : Form → ℕ → List ℕ
weight_as f e = digits f.weights (e + f.low)

abbrev pub table_as : Form → ℕ → List ℕ → List (List Complement) → List ℕ
table_as f size excess rows = digits f.sizes (size - (1 - f.low)) ++ (concat_map (weight_as f) excess ++ concat_map (concat_map (pair_as f)) rows)

-- of a table of so many letters every number fits its field, and no field is wider than a byte
pub record FormFor (size : ℕ) (f : Form) : Type 0 where
  pub sizes_narrow : f.sizes ≤ 8
  pub weights_narrow : f.weights ≤ 8
  pub opens_narrow : f.opens ≤ 8
  pub heads_narrow : f.heads ≤ 8
  pub lengths_narrow : f.lengths ≤ 8
  pub letters_narrow : f.letters ≤ 8
  pub low_small : f.low ≤ 1
  pub size_fits : size - (1 - f.low) < 2 ^ f.sizes
  pub weight_fits : (e : ℕ) → e < 2 ^ weight_width → e + f.low < 2 ^ f.weights
  pub mark_fits : f.mark < 2 ^ f.opens
  pub head_fits : f.head < 2 ^ f.heads
  pub length_fits : most_length < 2 ^ f.lengths
  pub letter_fits : (a : ℕ) → InRange size a → a - (1 - f.low) < 2 ^ f.letters
