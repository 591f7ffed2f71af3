-- What the next field of an image is, as the model's readers have it.
use Rattle.std.specs.Prelude.{List, ◌≡◌, ℕ, ◌+◌, ◌*◌, ◌^◌, ◌≤◌, ◌<◌, length, drop, Some, None, Ok, Err}
use Rattle.std.specs.declared.option.Option.{Option}
use Rattle.std.specs.declared.result.Result.{Result}
use Rattle.model.specs.Outcome.{unplaced, answered, refused}
use Rattle.model.specs.Bits.{bits_of, field, letter_width}
use Rattle.model.specs.Images.{letter_field, most_size, size_width}
use Rattle.model.specs.declared.answers.Refusal.{Refusal}
use Rattle.model.specs.declared.answers.Refusal.TheVariants.{TableEnds, TableField, ImageEnds, ImageField}
use Rattle.images.specs.declared.fields.FieldFault.{FieldFault}
use Rattle.images.specs.declared.fields.FieldFault.TheVariants.{Ends, Wrong}
use Rattle.bits.specs.Fields.{most_width}

-- the number of the refusal where a field ends early, and where it is wrong
abbrev pub fault_code : ℕ → ℕ → FieldFault → ℕ
fault_code early wrong Ends = early
fault_code early wrong Wrong = wrong

-- .. as it is told of the image of a program or a chain, and of a table
abbrev pub image_refusal : FieldFault → Refusal
image_refusal Ends = ImageEnds
image_refusal Wrong = ImageField

abbrev pub table_refusal : FieldFault → Refusal
table_refusal Ends = TableEnds
table_refusal Wrong = TableField

-- a position inside an image, before a field of at most 16 bits whose end is a `usize`
pub record Position (image : List ℕ) (at width : ℕ) : Type 0 where
  pub narrow : width ≤ most_width
  pub inside : at ≤ 8 * length image
  pub small : at + width + 7 < 2 ^ 64

-- a position inside an image, before letters of the width that `size` letters have
pub record Before (image : List ℕ) (at size width : ℕ) : Type 0 where
  pub inside : at ≤ 8 * length image
  pub small : at ≤ 2 ^ 40
  pub some : 1 ≤ size
  pub few : size ≤ most_size
  pub narrow : width ≤ size_width
  pub width_is : width ≡ letter_width size

-- the bits from a position on
abbrev pub from : List ℕ → ℕ → List ℕ
from image at = drop at (bits_of image)

-- the field was read, and the bits after it are left
pub record FieldAt (image : List ℕ) (at width value : ℕ) : Type 0 where
  pub inside : at + width ≤ 8 * length image
  pub small : value < 2 ^ width
  pub read : (early : ℕ) → field early width (from image at) ≡ answered (record { value = value; rest = from image (at + width) })

abbrev pub FieldDone : List ℕ → ℕ → ℕ → Option ℕ → Type 0
FieldDone image at width (Some v) = FieldAt image at width v
FieldDone image at width None = (early : ℕ) → field early width (from image at) ≡ refused early unplaced

pub record LetterAt (image : List ℕ) (at size width a : ℕ) : Type 0 where
  pub inside : at + width ≤ 8 * length image
  pub positive : 1 ≤ a
  pub small : a ≤ size
  pub read : (early wrong : ℕ) → letter_field early wrong size (from image at) ≡ answered (record { value = a; rest = from image (at + width) })

abbrev pub LetterDone : List ℕ → ℕ → ℕ → ℕ → Result ℕ FieldFault → Type 0
LetterDone image at size width (Ok a) = LetterAt image at size width a
LetterDone image at size width (Err f) =
    (early wrong : ℕ) → letter_field early wrong size (from image at) ≡ refused (fault_code early wrong f) unplaced
