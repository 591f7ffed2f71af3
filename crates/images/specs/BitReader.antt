-- What a reader of an image's bits holds, and what it takes of them.
use Rattle.std.specs.Prelude.{List, ◌≡◌, ℕ, ◌-◌, ◌*◌, ◌%◌, ◌^◌, ◌≤◌, ◌<◌, length, take, drop, get_or, Some, None, Ok, Err}
use Rattle.std.specs.declared.option.Option.{Option}
use Rattle.std.specs.declared.result.Result.{Result}
use Rattle.model.specs.Bits.{number}
use Rattle.model.specs.Outcome.{unplaced, answered, refused}
use Rattle.images.specs.Fields.{from, fault_code}
use Rattle.images.specs.Forms.{number_in}
use Rattle.images.specs.declared.fields.FieldFault.{FieldFault}
use Rattle.images.specs.declared.fields.FieldFault.TheVariants.{Ends, Wrong}

-- the bits that are not taken yet
abbrev pub left : List ℕ → ℕ → ℕ → List ℕ
left image next held = from image (8 * next - held)

-- the bits that are held are those of the image from there up to the next byte: the last digits of a number
pub record Holds (image : List ℕ) (next held bits : ℕ) : Type 0 where
  pub read : next ≤ length image
  pub begun : held ≤ 8 * next
  pub value : bits % 2 ^ held ≡ number 0 (take held (left image next held))

-- between two fields they are fewer than eight
pub record Reads (image : List ℕ) (next held bits : ℕ) : Type 0 where
  pub holds : Holds image next held bits
  pub few : held < 8

-- a field was taken of the bits before, and those after are left
pub record TakenAt (before : List ℕ) (width value : ℕ) (after : List ℕ) : Type 0 where
  pub inside : width ≤ length before
  pub bits : (i : ℕ) → get_or before i 0 < 2
  pub value_is : value ≡ number 0 (take width before)
  pub after_is : after ≡ drop width before

abbrev pub TakenDone : List ℕ → ℕ → Option ℕ → List ℕ → Type 0
TakenDone before width (Some v) after = TakenAt before width v after
TakenDone before width None after = (length before < width) × (after ≡ before)

-- what is left after a fault: too few bits are not taken, and a field that says none of the numbers is
abbrev pub LeftAfter : List ℕ → ℕ → FieldFault → List ℕ → Type 0
LeftAfter before width Ends after = after ≡ before
LeftAfter before width Wrong after = after ≡ drop width before

-- a number was taken
pub record NumberAt (before : List ℕ) (width low many n : ℕ) (after : List ℕ) : Type 0 where
  pub small : n < many
  pub read : number_in width low many before ≡ answered (record { value = n; rest = after })

abbrev pub NumberDone : List ℕ → ℕ → ℕ → ℕ → Result ℕ FieldFault → List ℕ → Type 0
NumberDone before width low many (Ok n) after = NumberAt before width low many n after
NumberDone before width low many (Err f) after = (number_in width low many before ≡ refused (fault_code 1 2 f) unplaced) × LeftAfter before width f after
