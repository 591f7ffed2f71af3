-- What reading a program image gives.
use Rattle.std.specs.Prelude.{List, [], ◌∷◌, Bool, true, false, ◌≡◌, ℕ, suc, ◌+◌, ◌*◌, ◌≤◌, ◌<◌, eqb, length, get_or, Ok, Err}
use Rattle.std.specs.declared.result.Result.{Result}
use Rattle.model.specs.Word.{Letter, Word, byte, Positive, positive}
use Rattle.model.specs.Outcome.{unplaced, Outcome, answered, refused}
use Rattle.model.specs.Bits.{letter_width}
use Rattle.model.specs.Images.{signed_field, read_program, most_size, size_width}
use Rattle.model.specs.Services.{is_forward, read_forward}
use Rattle.model.specs.Range.{InRange, number_of, LetterInRange}
use Rattle.model.specs.Stated.{refusal}
use Rattle.model.specs.declared.answers.Refusal.{Refusal}
use Rattle.model.specs.declared.answers.Refusal.TheVariants.{ImageTail}
use Rattle.cells.specs.Layout.{cell_bytes, weight_at}
use Rattle.images.specs.Fields.{fault_code}
use Rattle.images.specs.BitReader.{LeftAfter}
use Rattle.images.specs.declared.fields.FieldFault.{FieldFault}
use Rattle.images.specs.declared.programs.SignedLetter.{SignedLetter}
use Rattle.images.specs.declared.programs.Tally.{Tally}
use Rattle.images.specs.declared.programs.Signs.{Signs}
use Rattle.images.specs.declared.programs.Signs.TheVariants.{Any, Forward}
use Rattle.images.specs.declared.programs.ProgramRead.{ProgramRead}

-- a letter was read, told by its sign and its number, and the bits after it are left
pub record SignedAt (before : List ℕ) (size sign number : ℕ) (after : List ℕ) : Type 0 where
  pub letter : Letter
  pub named : LetterInRange size letter
  pub written : byte letter ≡ sign * 128 + number
  pub read : signed_field size before ≡ answered (record { value = letter; rest = after })
  pub sign_small : sign ≤ 1
  pub number_small : number ≤ most_size

abbrev pub SignedDone : List ℕ → ℕ → Result SignedLetter FieldFault → List ℕ → Type 0
SignedDone before size (Ok x) after = SignedAt before size x.sign x.number after
SignedDone before size (Err f) after =
    (signed_field size before ≡ refused (fault_code 4 5 f) unplaced) × LeftAfter before (1 + letter_width size) f after

-- the tally with one letter more
abbrev pub with_letter : List ℕ → Tally → ℕ → ℕ → Tally
with_letter cells tally sign number =
    record { backs = tally.backs + sign; weight = tally.weight + suc (get_or cells (weight_at number) 0) }

-- .. where its numbers have room for it
pub record Tallies (cells : List ℕ) (tally : Tally) (sign number : ℕ) : Type 0 where
  pub full : length cells ≡ cell_bytes
  pub named : InRange most_size number
  pub backs_fit : tally.backs + sign < 65536
  pub weight_fits : tally.weight + suc (get_or cells (weight_at number) 0) < 65536

-- what is read of a program whose letters were passed, where a filling follows, and where something else does
abbrev pub ended_by : Bool → ℕ → Tally → Result ProgramRead Refusal
ended_by true count tally = Ok (record { count = count; forward = eqb tally.backs 0; weight = tally.weight })
ended_by false count tally = Err ImageTail

-- the image of a program of so many letters
pub record ProgramOf (image : List ℕ) (size count : ℕ) : Type 0 where
  pub word : Word
  pub read : read_program size image ≡ answered word
  pub count_is : length word ≡ count

-- the sum of the weights that the cells hold for a word's letters, whatever their signs
abbrev pub cells_weigh : List ℕ → Word → ℕ
cells_weigh cells [] = 0
cells_weigh cells (x ∷ w) = suc (get_or cells (weight_at (number_of x)) 0) + cells_weigh cells w

-- .. with its signs and its weight
pub record Measured (image cells : List ℕ) (size count : ℕ) (forward : Bool) (weight : ℕ) : Type 0 where
  pub program : ProgramOf image size count
  pub forward_is : forward ≡ is_forward program.word
  pub weight_is : weight ≡ cells_weigh cells program.word

abbrev pub ProgramDone : List ℕ → List ℕ → ℕ → Result ProgramRead Refusal → Type 0
ProgramDone image cells size (Ok p) = Measured image cells size p.count p.forward p.weight
ProgramDone image cells size (Err r) = read_program size image ≡ refusal r

-- an image of a program of so many letters, under a number of letters that a table can have
pub record Accepted (image : List ℕ) (size count : ℕ) : Type 0 where
  pub some : 1 ≤ size
  pub few : size ≤ most_size
  pub program : ProgramOf image size count

-- an accepted program has a letter numbered i, from 0
pub record HasLetter (image : List ℕ) (size width i : ℕ) : Type 0 where
  pub some : 1 ≤ size
  pub few : size ≤ most_size
  pub narrow : width ≤ size_width
  pub width_is : width ≡ letter_width size
  pub word : Word
  pub read : read_program size image ≡ answered word
  pub inside : i < length word

-- the image of a program of so many forward letters
pub record ForwardOf (image : List ℕ) (size count : ℕ) : Type 0 where
  pub word : Positive
  pub read : read_forward size image ≡ answered word
  pub read_signed : read_program size image ≡ answered (positive word)
  pub count_is : length word ≡ count

-- .. with its weight
pub record ForwardMeasured (image cells : List ℕ) (size count weight : ℕ) : Type 0 where
  pub forward : ForwardOf image size count
  pub weight_is : weight ≡ cells_weigh cells (positive forward.word)

-- A PROGRAM AS A SERVICE TAKES IT: of either sign, or of forward moves

abbrev pub WordOf : Signs → Type 0
WordOf Any = Word
WordOf Forward = Positive

abbrev pub read_as : (s : Signs) → ℕ → List ℕ → Outcome (WordOf s)
read_as Any = read_program
read_as Forward = read_forward

abbrev pub MeasuredAs : Signs → List ℕ → List ℕ → ℕ → ℕ → Bool → ℕ → Type 0
MeasuredAs Any image cells size count forward weight = Measured image cells size count forward weight
MeasuredAs Forward image cells size count forward weight = ForwardMeasured image cells size count weight

abbrev pub ReadDone : List ℕ → List ℕ → ℕ → Signs → Result ProgramRead Refusal → Type 0
ReadDone image cells size s (Ok p) = MeasuredAs s image cells size p.count p.forward p.weight
ReadDone image cells size s (Err r) = read_as s size image ≡ refusal r
