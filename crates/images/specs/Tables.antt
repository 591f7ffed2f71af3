-- What reading the parts of a table gives: the words, pairs, rows and weights that a reader gives, in their cells.
use Rattle.std.specs.Prelude.{List, [], ◌≡◌, ◌⊎◌, ℕ, ◌+◌, ◌-◌, ◌≤◌, ◌<◌, length, get_or, Some, None, Ok, Err}
use Rattle.std.specs.declared.option.Option.{Option}
use Rattle.std.specs.declared.result.Result.{Result}
use Rattle.model.specs.Word.{Positive}
use Rattle.model.specs.Presentation.{Presentation, Complement, undefined}
use Rattle.model.specs.Outcome.{unplaced, Outcome, answered, refused}
use Rattle.model.specs.Bits.{Read}
use Rattle.model.specs.Images.{several, read_table, most_size}
use Rattle.model.specs.Stated.{refusal}
use Rattle.model.specs.declared.answers.Refusal.{Refusal}
use Rattle.images.specs.Forms.{word_in, words_in, pair_in, weight_in, rows_in}
use Rattle.model.specs.Range.{InRange}
use Rattle.cells.specs.Layout.{Letters, cell_at}
use Rattle.cells.specs.Stands.{Of, HoldsWord, HoldsWeights}
use Rattle.cells.specs.Kept.{KeptOutside, SameCell, HoldsPair, KeptPair}
use Rattle.images.specs.Fields.{fault_code}
use Rattle.images.specs.declared.fields.FieldFault.{FieldFault}
use Rattle.images.specs.declared.forms.Form.{Form}
use Rattle.images.specs.declared.tables.Head.{Head}
use Rattle.images.specs.declared.tables.Head.TheVariants.{Undefined, Words}

-- A PART OF A TABLE: what holds of it where it is read of the bits before, and those after are left; else the refusal
abbrev pub PartDone : {A : Type 0} → (List ℕ → Outcome (Read A)) → (List ℕ → List ℕ → Type 0) → List ℕ → Result (Unit {0}) FieldFault → List ℕ → Type 0
PartDone reader Given before (Ok _) after = Given before after
PartDone reader Given before (Err f) after = reader before ≡ refused (fault_code 1 2 f) unplaced

-- WORDS, PAIRS AND ROWS, by a reader of them: from `input` on, and `rest` is left

pub record WordFrom (reader : List ℕ → Outcome (Read Positive)) (size : ℕ) (before : List ℕ) (cell : ℕ) (after input rest : List ℕ) : Type 0 where
  pub word : Positive
  pub read : reader input ≡ answered (record { value = word; rest = rest })
  pub holds : HoldsWord size after cell word
  pub kept : KeptOutside before cell after

abbrev pub WordDone : List ℕ → Form → ℕ → List ℕ → ℕ → List ℕ → Result (Unit {0}) FieldFault → List ℕ → Type 0
WordDone input f size before cell after r rest = PartDone (word_in f size) (WordFrom (word_in f size) size before cell after) input r rest

-- what the pair is, whatever its letters are
abbrev pub HeadDone : List ℕ → Form → Option Head → List ℕ → Type 0
HeadDone input f (Some Undefined) rest = (size : ℕ) → pair_in f size input ≡ answered (record { value = undefined; rest = rest })
HeadDone input f (Some Words) rest = (size : ℕ) → pair_in f size input ≡ words_in f size rest
HeadDone input f None rest = ((size : ℕ) → pair_in f size input ≡ refused 1 unplaced) × (rest ≡ input)

pub record PairFrom (reader : List ℕ → Outcome (Read Complement)) (size : ℕ) (before : List ℕ) (a b : ℕ) (after input rest : List ℕ) : Type 0 where
  pub pair : Complement
  pub read : reader input ≡ answered (record { value = pair; rest = rest })
  pub holds : HoldsPair size after a b pair
  pub kept : KeptPair before a b after

abbrev pub PairDone : List ℕ → Form → ℕ → List ℕ → ℕ → ℕ → List ℕ → Result (Unit {0}) FieldFault → List ℕ → Type 0
PairDone input f size before a b after r rest = PartDone (pair_in f size) (PairFrom (pair_in f size) size before a b after) input r rest

-- the pairs of a with a + 1, a + 2, .. stand in their cells
abbrev pub HoldsRow : ℕ → List ℕ → ℕ → List Complement → Type 0
HoldsRow size cells a row = (j : ℕ) → j < length row → HoldsPair size cells a (a + 1 + j) (get_or row j undefined)

pub record RowFrom (reader : List ℕ → Outcome (Read Complement)) (size : ℕ) (before : List ℕ) (a : ℕ) (after input rest : List ℕ) : Type 0 where
  pub row : List Complement
  pub read : several reader (size - a) input ≡ answered (record { value = row; rest = rest })
  pub holds : HoldsRow size after a row
  pub kept : (p q : ℕ) → Letters p q → (p < a) ⊎ (q < a) → SameCell before after p q
  pub diagonal : (p : ℕ) → InRange most_size p → SameCell before after p p

abbrev pub RowDone : List ℕ → Form → ℕ → List ℕ → ℕ → List ℕ → Result (Unit {0}) FieldFault → List ℕ → Type 0
RowDone input f size before a after r rest = PartDone (several (pair_in f size) (size - a)) (RowFrom (pair_in f size) size before a after) input r rest

-- the rows of a table stand in the cells
pub record RowsHeld (size : ℕ) (cells : List ℕ) (rows : List (List Complement)) : Type 0 where
  pub many : length rows ≡ size
  pub widths : (i : ℕ) → i < length rows → length (get_or rows i []) ≡ size - (1 + i)
  pub holds : (i : ℕ) → i < length rows → HoldsRow size cells (1 + i) (get_or rows i [])

-- WEIGHTS: those of so many letters stand in their places, and the lengths in the cells of letters with themselves are as they were
pub record WeightsFrom (reader : List ℕ → Outcome (Read ℕ)) (size : ℕ) (before after input rest : List ℕ) : Type 0 where
  pub excess : List ℕ
  pub read : several reader size input ≡ answered (record { value = excess; rest = rest })
  pub holds : HoldsWeights size after excess
  pub kept : (p : ℕ) → InRange most_size p → get_or after (cell_at p p) 0 ≡ get_or before (cell_at p p) 0

abbrev pub WeightsDone : List ℕ → Form → ℕ → List ℕ → List ℕ → Result (Unit {0}) FieldFault → List ℕ → Type 0
WeightsDone input f size before after r rest = PartDone (several (weight_in f) size) (WeightsFrom (weight_in f) size before after) input r rest

-- THE TABLE

-- the cells stand for the table that reading comes to
pub record Loaded (outcome : Outcome Presentation) (cells : List ℕ) (size : ℕ) : Type 0 where
  pub table : Presentation
  pub read : outcome ≡ answered table
  pub of : Of cells size table
  pub listed : RowsHeld size cells table.rows

abbrev pub LoadedAs : Outcome Presentation → List ℕ → Result ℕ Refusal → Type 0
LoadedAs outcome cells (Ok size) = Loaded outcome cells size
LoadedAs outcome cells (Err r) = outcome ≡ refusal r

-- .. after the weights
abbrev pub RowsDone : List ℕ → Form → ℕ → List ℕ → List ℕ → Result ℕ Refusal → Type 0
RowsDone input f size before after r = (excess : List ℕ) → HoldsWeights size before excess → LoadedAs (rows_in f size excess input) after r

-- the cells stand for the table that the image holds, or the refusal is its own
abbrev pub TableDone : List ℕ → List ℕ → Result ℕ Refusal → Type 0
TableDone image cells r = LoadedAs (read_table image) cells r

-- the table that the image holds has so many letters
pub record SizeOf (image : List ℕ) (size : ℕ) : Type 0 where
  pub table : Presentation
  pub read : read_table image ≡ answered table
  pub size_is : table.size ≡ size
  pub some : 1 ≤ size
  pub few : size ≤ most_size

abbrev pub SizeDone : List ℕ → Result ℕ Refusal → Type 0
SizeDone image (Ok size) = SizeOf image size
SizeDone image (Err r) = read_table image ≡ refusal r
