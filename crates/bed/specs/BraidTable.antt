-- What the test for the braid table says of every presentation that the cells stand for.
use Rattle.std.specs.Prelude.{List, ◌≡◌, Bool, ℕ, ◌≤◌, ◌<◌, Ok, Err}
use Rattle.std.specs.Bool.{Decides}
use Rattle.std.specs.declared.result.Result.{Result}
use Rattle.model.specs.Word.{Positive}
use Rattle.model.specs.Presentation.{Presentation, complement, complete}
use Rattle.model.specs.Range.{InRange}
use Rattle.model.specs.Outcome.{answered}
use Rattle.model.specs.Stated.{refusal}
use Rattle.model.specs.declared.answers.Refusal.{Refusal}
use Rattle.model.specs.Bed.{braid_word, read_braid}
use Rattle.cells.specs.Stands.{Stands, Of}

-- C(a,b) is as in the braid table
pub record HasBraidWord (T : Presentation) (a b : ℕ) : Type 0 where
  pub other : Positive
  pub word : complete T a b ≡ complement (braid_word a b) other

abbrev pub WordDecided : List ℕ → ℕ → ℕ → Bool → Type 0
WordDecided cells a b r = (T : Presentation) → Stands cells T → InRange T.size a → InRange T.size b → Decides r (HasBraidWord T a b)

-- the pair is as in the braid table
abbrev pub BraidPair : Presentation → ℕ → ℕ → Type 0
BraidPair T a b = complete T a b ≡ complement (braid_word a b) (braid_word b a)

-- so are the pairs of a with the letters after it
abbrev pub BraidRow : Presentation → ℕ → ℕ → Type 0
BraidRow T size a = (b : ℕ) → a < b → b ≤ size → BraidPair T a b

abbrev pub RowDecided : List ℕ → ℕ → ℕ → Bool → Type 0
RowDecided cells size a r = (T : Presentation) → Of cells size T → Decides r (BraidRow T size a)

-- the cells stand for the braid table that the image holds
pub record BraidOf (image cells : List ℕ) (size : ℕ) : Type 0 where
  pub table : Presentation
  pub read : read_braid image ≡ answered table
  pub of : Of cells size table

abbrev pub BraidDone : List ℕ → List ℕ → Result ℕ Refusal → Type 0
BraidDone image cells (Ok size) = BraidOf image cells size
BraidDone image cells (Err r) = read_braid image ≡ refusal r
