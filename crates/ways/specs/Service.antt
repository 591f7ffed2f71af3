-- What the service answers, and what its answer says of the table and the program in the images.
use Rattle.std.specs.Prelude.{List, ◌≡◌, ℕ, length, take, Result}
use Rattle.model.specs.declared.answers.Refusal.{Refusal}
use Rattle.model.specs.declared.answers.Ways.{Ways}
use Rattle.model.specs.Word.{Positive}
use Rattle.model.specs.Presentation.{Presentation}
use Rattle.model.specs.Enumeration.{pairs}
use Rattle.model.specs.Range.{TableInRange}
use Rattle.model.specs.Outcome.{Outcome, answered, mapped}
use Rattle.model.specs.Images.{read_table}
use Rattle.model.specs.Services.{read_forward}
use Rattle.model.specs.Checks.{weight_check}
use Rattle.model.specs.Ways.{listing, listing_bytes, fitted_listing, ways_area, ways}
use Rattle.model.specs.Stated.{Counts, counts, listed_as}
use Rattle.theory.specs.Ways.{ListingMeaning, WordsInOrder}
use Rattle.images.specs.Programs.{ForwardOf}
use Rattle.cells.specs.Stands.{Of}

-- the result and the area are those of an outcome
pub record Answers (outcome : Outcome (List Positive)) (before after : List ℕ) (r : Result Ways Refusal) : Type 0 where
  pub result : listed_as r ≡ mapped counts outcome
  pub area : after ≡ ways_area outcome before

-- the cells stand for a table that passed the weight check
pub record Passed (cells : List ℕ) (size : ℕ) (T : Presentation) : Type 0 where
  pub of : Of cells size T
  pub in_range : TableInRange T
  pub even : weight_check T (pairs T.size) ≡ answered tt

-- .. and a program of so many forward letters was accepted
pub record Listable (cells : List ℕ) (size : ℕ) (program : List ℕ) (count : ℕ) : Type 0 where
  pub table : Presentation
  pub passed : Passed cells size table
  pub forward : ForwardOf program size count

abbrev pub ProgramListed : List ℕ → ℕ → List ℕ → List ℕ → List ℕ → Result Ways Refusal → Type 0
ProgramListed cells size program before after r =
    (T : Presentation) → Passed cells size T → (u : Positive) → read_forward size program ≡ answered u
    → Answers (fitted_listing (length before) (listing T u)) before after r

-- an answer: the area begins with the listing, which has so many words, and which is what the laws of listings say
pub record WaysMeaning (T : Presentation) (u : Positive) (told : Counts) (area : List ℕ) : Type 0 where
  pub bytes : take told.bytes area ≡ listing_bytes (listing T u)
  pub words : told.words ≡ length (listing T u)
  pub lists : ListingMeaning T u
  pub in_order : WordsInOrder T

abbrev pub WaysSays : List ℕ → List ℕ → Outcome Counts → List ℕ → Type 0
WaysSays table program told area =
    (T : Presentation) → read_table table ≡ answered T → (u : Positive) → read_forward T.size program ≡ answered u
    → (c : Counts) → told ≡ answered c → WaysMeaning T u c area

-- THE SERVICE'S PROMISE (6.14): the outcome that is told, the answer area after the call, and what the answer says
pub record WaysPromise (table program answer answer' : List ℕ) (outcome : Outcome Counts) : Type 0 where
  pub stated : outcome ≡ mapped counts (ways table program (length answer))
  pub answer_is : answer' ≡ ways_area (ways table program (length answer)) answer
  pub meaning : WaysSays table program outcome answer'
