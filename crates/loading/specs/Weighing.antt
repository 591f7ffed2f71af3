-- What a program weighs.
use Rattle.std.specs.Prelude.{List, ◌≡◌, ℕ}
use Rattle.model.specs.Word.{Positive}
use Rattle.model.specs.Presentation.{Presentation, weigh}
use Rattle.model.specs.Outcome.{answered}
use Rattle.model.specs.Services.{read_forward}
use Rattle.cells.specs.Stands.{Of}

-- under every table that the cells stand for
abbrev pub Weighs : List ℕ → ℕ → List ℕ → ℕ → Type 0
Weighs cells size program r =
    (T : Presentation) → Of cells size T → (u : Positive) → read_forward size program ≡ answered u → r ≡ weigh T u

-- .. of two programs
pub record Weigh (cells : List ℕ) (size : ℕ) (first : List ℕ) (first_weight : ℕ) (second : List ℕ) (second_weight : ℕ) : Type 0 where
  pub one : Weighs cells size first first_weight
  pub two : Weighs cells size second second_weight
