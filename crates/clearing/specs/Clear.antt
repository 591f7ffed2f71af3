-- What the outcome of clear says.
use Rattle.std.specs.Prelude.{List, ◌≡◌, ℕ, length}
use Rattle.model.specs.Presentation.{Presentation}
use Rattle.model.specs.Outcome.{Outcome, answered}
use Rattle.model.specs.Images.{read_table}
use Rattle.theory.specs.Balance.{WeightMeaning}
use Rattle.theory.specs.Cube.{CubeMeaning}
use Rattle.model.specs.Services.{clear}
use Rattle.model.specs.Areas.{workspace_after}

-- of the two checks: of weights that reversing keeps in balance, and of the cube rule
pub record ChecksMeaning (T : Presentation) (outcome : Outcome (Unit {0})) : Type 0 where
  pub weights : WeightMeaning T outcome
  pub cube : CubeMeaning T outcome

-- of the table in the image
abbrev pub ClearSays : List ℕ → Outcome (Unit {0}) → Type 0
ClearSays table outcome = (T : Presentation) → read_table table ≡ answered T → ChecksMeaning T outcome

-- THE SERVICE'S PROMISE (6.3): the outcome that is told, the workspace after the call, and what the outcome means
pub record ClearPromise (table : List ℕ) (allowance : ℕ) (workspace workspace' : List ℕ) (outcome : Outcome (Unit {0})) : Type 0 where
  pub stated : outcome ≡ clear table allowance (length workspace)
  pub workspace_is : workspace' ≡ workspace_after (clear table allowance (length workspace)) workspace
  pub meaning : ClearSays table outcome
