-- What the outcome of mirror_clear says.
use Rattle.std.specs.Prelude.{List, ◌≡◌, ℕ, length}
use Rattle.model.specs.Presentation.{Presentation}
use Rattle.model.specs.Outcome.{Outcome, answered}
use Rattle.model.specs.Images.{read_table}
use Rattle.theory.specs.Mirrors.{MirrorMeaning}
use Rattle.model.specs.Services.{mirror_clear}
use Rattle.model.specs.Areas.{workspace_after}

-- of the mirror of the table in the image
abbrev pub MirrorClearSays : List ℕ → ℕ → ℕ → Outcome (Unit {0}) → Type 0
MirrorClearSays table budget room outcome = (T : Presentation) → read_table table ≡ answered T → MirrorMeaning T budget room outcome

-- THE SERVICE'S PROMISE (6.13): the outcome that is told, the workspace after the call, and what the outcome means
pub record MirrorPromise (table : List ℕ) (allowance : ℕ) (workspace workspace' : List ℕ) (outcome : Outcome (Unit {0})) : Type 0 where
  pub stated : outcome ≡ mirror_clear table allowance (length workspace)
  pub workspace_is : workspace' ≡ workspace_after (mirror_clear table allowance (length workspace)) workspace
  pub meaning : MirrorClearSays table allowance (length workspace) outcome
