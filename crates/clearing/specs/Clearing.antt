-- What clearing answers, of a table or of its mirror.
use Rattle.std.specs.Prelude.{List, ◌≡◌, ℕ}
use Rattle.model.specs.Presentation.{Presentation}
use Rattle.model.specs.Outcome.{Outcome}
use Rattle.model.specs.Checks.{cleared}
use Rattle.model.specs.Services.{mirror_cleared}
use Rattle.model.specs.Stated.{cleared_as}
use Rattle.std.specs.declared.result.Result.{Result}
use Rattle.model.specs.declared.answers.Refusal.{Refusal}
use Rattle.cells.specs.Stands.{Of}
use Rattle.clearing.specs.declared.both_checks.TriplesOf.{TriplesOf}
use Rattle.clearing.specs.declared.both_checks.TriplesOf.TheVariants.{Table, Mirror}

abbrev pub cleared_by : TriplesOf → Presentation → ℕ → ℕ → Outcome (Unit {0})
cleared_by Table T budget room = cleared T budget room
cleared_by Mirror T budget room = mirror_cleared T budget room

-- under every table that the cells stand for
abbrev pub ClearsBy : TriplesOf → List ℕ → ℕ → ℕ → ℕ → Result (Unit {0}) Refusal → Type 0
ClearsBy whose cells size budget room r = (T : Presentation) → Of cells size T → cleared_as r ≡ cleared_by whose T budget room
