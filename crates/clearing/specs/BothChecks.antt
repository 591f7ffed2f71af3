-- What both checks of loaded cells answer, where the triples are a table's own or its mirror's.
use Rattle.std.specs.Prelude.{List, ◌≡◌, ℕ, length, replicate, Ok, Err}
use Rattle.std.specs.declared.result.Result.{Result}
use Rattle.model.specs.Presentation.{Presentation}
use Rattle.model.specs.Enumeration.{pairs, triples}
use Rattle.model.specs.Outcome.{Outcome, ◌>>=◌}
use Rattle.model.specs.Checks.{weight_check, cube_check}
use Rattle.model.specs.Services.{of_mirror}
use Rattle.model.specs.Areas.{workspace_after}
use Rattle.model.specs.Stated.{cleared_as}
use Rattle.model.specs.declared.answers.Stop.TheVariants.{Budget, Room}
use Rattle.model.specs.declared.answers.Triple.{Triple}
use Rattle.model.specs.declared.answers.Place.{Place}
use Rattle.model.specs.declared.answers.Place.TheVariants.{Triple as AtTriple, MirrorTriple}
use Rattle.model.specs.declared.answers.Refusal.{Refusal}
use Rattle.model.specs.declared.answers.Refusal.TheVariants.{CubeFails, MirrorFails, AllowanceUsed, WorkspaceShort}
use Rattle.cells.specs.Stands.{Of}
use Rattle.table_checks.specs.declared.table.TripleFault.{TripleFault}
use Rattle.table_checks.specs.declared.table.TripleFault.TheVariants.{Fails, Halts}
use Rattle.clearing.specs.declared.both_checks.TriplesOf.{TriplesOf}
use Rattle.clearing.specs.declared.both_checks.TriplesOf.TheVariants.{Table, Mirror}

abbrev pub place_of : TriplesOf → Triple → Place
place_of Table t = AtTriple t
place_of Mirror t = MirrorTriple t

abbrev pub failure_of : TriplesOf → Triple → Refusal
failure_of Table t = CubeFails t
failure_of Mirror t = MirrorFails t

abbrev pub triple_refusal : TriplesOf → TripleFault → Refusal
triple_refusal whose (Fails t) = failure_of whose t
triple_refusal whose (Halts Budget t) = AllowanceUsed (place_of whose t)
triple_refusal whose (Halts Room t) = WorkspaceShort (place_of whose t)

abbrev pub triples_refusal : TriplesOf → Result (Unit {0}) TripleFault → Result (Unit {0}) Refusal
triples_refusal whose (Ok u) = Ok u
triples_refusal whose (Err f) = Err (triple_refusal whose f)

-- the outcome of the cube check, as it is told
abbrev pub told_of : TriplesOf → Outcome (Unit {0}) → Outcome (Unit {0})
told_of Table o = o
told_of Mirror o = of_mirror o

-- the cube check of every table that the cells stand for; a refusal comes after the work has begun
pub record CubesMean (whose : TriplesOf) (cells : List ℕ) (size budget room : ℕ) (r : Result (Unit {0}) Refusal) : Type 0 where
  pub states : (T : Presentation) → Of cells size T → cleared_as r ≡ told_of whose (cube_check T budget room (triples size))
  pub late : (area : List ℕ) → workspace_after (cleared_as r) area ≡ replicate (length area) 0

-- the weights of every table T that the first cells stand for, then the triples of every table U that the second do
abbrev pub BothMean : TriplesOf → List ℕ → List ℕ → ℕ → ℕ → ℕ → Result (Unit {0}) Refusal → Type 0
BothMean whose weighed cubed size budget room r =
    (T U : Presentation) → Of weighed size T → Of cubed size U
    → cleared_as r ≡ (weight_check T (pairs size) >>= λ ok. told_of whose (cube_check U budget room (triples size)))
