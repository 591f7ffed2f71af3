-- The check of all pairs of the row is the check of those that are left.
use Rattle.std.proofs.Common.{◌≡◌}
use Rattle.model.specs.Presentation.{Presentation}
use Rattle.model.specs.Checks.{weight_check}
use Rattle.model.specs.Enumeration.{row}
use Rattle.model.proofs.Pairs.{row_from}
use Rattle.cells.specs.Stands.{Of}
use Rattle.table_checks.proofs.table.row_weights.Given as goal

abbrev pub invariant-loop-b : goal.invariant-loop-b
invariant-loop-b l = (T : Presentation) → Of l.cells l.size T → weight_check T (row l.size l.a) ≡ weight_check T (row_from l.size l.a l.b)
