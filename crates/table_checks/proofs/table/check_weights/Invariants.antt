-- The check of all pairs is the check of those that are left.
use Rattle.std.proofs.Common.{◌≡◌}
use Rattle.model.specs.Presentation.{Presentation}
use Rattle.model.specs.Checks.{weight_check}
use Rattle.model.specs.Enumeration.{pairs}
use Rattle.model.proofs.Pairs.{pairs_from}
use Rattle.cells.specs.Stands.{Of}
use Rattle.table_checks.proofs.table.check_weights.Given as goal

abbrev pub invariant-loop-first : goal.invariant-loop-first
invariant-loop-first l = (T : Presentation) → Of l.cells l.size T → weight_check T (pairs l.size) ≡ weight_check T (pairs_from l.size l.first)
