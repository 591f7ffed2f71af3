-- The pairs passed are as in the braid table.
use Rattle.std.proofs.Common.{ℕ, ◌<◌}
use Rattle.model.specs.Presentation.{Presentation}
use Rattle.cells.specs.Stands.{Of}
use Rattle.bed.specs.BraidTable.{BraidPair}
use Rattle.bed.proofs.braid_table.is_braid_row.Given as goal

abbrev pub invariant-loop-b : goal.invariant-loop-b
invariant-loop-b l = (T : Presentation) → Of l.cells l.size T → (k : ℕ) → k < l.b → l.a < k → BraidPair T l.a k
