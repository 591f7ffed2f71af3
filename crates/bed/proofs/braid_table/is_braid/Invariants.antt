-- The rows passed are as in the braid table.
use Rattle.std.proofs.Common.{ℕ, ◌<◌}
use Rattle.model.specs.Presentation.{Presentation}
use Rattle.cells.specs.Stands.{Of}
use Rattle.bed.specs.BraidTable.{BraidRow}
use Rattle.bed.proofs.braid_table.is_braid.Given as goal

abbrev pub invariant-loop-a : goal.invariant-loop-a
invariant-loop-a l = (T : Presentation) → Of l.cells l.size T → (k : ℕ) → 0 < k → k < l.a → BraidRow T l.size k
