-- The reversing from the start is the run from where the loop stands.
use Rattle.std.proofs.Common.{◌-◌, length}
use Rattle.engine.specs.Gap.{word_at}
use Rattle.engine.proofs.Progress.{Progress}
use Rattle.engine.proofs.run.reversing.Given as goal

abbrev pub invariant-loop-end : goal.invariant-loop-end
invariant-loop-end l =
    Progress l.cells (word_at l.fn.bytes l.fn.start.left l.fn.start.right) l.budget (length l.fn.bytes) l.bytes l.gap.left l.gap.right l.steps l.relations

abbrev pub decreases-loop-end : goal.decreases-loop-end
decreases-loop-end l = l.budget - l.steps
