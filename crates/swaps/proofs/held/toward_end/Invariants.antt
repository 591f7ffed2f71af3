-- The first `i` letters behind the gap have gone to its start.
use Rattle.std.proofs.Common.{◌+◌}
use Rattle.swaps.specs.Held.{Carried}
use Rattle.swaps.proofs.held.toward_end.Given as goal

abbrev pub invariant-loop-i : goal.invariant-loop-i
invariant-loop-i l = Carried l.fn.bytes l.gap.left l.gap.right (l.gap.left + l.i) l.bytes (l.gap.right + l.i)
