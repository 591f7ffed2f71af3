-- The weights of the letters before `a` are copied.
use Rattle.std.proofs.Common.{◌-◌}
use Rattle.mirrors.specs.Mirror.{WeightsCopied}
use Rattle.mirrors.proofs.mirror.copy_weights.Given as goal

abbrev pub invariant-loop-a : goal.invariant-loop-a
invariant-loop-a l = WeightsCopied l.cells (l.a - 1) l.initial.mirror l.mirror
