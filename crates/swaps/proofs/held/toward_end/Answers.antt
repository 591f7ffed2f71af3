-- A letter goes over the gap in each turn.
use Rattle.std.proofs.Common.{arith}
use Rattle.swaps.proofs.Carrying.{carried_at, carried_left}
use Rattle.swaps.proofs.held.toward_end.Goals as goal

pub loop-i-preserved : goal.loop-i-preserved
loop-i-preserved c =
    let l = c.loop-i in
    carried_at (omega arith) (omega arith) (carried_left _ _ _ l.bytes _ _ l.invariant (omega (arith, l.invariant.same_length)))
