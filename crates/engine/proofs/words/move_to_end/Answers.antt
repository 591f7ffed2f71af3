-- What a turn of the loop moves is a law of `Moving`.
use Rattle.std.proofs.Common.{arith}
use Rattle.engine.proofs.Moving.{moving_start, moving_turn, moving_done}
use Rattle.engine.proofs.words.move_to_end.Goals as goal

pub loop-i-init : goal.loop-i-init
loop-i-init c = moving_start c.args.bytes.now c.args.from c.args.count c.requires

pub loop-i-preserved : goal.loop-i-preserved
loop-i-preserved c =
    let a = c.args in
    let l = c.loop-i in
    moving_turn a.bytes.now a.from a.count c.requires l.bytes l.i l.invariant (omega arith)

pub returns : goal.returns
returns c =
    let a = c.args in
    let l = c.loop-i in
    moving_done a.bytes.now a.from a.count c.requires l.bytes l.i l.invariant (omega arith)
