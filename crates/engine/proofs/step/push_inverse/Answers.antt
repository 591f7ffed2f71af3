-- What a turn of the loop writes is a law of `Pushes`.
use Rattle.std.proofs.Common.{◌≡◌, ◌+◌, ◌-◌, arith, get_or}
use Rattle.engine.proofs.Pushes.{inverse_turn, inverse_none}
use Rattle.engine.proofs.step.push_inverse.Goals as goal

pub loop-i-init : goal.loop-i-init
loop-i-init c =
    let a = c.args in (
      omega arith,
      omega arith,
      inverse_none a.cells.now (a.at + 1) (get_or a.cells.now a.at 0) (omega arith) a.bytes.now a.right c.requires.inside c.requires.room,
    )

pub loop-i-preserved : goal.loop-i-preserved
loop-i-preserved c =
    let a = c.args in
    let l = c.loop-i in
    let place : a.right - 1 - l.i ≡ l.next - 1 = omega arith in (
      omega arith,
      omega arith,
      rw place at (inverse_turn a.cells.now (a.at + 1) (get_or a.cells.now a.at 0) (omega arith) a.bytes.now a.right c.requires.inside c.requires.room l.bytes
          l.i c.turned.result c.loop-i-test.true c.turned.ensures l.invariant.2),
    )
