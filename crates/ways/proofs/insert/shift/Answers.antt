-- `ways::insert::shift` meets its contract: the bytes are moved in turn, the last one first.
use Rattle.std.proofs.Common.{arith}
use Rattle.ways.proofs.Inserting.{shift_begun, shift_more, shift_done}
use Rattle.ways.proofs.insert.shift.Goals as goal

pub loop-i-init : goal.loop-i-init
loop-i-init c = let a = c.args in (c.requires.0, shift_begun a.area.now a.at a.used a.by c.requires.1)

pub loop-i-preserved : goal.loop-i-preserved
loop-i-preserved c =
    let a = c.args in
    let l = c.loop-i in
    (omega arith, shift_more a.area.now a.at a.used a.by c.requires.1 l.i l.area (omega arith) l.auto.i l.invariant.1)

pub returns : goal.returns
returns c =
    let a = c.args in
    let l = c.loop-i in
    shift_done a.area.now a.at a.used a.by c.requires.1 l.i l.area c.loop-i-test.false l.invariant.0 l.invariant.1
