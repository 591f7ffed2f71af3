-- Once the left word is inverted, both are loaded.
use Rattle.std.proofs.Common.{refl, arith}
use Rattle.engine.proofs.Inverting.{inverted_part}
use Rattle.sets.proofs.Rooms.{pair_searched, pair_serves, pair_reverses}
use Rattle.sets.proofs.room.reverse_pair.Goals as goal

pub reversing-requires-clause-searched : goal.reversing-requires-clause-searched
reversing-requires-clause-searched c =
    let a = c.args in
    let p = c.requires in
    let i = inverted_part 0 a.left a.left a.room.now c.invert.new.word refl (omega (arith, p.3.fit)) c.invert.ensures in
    pair_searched a.cells.now a.room.now _ a.left a.right p.0 p.1 p.2 p.3 i

pub reversing-requires-clause-ready : goal.reversing-requires-clause-ready
reversing-requires-clause-ready c =
    let a = c.args in
    let p = c.requires in
    let i = inverted_part 0 a.left a.left a.room.now c.invert.new.word refl (omega (arith, p.3.fit)) c.invert.ensures in
    (p.0, pair_serves a.cells.now a.room.now _ a.left a.right p.0 p.1 p.2 p.3 i)

pub returns-clause-reverses : goal.returns-clause-reverses
returns-clause-reverses c T x y h =
    let a = c.args in
    let i = inverted_part 0 a.left a.left a.room.now c.invert.new.word refl (omega (arith, h.fit)) c.invert.ensures in
    let serves = pair_serves a.cells.now a.room.now _ a.left a.right T x y h i in
    pair_reverses a.cells.now a.room.now _ a.left a.right T x y h i a.budget
    c.reversing.new.bytes c.reversing.result (c.reversing.ensures.run T serves)
