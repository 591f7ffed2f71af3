-- The moves stand as often as they are to, or are undone where there is a minus.
use Rattle.std.proofs.Common.{◌-◌, ◌≤◌, length, refl, arith}
use Rattle.areas.proofs.Parts.{part_joined}
use Rattle.engine.proofs.Inverting.{inverted_part}
use Rattle.importing.proofs.Laying.{body_inside, finished_plain, finished_undone}
use Rattle.importing.proofs.writing.finish.Goals as goal

pub returns-then-minus-clause-finishes : goal.returns-then-minus-clause-finishes
returns-then-minus-clause-finishes c =
    let a = c.args in
    let mid = c.repeat.new.area in
    let k = a.end - a.from in
    let part = c.invert.new.word in
    let inside = body_inside a.area.now a.from a.count a.end c.requires in
    let reaches : a.from ≤ length mid = omega (arith, inside) in
    finished_undone a.area.now a.from a.count a.end c.requires a.minus c.if-minus.true mid _ _ c.repeat.ensures.repeats
    (inverted_part a.from k k mid part refl (omega (arith, c.requires)) c.invert.ensures) (part_joined a.from k mid part reaches)

pub returns-else-minus-clause-finishes : goal.returns-else-minus-clause-finishes
returns-else-minus-clause-finishes c =
    let a = c.args in
    finished_plain a.area.now a.from a.count a.end c.requires a.minus c.if-minus.false c.repeat.new.area c.repeat.ensures.repeats
