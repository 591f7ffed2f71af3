-- One copy more at each place. The last one ends where all do.
use Rattle.std.proofs.Common.{◌+◌, ◌≤◌, arith}
use Rattle.importing.proofs.Laying.{copied_once, copied_room, copied_more, copied_all}
use Rattle.importing.proofs.writing.repeat.Goals as goal

pub loop-at-init : goal.loop-at-init
loop-at-init c =
    let a = c.args in
    let r = c.requires in
    copied_once a.area.now a.from a.count a.end r.times r.some r.ends r.inside r.once

pub copy_on-requires : goal.copy_on-requires
copy_on-requires c =
    let a = c.args in
    let r = c.requires in
    let l = c.loop-at in
    let room = copied_room a.area.now a.from a.count a.end r.times r.some r.ends r.inside l.area l.at l.invariant c.loop-at-test.true in
    (omega arith, omega (arith, room))

pub loop-at-preserved : goal.loop-at-preserved
loop-at-preserved c =
    let a = c.args in
    let r = c.requires in
    let l = c.loop-at in
    copied_more a.area.now a.from a.count a.end r.times r.some r.ends r.inside l.area c.copy_on.new.area l.at l.invariant c.loop-at-test.true
    c.copy_on.ensures.bytes

pub returns-clause-repeats : goal.returns-clause-repeats
returns-clause-repeats c =
    let a = c.args in
    let r = c.requires in
    let l = c.loop-at in
    copied_all a.area.now a.from a.count a.end r.times r.some r.ends r.inside l.area l.at l.invariant c.loop-at-test.false

pub returns-2-clause-repeats : goal.returns-2-clause-repeats
returns-2-clause-repeats c =
    let a = c.args in
    let r = c.requires in
    let l = c.loop-at in
    let more = copied_more a.area.now a.from a.count a.end r.times r.some r.ends r.inside l.area c.copy_on.new.area l.at l.invariant c.loop-at-test.true
    c.copy_on.ensures.bytes in
    let past : a.end ≤ l.at + a.count = omega arith in
    copied_all a.area.now a.from a.count a.end r.times r.some r.ends r.inside c.copy_on.new.area (l.at + a.count) more past
