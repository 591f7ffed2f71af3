-- A body's moves are those of its pattern or its one move, an item's are its body's as often as it says, and a pattern's are its items', one after another.
use Rattle.std.proofs.Common.{◌≤◌, sym, ap, ◌∙◌, refl, drop, arith}
use native.Mathlib.Nat.{pos_of_ne-zero}
use Rattle.importing.specs.Reading.{kept, spanned}
use Rattle.importing.proofs.Writers.{deep, pattern_fits, pattern_laid, move_laid, nothing_laid, body_fits, once_after, body_repeats, item_stands, minus_is}
use Rattle.importing.proofs.Underway.{nothing_written, begun, item_fits, last_written, further, less_left}
use Rattle.importing.proofs.writing.+write_body_write_item_write_pattern.Goals as goal

pub write_body-write_pattern-requires : goal.write_body-write_pattern-requires
write_body-write_pattern-requires t c =
    let a = c.args in
    let opens = sym c.stands.ensures ∙ c.if-stands.true in
    let some = pos_of_ne-zero (deep a.text.now a.at a.depth a.highest a.from a.area.now c.requires opens) in
    (omega (arith, some), pattern_fits a.text.now a.at a.depth a.highest a.from a.area.now c.requires opens)

pub write_body-returns-then-stands-clause-body : goal.write_body-returns-then-stands-clause-body
write_body-returns-then-stands-clause-body t c =
    let a = c.args in
    let w = c.write_pattern in
    pattern_laid a.text.now a.at a.depth a.highest a.from a.area.now c.requires (sym c.stands.ensures ∙ c.if-stands.true) w.new.area w.result
    w.ensures.pattern

pub write_body-returns-clause-body : goal.write_body-returns-clause-body
write_body-returns-clause-body t c =
    let a = c.args in
    move_laid a.text.now a.at a.depth a.highest a.from a.area.now c.requires (sym c.stands.ensures ∙ c.if-stands.false)

pub write_item-returns-then-end-from-clause-item : goal.write_item-returns-then-end-from-clause-item
write_item-returns-then-end-from-clause-item t c =
    let a = c.args in
    let i = c.unwrap-item in
    nothing_laid a.text.now a.at a.depth a.from a.area.now (kept a.text.now i.result) (sym (ap (spanned a.text.now) i.ensures) ∙ c.read_item.ensures)
    c.requires _ refl refl (omega arith)

pub write_item-write_body-once-requires : goal.write_item-write_body-once-requires
write_item-write_body-once-requires t c =
    let a = c.args in
    let i = c.unwrap-item in
    let some : 1 ≤ i.result.moves = omega arith in (
      omega arith,
      body_fits a.text.now a.at a.depth a.from a.area.now (kept a.text.now i.result) (sym (ap (spanned a.text.now) i.ensures) ∙ c.read_item.ensures)
          c.requires some c.after_minus-start.result c.after_minus-start.ensures,
    )

pub write_item-overflow_sub-once : goal.write_item-overflow_sub-once
write_item-overflow_sub-once t c =
    let a = c.args in
    let i = c.unwrap-item in
    let w = c.write_body-once in
    let some : 1 ≤ i.result.moves = omega arith in
    once_after a.text.now a.at a.depth a.from a.area.now (kept a.text.now i.result) (sym (ap (spanned a.text.now) i.ensures) ∙ c.read_item.ensures)
    c.requires some c.after_minus-start.result c.after_minus-start.ensures w.new.area w.result w.ensures.body

pub write_item-finish-requires : goal.write_item-finish-requires
write_item-finish-requires t c =
    let a = c.args in
    let i = c.unwrap-item in
    let w = c.write_body-once in
    let some : 1 ≤ i.result.moves = omega arith in
    body_repeats a.text.now a.at a.depth a.from a.area.now (kept a.text.now i.result) (sym (ap (spanned a.text.now) i.ensures) ∙ c.read_item.ensures)
    c.requires some c.after_minus-start.result c.after_minus-start.ensures w.new.area w.result w.ensures.body

pub write_item-returns-clause-item : goal.write_item-returns-clause-item
write_item-returns-clause-item t c =
    let a = c.args in
    let i = c.unwrap-item in
    let w = c.write_body-once in
    let some : 1 ≤ i.result.moves = omega arith in
    item_stands a.text.now a.at a.depth a.from a.area.now (kept a.text.now i.result) (sym (ap (spanned a.text.now) i.ensures) ∙ c.read_item.ensures)
    c.requires some c.after_minus-start.result c.after_minus-start.ensures w.new.area w.result w.ensures.body
    c.finish.new.area c.stands-minus.result _ c.finish.ensures.finishes
    (minus_is (drop a.at a.text.now) c.stands-minus.result c.stands-minus.ensures) refl refl

pub write_pattern-returns-then-ends-clause-pattern : goal.write_pattern-returns-then-ends-clause-pattern
write_pattern-returns-then-ends-clause-pattern t c =
    let a = c.args in
    nothing_written a.depth (drop a.at a.text.now) a.from a.area.now (sym c.ends.ensures ∙ c.if-ends.true) c.requires

pub write_pattern-loop-laid-init : goal.write_pattern-loop-laid-init
write_pattern-loop-laid-init t c =
    let a = c.args in
    begun a.text.now a.at a.depth a.from a.area.now (sym c.ends.ensures ∙ c.if-ends.false) c.requires

pub write_pattern-write_item-laid-requires : goal.write_pattern-write_item-laid-requires
write_pattern-write_item-laid-requires t c =
    let a = c.args in
    let l = c.loop-laid in
    (omega arith, item_fits a.text.now a.at a.depth a.from a.area.now l.area l.laid c.requires l.invariant)

pub write_pattern-returns-then-not-stands-clause-pattern : goal.write_pattern-returns-then-not-stands-clause-pattern
write_pattern-returns-then-not-stands-clause-pattern t c =
    let a = c.args in
    let l = c.loop-laid in
    let w = c.write_item-laid in
    last_written a.text.now a.at a.depth a.from a.area.now l.area l.laid c.requires l.invariant w.new.area w.result w.ensures.item
    (sym c.stands.ensures ∙ c.if-not-stands.true)

pub write_pattern-loop-laid-smaller : goal.write_pattern-loop-laid-smaller
write_pattern-loop-laid-smaller t c =
    let a = c.args in
    let l = c.loop-laid in
    let w = c.write_item-laid in
    less_left a.text.now a.at a.depth a.from a.area.now l.area l.laid c.requires l.invariant w.new.area w.result w.ensures.item
    (sym c.stands.ensures ∙ c.if-not-stands.false)

pub write_pattern-loop-laid-preserved : goal.write_pattern-loop-laid-preserved
write_pattern-loop-laid-preserved t c =
    let a = c.args in
    let l = c.loop-laid in
    let w = c.write_item-laid in
    further a.text.now a.at a.depth a.from a.area.now l.area l.laid c.requires l.invariant w.new.area w.result w.ensures.item
    (sym c.stands.ensures ∙ c.if-not-stands.false)
