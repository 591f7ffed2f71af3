-- What is kept of an item is that of its bracket or its move, with the count, and of a pattern that of its items, one after another.
use mathlib.Core.Path.{sym, ap, ◌∙◌}
use lib.ListN.{drop}
use Rattle.importing.specs.Reading.{spanned, closing, counting}
use Rattle.importing.proofs.Items.{item_too_deep, item_bracket, item_move, pattern_ends, pattern_begins, items_refused}
use Rattle.importing.proofs.Items.{joined_last, joined_more, joined_shorter}
use Rattle.importing.proofs.reading.+read_item_read_pattern.Goals as goal

pub read_item-returns-then-not-stands : goal.read_item-returns-then-not-stands
read_item-returns-then-not-stands t c =
    let a = c.args in
    let s = c.after_minus-start in
    c.read_count.ensures ∙ ap counting c.read_move.ensures
    ∙ sym (item_move a.text.now a.at s.result a.depth s.ensures (sym c.stands.ensures ∙ c.if-not-stands.true))

pub read_item-returns-then-depth-eq0 : goal.read_item-returns-then-depth-eq0
read_item-returns-then-depth-eq0 t c =
    let a = c.args in
    let s = c.after_minus-start in
    sym (item_too_deep a.text.now a.at s.result a.depth s.ensures (sym c.stands.ensures ∙ c.if-not-stands.false) c.if-depth-eq0.true)

pub read_item-returns : goal.read_item-returns
read_item-returns t c =
    let a = c.args in
    let s = c.after_minus-start in
    c.read_count-2.ensures ∙ ap counting c.read_closing.ensures ∙ ap (λ o. counting (closing o)) c.read_pattern-held.ensures
    ∙ sym (item_bracket a.text.now a.at s.result a.depth s.ensures (sym c.stands.ensures ∙ c.if-not-stands.false) c.if-depth-eq0.false)

pub read_pattern-returns-then-ends : goal.read_pattern-returns-then-ends
read_pattern-returns-then-ends t c = sym (pattern_ends c.args.depth (drop c.args.at c.args.text.now) (sym c.ends.ensures ∙ c.if-ends.true))

pub read_pattern-loop-item-init : goal.read_pattern-loop-item-init
read_pattern-loop-item-init t c = pattern_begins c.args.depth (drop c.args.at c.args.text.now) (sym c.ends.ensures ∙ c.if-ends.false)

pub read_pattern-returns-in_err-item : goal.read_pattern-returns-in_err-item
read_pattern-returns-in_err-item t c =
    let a = c.args in
    let sum = c.loop-item.sum in
    ap (spanned a.text.now) c.from_residual.ensures
    ∙ sym (c.loop-item.invariant ∙ items_refused a.depth (drop sum.next a.text.now) sum.moves sum.highest (c.in_err-item.ensures))

pub read_pattern-returns-then-not-stands : goal.read_pattern-returns-then-not-stands
read_pattern-returns-then-not-stands t c =
    let a = c.args in
    let j = c.joined-sum in
    sym (c.loop-item.invariant ∙ joined_last a.text.now a.depth c.loop-item.sum c.in_ok-item.item j.result j.ensures (c.in_ok-item.ensures)
    (sym c.stands.ensures ∙ c.if-not-stands.true))

pub read_pattern-loop-item-smaller : goal.read_pattern-loop-item-smaller
read_pattern-loop-item-smaller t c =
    let a = c.args in
    let j = c.joined-sum in
    joined_shorter a.text.now a.depth c.loop-item.sum c.in_ok-item.item j.result j.ensures (c.in_ok-item.ensures)
    (sym c.stands.ensures ∙ c.if-not-stands.false)

pub read_pattern-loop-item-preserved : goal.read_pattern-loop-item-preserved
read_pattern-loop-item-preserved t c =
    let a = c.args in
    let j = c.joined-sum in
    c.loop-item.invariant ∙ joined_more a.text.now a.depth c.loop-item.sum c.in_ok-item.item j.result j.ensures (c.in_ok-item.ensures)
    (sym c.stands.ensures ∙ c.if-not-stands.false)
