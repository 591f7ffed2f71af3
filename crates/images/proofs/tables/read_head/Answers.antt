-- A pair begins with its mark, or with its words.
use Rattle.images.proofs.Numbers.{field_taken, field_short}
use Rattle.images.proofs.Pairs.{mark_ends, pair_undefined, words_first, words_behind}
use Rattle.images.proofs.tables.read_head.Goals as goal

pub returns-in_err-value : goal.returns-in_err-value
returns-in_err-value c =
    let a = c.args in
    rw c.from_residual.ensures
    (λ size. mark_ends a.form size a.reader.now (field_short 1 a.form.opens a.reader.now c.in_err-value.ensures.0), c.in_err-value.ensures.1)

pub returns-then-value-form : goal.returns-then-value-form
returns-then-value-form c =
    let a = c.args in
    λ size.
    pair_undefined a.form size a.reader.now c.in_ok-value.value _ (field_taken 1 a.form.opens a.reader.now _ _ c.in_ok-value.ensures) c.if-value-form.true

pub returns-then-form-eq0 : goal.returns-then-form-eq0
returns-then-form-eq0 c =
    let a = c.args in
    λ size.
    rw c.twin-begin.ensures
    (words_first a.form size a.reader.now c.in_ok-value.value _ (field_taken 1 a.form.opens a.reader.now _ _ c.in_ok-value.ensures) c.if-value-form.false
    c.if-form-eq0.true)

pub returns-else-form-eq0 : goal.returns-else-form-eq0
returns-else-form-eq0 c =
    let a = c.args in
    λ size.
    words_behind a.form size a.reader.now c.in_ok-value.value _ (field_taken 1 a.form.opens a.reader.now _ _ c.in_ok-value.ensures) c.if-value-form.false
    c.if-form-eq0.false
