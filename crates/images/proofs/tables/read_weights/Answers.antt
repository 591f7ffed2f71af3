-- A weight more is stored at each turn, or refuses the weights.
use Rattle.std.proofs.Common.{arith}
use Rattle.std.proofs.lemmas.Result.{err_from_is_err_and}
use Rattle.images.specs.Fields.{fault_code}
use Rattle.images.specs.Forms.{weight_in}
use Rattle.images.proofs.Weights.{weights_none, weights_more, weight_refused, weights_answered}
use Rattle.images.proofs.tables.read_weights.Goals as goal

pub loop-a-init : goal.loop-a-init
loop-a-init c = let a = c.args in weights_none (weight_in a.form.fields) a.reader.now a.form.size a.form.few a.cells.now c.requires

pub returns-in_err-excess-clause-weights : goal.returns-in_err-excess-clause-weights
returns-in_err-excess-clause-weights c =
    let a = c.args in
    let p = err_from_is_err_and c.from_residual.result c.from_residual.ensures.1 in
    rw (p.1, p.2)
    (weight_refused (weight_in a.form.fields) a.reader.now a.form.size a.form.few a.cells.now c.requires c.loop-a.cells c.loop-a.reader c.loop-a.a
    c.loop-a.invariant
    (fault_code 1 2 c.in_err-excess.field-0.0) (omega (arith, c.loop-a-test.true)) c.in_err-excess.ensures.0)

pub loop-a-preserved : goal.loop-a-preserved
loop-a-preserved c =
    let a = c.args in
    rw c.weight_at-place.ensures
    (weights_more (weight_in a.form.fields) a.reader.now a.form.size a.form.few a.cells.now c.requires c.loop-a.cells c.loop-a.reader c.loop-a.a
    c.loop-a.invariant
    (omega (arith, c.loop-a-test.true)) c.in_ok-excess.excess c.take_number.new.self c.in_ok-excess.ensures.small c.in_ok-excess.ensures.read)

pub returns-clause-weights : goal.returns-clause-weights
returns-clause-weights c =
    let a = c.args in
    weights_answered (weight_in a.form.fields) a.reader.now a.form.size a.form.few a.cells.now c.requires c.loop-a.cells c.loop-a.reader c.loop-a.a
    c.loop-a.invariant
    (omega (arith, c.loop-a-test.false))
