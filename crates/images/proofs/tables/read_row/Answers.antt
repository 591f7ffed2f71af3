-- A pair more is stored at each turn, or refuses the row.
use Rattle.std.proofs.Common.{arith}
use Rattle.std.proofs.lemmas.Result.{err_from_is_err_and}
use Rattle.images.specs.Fields.{fault_code}
use Rattle.images.specs.Forms.{pair_in}
use Rattle.images.proofs.Rows.{row_none, row_more, pair_refused, row_answered}
use Rattle.images.proofs.tables.read_row.Goals as goal

pub loop-b-init : goal.loop-b-init
loop-b-init c = let a = c.args in row_none (pair_in a.form.fields a.form.size) a.reader.now a.form.size a.cells.now a.a c.requires.0 c.requires.1 a.form.few

pub returns-in_err-read_pair-clause-row : goal.returns-in_err-read_pair-clause-row
returns-in_err-read_pair-clause-row c =
    let a = c.args in
    let p = err_from_is_err_and c.from_residual.result c.from_residual.ensures.1 in
    rw (p.1, p.2)
    (pair_refused (pair_in a.form.fields a.form.size) a.reader.now a.form.size a.cells.now a.a c.requires.0 c.requires.1 a.form.few c.loop-b.cells
    c.loop-b.reader c.loop-b.b
    c.loop-b.invariant (fault_code 1 2 c.in_err-read_pair.field-0.0) (omega (arith, c.loop-b-test.true)) c.in_err-read_pair.ensures.pair)

pub loop-b-preserved : goal.loop-b-preserved
loop-b-preserved c =
    let a = c.args in
    row_more (pair_in a.form.fields a.form.size) a.reader.now a.form.size a.cells.now a.a c.requires.0 c.requires.1 a.form.few c.loop-b.cells
    c.loop-b.reader c.loop-b.b
    c.loop-b.invariant (omega (arith, c.loop-b-test.true)) c.read_pair.new.cells c.read_pair.new.reader c.in_ok-read_pair.ensures.length
    c.in_ok-read_pair.ensures.pair

pub returns-clause-row : goal.returns-clause-row
returns-clause-row c =
    let a = c.args in
    row_answered (pair_in a.form.fields a.form.size) a.reader.now a.form.size a.cells.now a.a c.requires.0 c.requires.1 a.form.few c.loop-b.cells
    c.loop-b.reader c.loop-b.b
    c.loop-b.invariant (omega (arith, c.loop-b-test.false))
