-- A row more is stored at each turn, or refuses the table.
use Rattle.std.proofs.Common.{sym, ◌∙◌, arith}
use Rattle.std.proofs.lemmas.Result.{err_from_is_err_and}
use Rattle.images.specs.Fields.{fault_code, table_refusal}
use Rattle.images.specs.Forms.{pair_in, rows_in}
use Rattle.images.specs.Tables.{RowDone}
use Rattle.images.proofs.Failing.{mapped_ok, mapped_err, table_code}
use Rattle.images.proofs.Rows.{rows_none, rows_more, row_refused, rows_answered, rows_tail}
use Rattle.images.proofs.tables.read_rows.Goals as goal

pub loop-a-init : goal.loop-a-init
loop-a-init c = let a = c.args in rows_none (pair_in a.form.fields a.form.size) a.reader.now a.form.size c.requires.0 a.form.few a.cells.now c.requires.1

pub returns-in_err-map_err-clause-rows : goal.returns-in_err-map_err-clause-rows
returns-in_err-map_err-clause-rows c =
    let a = c.args in
    let l = c.loop-a in
    let p = err_from_is_err_and c.from_residual.result c.from_residual.ensures.1 in
    let m =
    mapped_err table_refusal (λ r. RowDone l.reader a.form.fields a.form.size l.cells l.a c.read_row.new.cells r c.read_row.new.reader) c.read_row.result
    c.map_err.result
    c.map_err.ensures.cases c.read_row.ensures.row c.in_err-map_err.field-0.0 c.in_err-map_err.was in
    rw (p.1, p.2, m.1)
    (λ excess w.
    table_code m.0 (rows_in a.form.fields a.form.size excess a.reader.now)
    (row_refused a.form.fields a.reader.now a.form.size c.requires.0 a.form.few a.cells.now l.cells l.reader l.a l.invariant excess (fault_code 1 2 m.0)
    (omega (arith, c.loop-a-test.true)) m.2))

pub loop-a-preserved : goal.loop-a-preserved
loop-a-preserved c =
    let a = c.args in
    let l = c.loop-a in
    let row =
    mapped_ok table_refusal (λ r. RowDone l.reader a.form.fields a.form.size l.cells l.a c.read_row.new.cells r c.read_row.new.reader) c.read_row.result
    c.map_err.result
    c.map_err.ensures.cases c.read_row.ensures.row _ c.in_ok-map_err.was in
    rows_more (pair_in a.form.fields a.form.size) a.reader.now a.form.size c.requires.0 a.form.few a.cells.now l.cells l.reader l.a l.invariant
    (omega (arith, c.loop-a-test.true)) c.read_row.new.cells c.read_row.new.reader c.read_row.ensures.length row

pub returns-then-is_end-clause-rows : goal.returns-then-is_end-clause-rows
returns-then-is_end-clause-rows c =
    let a = c.args in
    let l = c.loop-a in
    λ excess w.
    rows_answered a.form.fields a.reader.now a.form.size c.requires.0 a.form.few a.cells.now l.cells l.reader l.a l.invariant excess
    (omega (arith, c.loop-a-test.false)) (sym c.is_end.ensures ∙ c.if-is_end.true) w

pub returns-else-is_end-clause-rows : goal.returns-else-is_end-clause-rows
returns-else-is_end-clause-rows c =
    let a = c.args in
    let l = c.loop-a in
    λ excess w.
    rows_tail a.form.fields a.reader.now a.form.size c.requires.0 a.form.few a.cells.now l.cells l.reader l.a l.invariant excess
    (omega (arith, c.loop-a-test.false)) (sym c.is_end.ensures ∙ c.if-is_end.false)
