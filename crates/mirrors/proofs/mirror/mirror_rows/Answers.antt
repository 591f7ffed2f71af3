-- A row is entered, and ends the rows where a pair of it offends.
use Rattle.std.proofs.Common.{◌∙◌, arith}
use Rattle.std.proofs.lemmas.Result.{err_from_is_err_and}
use Rattle.mirrors.proofs.Rows.{rows_more, rows_offend}
use Rattle.mirrors.proofs.mirror.mirror_rows.Goals as goal

pub returns-in_err-mirror_row-clause-rows : goal.returns-in_err-mirror_row-clause-rows
returns-in_err-mirror_row-clause-rows c =
    let e = err_from_is_err_and c.from_residual.result c.from_residual.ensures.1 in
    rw (e.1, e.2)
    (rows_offend c.args.cells.now c.args.size c.args.mirror.now c.loop-a.mirror c.loop-a.a c.loop-a.invariant.entered (omega arith)
    c.mirror_row.new.mirror c.in_err-mirror_row.field-0.0 c.in_err-mirror_row.ensures.row)

pub loop-a-preserved : goal.loop-a-preserved
loop-a-preserved c = record {
  full = c.mirror_row.ensures.length ∙ c.loop-a.invariant.full;
  entered =
      rows_more c.args.cells.now c.args.size c.args.mirror.now c.loop-a.mirror c.loop-a.a c.loop-a.invariant.entered (omega arith)
      c.mirror_row.new.mirror c.in_ok-mirror_row.ensures.row;
}
