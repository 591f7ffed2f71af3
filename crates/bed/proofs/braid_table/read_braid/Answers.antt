-- The refusal of the table, or of one that is not the braid table.
use Rattle.std.proofs.Common.{sym, ◌∙◌}
use Rattle.std.proofs.lemmas.Result.{err_from_is_err_and}
use Rattle.bed.proofs.Service.{braid_of, table_refused, braid_refused}
use Rattle.bed.proofs.braid_table.read_braid.Goals as goal

pub returns-in_err-size : goal.returns-in_err-size
returns-in_err-size c =
    let p = err_from_is_err_and c.from_residual.result c.from_residual.ensures.1 in
    rw (p.1, p.2) (table_refused c.args.image.now _ c.in_err-size.ensures.table)

pub returns-then-is_braid : goal.returns-then-is_braid
returns-then-is_braid c =
    let t = c.in_ok-size.ensures.table in
    braid_of c.args.image.now _ _ t (sym (c.is_braid.ensures t.table t.of) ∙ c.if-is_braid.true)

pub returns : goal.returns
returns c =
    let t = c.in_ok-size.ensures.table in
    braid_refused c.args.image.now t.table t.read (sym (c.is_braid.ensures t.table t.of) ∙ c.if-is_braid.false)
