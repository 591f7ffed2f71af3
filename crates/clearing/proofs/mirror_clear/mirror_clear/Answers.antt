-- The table is refused before the work, or its mirror is cleared; what the outcome means.
use Rattle.std.proofs.lemmas.Result.{err_from_is_err_and}
use Rattle.cells.proofs.Rules.{blank_zeros}
use Rattle.clearing.proofs.Cleared.{mirror_refused, mirror_done}
use Rattle.clearing.proofs.mirror_clear.mirror_clear.Goals as goal

pub read_table-requires : goal.read_table-requires
read_table-requires c = blank_zeros

pub returns-in_err-size : goal.returns-in_err-size
returns-in_err-size c =
    let a = c.args in
    let p = err_from_is_err_and c.from_residual.result c.from_residual.ensures.1 in
    rw (p.1, p.2) (mirror_refused a.table.now a.allowance a.workspace.now _ c.in_err-size.ensures.table)

pub returns : goal.returns
returns c =
    let a = c.args in
    let t = c.in_ok-size.ensures.table in
    let z = c.clear_mirror.ensures in
    mirror_done a.table.now a.allowance a.workspace.now t.table t.read c.clear_mirror.new.workspace c.clear_mirror.result (z.clear t.table t.of) z.workspace
