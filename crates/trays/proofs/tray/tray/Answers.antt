-- The tray is not read, or it is that of so many logs.
use Rattle.std.proofs.lemmas.Result.{err_from_is_err_and}
use Rattle.trays.proofs.Service.{tray_not_read, promised}
use Rattle.trays.proofs.tray.tray.Goals as goal

pub returns-in_err-logs : goal.returns-in_err-logs
returns-in_err-logs c =
    let a = c.args in
    let p = err_from_is_err_and c.from_residual.result c.from_residual.ensures.1 in
    rw (p.1, p.2)
    (promised a.table.now a.tray.now a.pattern.now a.allowance a.workspace.now _ a.answer.now _ _
    (tray_not_read a.table.now a.tray.now a.pattern.now a.allowance a.workspace.now a.answer.now _ c.in_err-logs.ensures))

pub returns : goal.returns
returns c =
    let a = c.args in
    promised a.table.now a.tray.now a.pattern.now a.allowance a.workspace.now _ a.answer.now _ c.tray_under.result c.tray_under.ensures
