-- The images are refused before the work, or the program is run.
use Rattle.std.proofs.lemmas.Result.{err_from_is_err_and}
use Rattle.reversal.proofs.EnquireService.{enquire_refused, enquire_runs}
use Rattle.reversal.proofs.enquire.enquire.Goals as goal

pub returns-in_err-ending : goal.returns-in_err-ending
returns-in_err-ending c =
    let a = c.args in
    let p = err_from_is_err_and c.from_residual.result c.from_residual.ensures.1 in
    rw (p.1, p.2) (enquire_refused a.table.now a.program.now a.allowance a.workspace.now c.run_images.new.workspace _ c.in_err-ending.ensures.run)

pub returns : goal.returns
returns c =
    let a = c.args in
    let r = c.run_images in
    rw c.sizes_of.ensures
    (enquire_runs a.table.now a.program.now a.allowance a.workspace.now r.new.workspace _ c.in_ok-ending.ensures.run r.ensures.length c.wipe.new.area
    c.wipe.ensures)
