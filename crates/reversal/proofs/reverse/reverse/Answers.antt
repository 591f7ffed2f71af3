-- The images are refused before the work, or the program is run and its ending answered.
use Rattle.std.proofs.lemmas.Result.{err_from_is_err_and}
use Rattle.engine.proofs.Ended.{finishable}
use Rattle.reversal.proofs.ReverseService.{reverse_refused, reverse_runs}
use Rattle.reversal.proofs.reverse.reverse.Goals as goal

pub returns-in_err-ending : goal.returns-in_err-ending
returns-in_err-ending c =
    let a = c.args in
    let p = err_from_is_err_and c.from_residual.result c.from_residual.ensures.1 in
    rw (p.1, p.2)
    (reverse_refused a.table.now a.program.now a.allowance a.workspace.now a.answer.now c.run_images.new.workspace _ c.in_err-ending.ensures.run)

pub answer_ending-result-requires : goal.answer_ending-result-requires
answer_ending-result-requires c =
    let g = c.in_ok-ending.ensures.run in
    finishable g.presentation g.word c.args.allowance c.run_images.new.workspace _ g.reverses

pub returns : goal.returns
returns c =
    let a = c.args in
    let r = c.run_images in
    let g = c.in_ok-ending.ensures.run in
    let z = c.answer_ending-result in
    reverse_runs a.table.now a.program.now a.allowance a.workspace.now a.answer.now r.new.workspace _ g r.ensures.length c.wipe.new.area z.new.answer
    z.result c.wipe.ensures (z.ensures g.presentation g.word a.allowance g.reverses)
