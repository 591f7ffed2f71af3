-- The images are refused before the work, or the table that has no mirror, or the program is run and its ending answered.
use Rattle.std.proofs.Common.{reverse}
use Rattle.std.proofs.lemmas.Result.{err_from_is_err_and}
use Rattle.model.specs.Mirror.{mirror}
use Rattle.reversal.proofs.LeftService.{left_refused, left_runs}
use Rattle.reversal.proofs.left_reverse.left_reverse.Goals as goal

pub returns-in_err-ending : goal.returns-in_err-ending
returns-in_err-ending c =
    let a = c.args in
    let p = err_from_is_err_and c.from_residual.result c.from_residual.ensures.1 in
    rw (p.1, p.2)
    (left_refused a.table.now a.program.now a.allowance a.workspace.now a.answer.now c.run_mirrored.new.workspace _ c.in_err-ending.ensures.run)

pub answer_backward-result-requires : goal.answer_backward-result-requires
answer_backward-result-requires c =
    let g = c.in_ok-ending.ensures.run in
    record { table = mirror g.presentation; word = reverse g.word; budget = c.args.allowance; reverses = g.reverses }

pub returns : goal.returns
returns c =
    let a = c.args in
    let r = c.run_mirrored in
    let g = c.in_ok-ending.ensures.run in
    let z = c.answer_backward-result in
    left_runs a.table.now a.program.now a.allowance a.workspace.now a.answer.now r.new.workspace _ g r.ensures.length c.wipe.new.area z.new.answer z.result
    c.wipe.ensures (z.ensures (mirror g.presentation) (reverse g.word) a.allowance g.reverses)
