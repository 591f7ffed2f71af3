-- What refuses reverse refuses it, too.
use Rattle.std.proofs.Common.{length}
use Rattle.std.proofs.lemmas.Result.{err_from_is_err_and}
use Rattle.engine.proofs.Ended.{finishable}
use Rattle.reversal.proofs.ReadBackward.{refused_backward}
use Rattle.reversal.proofs.endings.answer_backward.Goals as goal

pub answer_ending-requires : goal.answer_ending-requires
answer_ending-requires c =
    let s = c.requires in
    finishable s.table s.word s.budget c.args.workspace.now c.args.ending s.reverses

pub returns-in_err-words : goal.returns-in_err-words
returns-in_err-words c =
    let a = c.args in
    let p = err_from_is_err_and c.from_residual.result c.from_residual.ensures.1 in
    rw (p.1, p.2)
    (λ T w b q. refused_backward T w b (length a.workspace.now) a.answer.now c.answer_ending.new.answer _ (c.in_err-words.ensures T w b q))
