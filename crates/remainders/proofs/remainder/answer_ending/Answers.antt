-- The numerator is written where the denominator is empty.
use Rattle.std.proofs.Common.{subst, arith}
use Rattle.std.proofs.lemmas.Grind.{common_steps}
use Rattle.engine.specs.Run.{Reverses}
use Rattle.remainders.proofs.Answers.{moves_written}
use Rattle.remainders.proofs.remainder.answer_ending.Goals as goal

-- Kept (8): (a) of a function with an open goal no caller's answers are tried, and two versions of must-fail/joint_1.edit are refused at both
pub returns-then-answer-numerator : goal.returns-then-answer-numerator
returns-then-answer-numerator c = grind (arith, common_steps)

pub returns-else-answer-numerator : goal.returns-else-answer-numerator
returns-else-answer-numerator c =
    let a = c.args in
    let e = c.in-Finished in
    λ T w b p. moves_written T w b a.workspace.now a.answer.now e.numerator e.denominator e.steps e.relations (subst (Reverses T w b a.workspace.now) e.is p)
    c.if-denominator-ne0.false c.if-answer-numerator.false c.copy_bytes.new.area c.copy_bytes.ensures.bytes
