-- A text that was read, by the three tests of its numbers.
use Rattle.std.proofs.Common.{subst}
use Rattle.importing.specs.Import.{TextDone}
use Rattle.importing.proofs.Importing.{answers_above, answers_too_many, answers_short, answers_laid}
use Rattle.importing.proofs.import.import_text.Goals as goal

pub returns-then-size-span : goal.returns-then-size-span
returns-then-size-span c =
    let a = c.args in
    let s = c.in_ok-span in
    answers_above a.text.now a.size a.answer.now s.span (subst (TextDone a.text.now) s.ensures.ok_part c.read_text.ensures) c.if-size-span.true

pub returns-then-moves-gt-MOST_LETTERS : goal.returns-then-moves-gt-MOST_LETTERS
returns-then-moves-gt-MOST_LETTERS c =
    let a = c.args in
    let s = c.in_ok-span in
    answers_too_many a.text.now a.size a.answer.now s.span (subst (TextDone a.text.now) s.ensures.ok_part c.read_text.ensures) c.if-size-span.false
    c.if-moves-gt-MOST_LETTERS.true

pub returns-then-answer-moves : goal.returns-then-answer-moves
returns-then-answer-moves c =
    let a = c.args in
    let s = c.in_ok-span in
    answers_short a.text.now a.size a.answer.now s.span (subst (TextDone a.text.now) s.ensures.ok_part c.read_text.ensures) c.if-size-span.false
    c.if-moves-gt-MOST_LETTERS.false c.if-answer-moves.true

pub returns : goal.returns
returns c =
    let a = c.args in
    let s = c.in_ok-span in
    let w = c.write_pattern in
    answers_laid a.text.now a.size a.answer.now s.span (subst (TextDone a.text.now) s.ensures.ok_part c.read_text.ensures) c.if-size-span.false
    c.if-moves-gt-MOST_LETTERS.false c.if-answer-moves.false w.new.area w.result w.ensures.pattern
