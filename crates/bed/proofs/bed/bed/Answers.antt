-- A refusal is that of the table or of the program. Else the answer is that of an accepted program.
use Rattle.std.proofs.Common.{length, sym, subst, Err}
use Rattle.std.proofs.lemmas.Result.{err_from_is_err_and}
use Rattle.cells.proofs.Rules.{blank_zeros}
use Rattle.bed.specs.Shown.{Answers}
use Rattle.bed.proofs.Answering.{refused_answers}
use Rattle.bed.proofs.Service.{bed_no_table, bed_no_program, bed_shows, promised}
use Rattle.bed.proofs.bed.bed.Goals as goal

pub read_braid-requires : goal.read_braid-requires
read_braid-requires c = blank_zeros

pub returns-in_err-size : goal.returns-in_err-size
returns-in_err-size c =
    let a = c.args in
    let r = c.in_err-size.field-0.0 in
    let p = err_from_is_err_and c.from_residual.result c.from_residual.ensures.1 in
    rw (p.1, p.2)
    (promised a.table.now a.program.now a.moves a.answer.now a.answer.now (Err r)
    (refused_answers _ a.answer.now r (bed_no_table a.table.now a.program.now a.moves (length a.answer.now) r c.in_err-size.ensures)))

pub returns-in_err-read : goal.returns-in_err-read
returns-in_err-read c =
    let a = c.args in
    let b = c.in_ok-size.ensures in
    let r = c.in_err-read.field-0.0 in
    let p = err_from_is_err_and c.from_residual-in_err-read.result c.from_residual-in_err-read.ensures.1 in
    rw (p.1, p.2)
    (promised a.table.now a.program.now a.moves a.answer.now a.answer.now (Err r)
    (refused_answers _ a.answer.now r
    (bed_no_program a.table.now a.program.now a.moves (length a.answer.now) b.table b.read c.in_ok-size.size b.of.sized r c.in_err-read.ensures)))

pub returns : goal.returns
returns c =
    let a = c.args in
    let b = c.in_ok-size.ensures in
    let m = c.in_ok-read.ensures.program in
    let s = c.show_program in
    promised a.table.now a.program.now a.moves a.answer.now s.new.answer s.result
    (subst (λ o. Answers o a.answer.now s.new.answer s.result)
    (sym (bed_shows a.table.now a.program.now a.moves (length a.answer.now) b.table b.read c.in_ok-size.size b.of.sized m.word m.read))
    (s.ensures m.word m.read))
