-- A table that is not read, and a text under one that is.
use Rattle.std.proofs.lemmas.Result.{err_from_is_err_and}
use Rattle.importing.proofs.Importing.{promised_refused, promised_text}
use Rattle.importing.proofs.import.import.Goals as goal

pub returns-in_err-size : goal.returns-in_err-size
returns-in_err-size c =
    let a = c.args in
    let p = err_from_is_err_and c.from_residual.result c.from_residual.ensures.1 in
    rw (p.1, p.2) (promised_refused a.table.now a.text.now a.answer.now _ c.in_err-size.ensures)

pub returns : goal.returns
returns c =
    let a = c.args in
    let i = c.import_text in
    promised_text a.table.now a.text.now a.answer.now c.in_ok-size.size c.in_ok-size.ensures i.new.answer i.result i.ensures
