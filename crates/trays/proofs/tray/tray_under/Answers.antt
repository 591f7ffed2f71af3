-- The table or the pattern is not read, or the tray is compared under what was loaded.
use Rattle.std.proofs.Common.{sym, subst, length, arith}
use Rattle.std.proofs.lemmas.Result.{err_from_is_err_and}
use Rattle.model.specs.Services.{read_forward, read_table_with}
use Rattle.cells.proofs.Rules.{blank_zeros}
use Rattle.loading.proofs.Early.{forward_early}
use Rattle.loading.proofs.Reading.{table_with_early}
use Rattle.trays.specs.Tray.{States}
use Rattle.trays.proofs.Service.{unread, tray_refused, sized_runs}
use Rattle.trays.proofs.tray.tray_under.Goals as goal

pub read_table_program-requires : goal.read_table_program-requires
read_table_program-requires c = blank_zeros

pub returns-in_err-loaded : goal.returns-in_err-loaded
returns-in_err-loaded c =
    let a = c.args in
    let table = a.table.now in
    let pattern = a.pattern.now in
    let e = c.in_err-loaded.ensures in
    let p = err_from_is_err_and c.from_residual.result c.from_residual.ensures.1 in
    rw (p.1, p.2)
    (tray_refused table a.tray.now pattern a.budget a.workspace.now a.answer.now _
    (unread table a.tray.now pattern a.budget (length a.workspace.now) (length a.answer.now) c.requires.all.images c.requires.read _ e)
    (read_table_with read_forward table pattern) 7 e (table_with_early read_forward table pattern forward_early) (omega arith))

pub returns : goal.returns
returns c =
    let a = c.args in
    let l = c.in_ok-loaded.ensures in
    let t = l.runs in
    let x = c.compare_tray in
    subst (λ o. States o a.workspace.now x.new.workspace a.answer.now x.new.answer x.result)
    (sym (sized_runs a.table.now a.tray.now a.pattern.now a.budget (length a.workspace.now) (length a.answer.now) c.requires.all.images c.requires.read
    t.table l.table_read t.forward.word l.program_read c.in_ok-loaded.loaded.size t.of.sized))
    (x.ensures c.requires.all t.table t.of t.forward.word t.forward.read)
