-- `signed_comparing::preparing::prepare_both` meets its contract: the table is refused, or the mirror and the set follow.
use Rattle.std.proofs.Common.{ap, sym, length, replicate, ◌≡◌, ◌∙◌}
use lib.ListN.{length-replicate}
use Rattle.std.proofs.lemmas.Result.{err_from_is_err_and}
use Rattle.signed_comparing.specs.Preparing.{mirror_then_set}
use Rattle.signed_comparing.proofs.Prepared.{table_refused, table_clears}
use Rattle.signed_comparing.proofs.preparing.prepare_both.Goals as goal

pub returns-in_err-clear_cells-clause-prepares : goal.returns-in_err-clear_cells-clause-prepares
returns-in_err-clear_cells-clause-prepares c T o has u =
    let a = c.args in
    let e = c.in_err-clear_cells in
    let p = err_from_is_err_and c.from_residual.result c.from_residual.ensures.1 in
    rw (p.1, p.2) (table_refused T a.budget (length a.workspace.now) has e.field-0.0 (e.ensures.clear T o))

pub returns-clause-prepares : goal.returns-clause-prepares
returns-clause-prepares c T o has u =
    let a = c.args in
    let area = a.workspace.now in
    let e = c.in_ok-clear_cells in
    let long : length c.clear_cells.new.workspace ≡ length area = ap length e.ensures.workspace ∙ length-replicate (length area) 0 in
    c.mirror_then_set.ensures.prepares.states T o u
    ∙ (ap (λ n. mirror_then_set T a.budget n) long ∙ sym (table_clears T a.budget (length area) has (e.ensures.clear T o)))

pub returns-clause-workspace : goal.returns-clause-workspace
returns-clause-workspace c =
    let area = c.args.workspace.now in
    let e = c.in_ok-clear_cells in
    let long : length c.clear_cells.new.workspace ≡ length area = ap length e.ensures.workspace ∙ length-replicate (length area) 0 in
    c.mirror_then_set.ensures.workspace ∙ (ap (λ n. replicate n 0) long ∙ sym (c.mirror_then_set.ensures.prepares.late area))
