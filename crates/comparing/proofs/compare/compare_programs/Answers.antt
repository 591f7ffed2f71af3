-- A table that does not clear, and one that does.
use Rattle.std.proofs.Common.{sym, ap, ◌∙◌, length}
use Rattle.std.proofs.lemmas.List.{length-replicate}
use Rattle.std.proofs.lemmas.Result.{err_from_is_err_and}
use Rattle.model.specs.Services.{forward_verdict}
use Rattle.model.specs.Areas.{workspace_after}
use Rattle.comparing.proofs.Comparing.{comparison_refused, comparison_decided, forward_late}
use Rattle.comparing.proofs.compare.compare_programs.Goals as goal

pub returns-in_err-clear_cells : goal.returns-in_err-clear_cells
returns-in_err-clear_cells c =
    let p = err_from_is_err_and c.from_residual.result c.from_residual.ensures.1 in
    let a = c.args in
    let z = c.in_err-clear_cells.ensures in
    rw (p.1, p.2)
    (record {
      workspace = z.workspace;
      judged = λ T o u v eu ev. comparison_refused T u v a.budget (length a.workspace.now) _ (z.clear T o);
    })

pub returns : goal.returns
returns c =
    let a = c.args in
    let f = c.requires.programs in
    let z = c.in_ok-clear_cells.ensures in
    let x = c.compare_cleared in
    let long = ap length z.workspace ∙ length-replicate (length a.workspace.now) 0 in
    record {
      workspace =
          x.ensures.workspace ∙ z.workspace
          ∙ sym (ap (λ o. workspace_after o a.workspace.now)
          (x.ensures.decided f.table f.of f.pair.one.word f.pair.two.word f.pair.one.read f.pair.two.read)
          ∙ (forward_late f.table f.pair.one.word f.pair.two.word a.budget (length c.clear_cells.new.workspace)).zero a.workspace.now);
      judged = λ T o u v eu ev.
          comparison_decided T u v a.budget (length a.workspace.now) (z.clear T o) x.result
          (x.ensures.decided T o u v eu ev ∙ ap (λ k. forward_verdict T u v a.budget k) long);
    }
