-- Each log is answered behind those before it.
use Rattle.std.proofs.Common.{ap, ◌∙◌, ◌*◌, length, arith}
use Rattle.model.specs.Areas.{written}
use Rattle.model.specs.Tray.{log_bytes}
use Rattle.trays.specs.Logs.{image_at}
use Rattle.trays.specs.Tray.{log_verdict}
use Rattle.trays.proofs.Answering.{answered_inside, answered_next, answered_last}
use Rattle.trays.proofs.tray.answer_logs.Goals as goal

pub answer_log-at-requires-clause-log : goal.answer_log-at-requires-clause-log
answer_log-at-requires-clause-log c =
    let a = c.args in
    let l = c.loop-log in
    answered_inside a.cells.now a.loaded.size a.tray.now a.pattern.now a.budget (length a.workspace.now) a.answer.now a.logs c.requires.logs
    l.answer l.at l.log (l.invariant.answered c.requires.logs) (omega arith)

pub loop-log-preserved : goal.loop-log-preserved
loop-log-preserved c =
    let a = c.args in
    let l = c.loop-log in
    let x = c.answer_log-at in
    record {
      workspace = x.ensures.workspace ∙ l.invariant.workspace;
      answered = λ k.
          answered_next a.cells.now a.loaded.size a.tray.now a.pattern.now a.budget (length a.workspace.now) a.answer.now a.logs k l.answer l.at l.log
          (l.invariant.answered k) (omega arith) x.new.answer x.result x.ensures.ends x.ensures.same_length
          (λ T o v e. x.ensures.answer T o v e
          ∙ ap (λ w. written l.answer (3 * l.log) (log_bytes (log_verdict a.loaded.size T v a.budget (length w) (image_at a.tray.now l.at))))
          l.invariant.workspace);
    }

pub returns : goal.returns
returns c =
    let a = c.args in
    let l = c.loop-log in
    record {
      workspace = l.invariant.workspace;
      answer = λ k. answered_last a.cells.now a.loaded.size a.tray.now a.pattern.now a.budget (length a.workspace.now) a.answer.now a.logs k l.answer l.at l.log
          (l.invariant.answered k) (omega arith);
    }
