-- The answer area is short, or all logs are answered.
use Rattle.std.proofs.Common.{ap, ◌∙◌, length, map, arith}
use Rattle.std.proofs.lemmas.List.{length-replicate}
use Rattle.model.specs.Areas.{written}
use Rattle.model.specs.Tray.{tray_bytes}
use Rattle.trays.specs.Tray.{log_verdict}
use Rattle.trays.proofs.Reading.{many}
use Rattle.trays.proofs.Service.{area_short, logs_answered}
use Rattle.trays.proofs.tray.compare_tray.Goals as goal

pub returns-then-answer-logs : goal.returns-then-answer-logs
returns-then-answer-logs c = λ l T o v e.
    let a = c.args in
    let z = c.in_ok-clear_cells.ensures in
    area_short a.loaded.size T v l.images a.budget a.workspace.now a.answer.now (z.clear T o) _ z.workspace
    (omega (arith, many a.tray.now a.logs l))

pub returns : goal.returns
returns c = λ l T o v e.
    let a = c.args in
    let z = c.in_ok-clear_cells.ensures in
    let x = c.answer_logs in
    let long = ap length z.workspace ∙ length-replicate (length a.workspace.now) 0 in
    logs_answered a.loaded.size T v l.images a.budget a.workspace.now a.answer.now (z.clear T o) _ (x.ensures.workspace ∙ z.workspace)
    (omega (arith, many a.tray.now a.logs l)) a.logs (many a.tray.now a.logs l) _
    (x.ensures.answer l T o v e ∙ ap (λ k. written a.answer.now 0 (tray_bytes (map (log_verdict a.loaded.size T v a.budget k) l.images))) long)
