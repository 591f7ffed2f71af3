-- The first logs are answered, and the workspace is as it was.
use Rattle.std.proofs.Common.{◌≡◌, ◌-◌, ◌*◌, length}
use Rattle.trays.specs.Logs.{LogsOf}
use Rattle.trays.proofs.Answering.{Answered}
use Rattle.trays.proofs.tray.answer_logs.Given as goal

abbrev pub invariant-loop-log : goal.invariant-loop-log
invariant-loop-log l = record {
  workspace : l.workspace ≡ l.fn.workspace;
  answered : (k : LogsOf l.tray l.logs)
      → Answered l.cells l.loaded.size l.tray l.pattern l.budget (length l.fn.workspace) k.images l.fn.answer l.answer l.at (3 * l.log) (l.logs - l.log);
}
