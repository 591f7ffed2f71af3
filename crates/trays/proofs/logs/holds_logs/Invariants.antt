-- The logs before the place were passed.
use Rattle.std.proofs.Common.{◌-◌}
use Rattle.trays.proofs.Reading.{Passed}
use Rattle.trays.proofs.logs.holds_logs.Given as goal

abbrev pub invariant-loop : goal.invariant-loop
invariant-loop l = Passed l.tray l.logs l.at (l.logs - l.counter)
