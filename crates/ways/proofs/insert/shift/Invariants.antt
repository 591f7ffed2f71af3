-- The bytes from place `i` on are moved.
use Rattle.std.proofs.Common.{◌≤◌}
use Rattle.ways.proofs.Inserting.{Shifting}
use Rattle.ways.proofs.insert.shift.Given as goal

abbrev pub invariant-loop-i : goal.invariant-loop-i
invariant-loop-i l = (l.at ≤ l.i) × Shifting l.fn.area l.at l.used l.by l.i l.area
