-- What is passed of the two words is in balance.
use Rattle.std.proofs.Common.{◌+◌, ◌-◌}
use Rattle.signed_comparing.proofs.Weighing.{Balanced}
use Rattle.signed_comparing.proofs.weight.same_weight.Given as goal

abbrev pub invariant-loop-at : goal.invariant-loop-at
invariant-loop-at l = Balanced l.cells l.bytes l.middle l.end l.at

abbrev pub decreases-loop-at : goal.decreases-loop-at
decreases-loop-at l = (l.middle - l.at.first) + (l.end - l.at.second)
