-- The places before `offset` were tried.
use Rattle.ways.specs.State.{Work, Busy, list_of, Progress}
use Rattle.ways.proofs.Trials.{Before}
use Rattle.ways.proofs.trying.try_word.Given as goal

abbrev pub invariant-loop-offset : goal.invariant-loop-offset
invariant-loop-offset l = (g : Work l.cells l.size) (t : Busy g l.fn.area l.fn.held) → Progress g (list_of t) (Before g l.offset) l.area l.now
