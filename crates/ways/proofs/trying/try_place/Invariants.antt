-- The letters before `b` were tried.
use Rattle.ways.specs.State.{Work, Busy, list_of, Progress}
use Rattle.ways.proofs.Trials.{Below}
use Rattle.ways.proofs.trying.try_place.Given as goal

abbrev pub invariant-loop-b : goal.invariant-loop-b
invariant-loop-b l = (g : Work l.cells l.size) (t : Busy g l.fn.area l.fn.held) → Progress g (list_of t) (Below g l.offset l.b) l.area l.now
