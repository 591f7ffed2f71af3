-- The bytes stand again and again up to the place.
use Rattle.importing.proofs.Laying.{Copied}
use Rattle.importing.proofs.writing.repeat.Given as goal

abbrev pub invariant-loop-at : goal.invariant-loop-at
invariant-loop-at l = Copied l.fn.area l.from l.count l.end l.area l.at
