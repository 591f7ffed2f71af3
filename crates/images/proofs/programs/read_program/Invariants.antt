-- The letters passed are read, and their signs and weights counted.
use Rattle.images.specs.Widths.{WidthOf}
use Rattle.images.proofs.Measuring.{Passed}
use Rattle.images.proofs.programs.read_program.Given as goal

abbrev pub invariant-loop : goal.invariant-loop
invariant-loop l = WidthOf l.size l.width × Passed l.image l.cells l.size l.count l.reader l.tally.backs l.tally.weight l.counter
