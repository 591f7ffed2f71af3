-- The letters so far are written.
use Rattle.ways.specs.Swap.{new_word}
use Rattle.ways.proofs.Inserting.{Writing}
use Rattle.ways.proofs.insert.write_word.Given as goal

abbrev pub invariant-loop-i : goal.invariant-loop-i
invariant-loop-i l = Writing l.fn.area l.at (new_word l.fn.area l.cells l.swap) l.i l.area
