-- The letters so far are the same.
use Rattle.ways.proofs.NewWords.{Agree}
use Rattle.ways.proofs.swap.NewWord.compare.Given as goal

abbrev pub invariant-loop-i : goal.invariant-loop-i
invariant-loop-i l = Agree l.self l.listed l.i
