-- The letters passed are put.
use Rattle.writers.specs.BitWriter.{Puts}
use Rattle.writers.proofs.Letters.{first_bits}
use Rattle.writers.proofs.programs.put_program.Given as goal

abbrev pub invariant-loop-x : goal.invariant-loop-x
invariant-loop-x l = Puts l.initial.writer (first_bits l.size l.plain l.x-index) l.writer
