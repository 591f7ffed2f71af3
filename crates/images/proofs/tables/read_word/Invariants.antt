-- The letters read stand in the cell, and the others are left.
use Rattle.images.specs.Forms.{letter_in}
use Rattle.images.proofs.Words.{Filled}
use Rattle.images.proofs.tables.read_word.Given as goal

abbrev pub invariant-loop-k : goal.invariant-loop-k
invariant-loop-k l = Filled (letter_in l.form.fields l.form.size) l.initial.reader l.form.size l.initial.cells l.cell l.k-end l.cells l.reader l.k
