-- The rows read stand in their cells, and the others are left.
use Rattle.images.specs.Forms.{pair_in}
use Rattle.images.proofs.Rows.{RowsFilled}
use Rattle.images.proofs.tables.read_rows.Given as goal

abbrev pub invariant-loop-a : goal.invariant-loop-a
invariant-loop-a l = RowsFilled (pair_in l.form.fields l.form.size) l.initial.reader l.form.size l.initial.cells l.cells l.reader l.a
