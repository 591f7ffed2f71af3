-- The pairs read stand in their cells, and the others are left.
use Rattle.images.specs.Forms.{pair_in}
use Rattle.images.proofs.Rows.{RowFilled}
use Rattle.images.proofs.tables.read_row.Given as goal

abbrev pub invariant-loop-b : goal.invariant-loop-b
invariant-loop-b l = RowFilled (pair_in l.form.fields l.form.size) l.initial.reader l.form.size l.initial.cells l.a l.cells l.reader l.b
