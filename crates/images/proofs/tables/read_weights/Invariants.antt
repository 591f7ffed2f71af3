-- The weights read stand in their places, and the others are left.
use Rattle.images.specs.Forms.{weight_in}
use Rattle.images.proofs.Weights.{WeightsFilled}
use Rattle.images.proofs.tables.read_weights.Given as goal

abbrev pub invariant-loop-a : goal.invariant-loop-a
invariant-loop-a l = WeightsFilled (weight_in l.form.fields) l.initial.reader l.form.size l.initial.cells l.cells l.reader l.a
