-- The weights passed are put.
use Rattle.std.proofs.Common.{List, ℕ, ◌-◌, take}
use Rattle.model.specs.Enumeration.{concat_map}
use Rattle.cells.specs.Stands.{HoldsWeights}
use Rattle.writers.specs.BitWriter.{Puts}
use Rattle.writers.specs.Forms.{weight_as}
use Rattle.writers.proofs.source.Source.put_weights.Given as goal

abbrev pub invariant-loop-a : goal.invariant-loop-a
invariant-loop-a l =
    (excess : List ℕ) → HoldsWeights l.self.size l.self.cells.now excess
    → Puts l.initial.writer (concat_map (weight_as l.self.form) (take (l.a - 1) excess)) l.writer
