-- The bits of the size, of the weights and of the rows passed, and a bound of them.
use Rattle.std.proofs.Common.{◌≡◌, List, ◌+◌, ◌-◌, ◌*◌, ◌≤◌, length, take}
use Rattle.model.specs.Presentation.{Complement}
use Rattle.model.specs.Enumeration.{concat_map}
use Rattle.images.specs.Tables.{RowsHeld}
use Rattle.writers.specs.Forms.{pair_as}
use Rattle.writers.proofs.source.Source.table_bits.Given as goal

abbrev pub invariant-loop-a : goal.invariant-loop-a
invariant-loop-a l =
    (l.bits ≤ 136 + 3960 * (l.a - 1))
    × ((rows : List (List Complement)) → RowsHeld l.self.size l.self.cells.now rows
    → l.bits ≡ l.self.form.sizes + l.self.size * l.self.form.weights + length (concat_map (concat_map (pair_as l.self.form)) (take (l.a - 1) rows)))
