-- The bits of the pairs passed, and a bound of them.
use Rattle.std.proofs.Common.{◌≡◌, List, ◌+◌, ◌-◌, ◌*◌, ◌≤◌, length, take}
use Rattle.model.specs.Presentation.{Complement}
use Rattle.model.specs.Enumeration.{concat_map}
use Rattle.images.specs.Tables.{HoldsRow}
use Rattle.writers.specs.Forms.{pair_as}
use Rattle.writers.proofs.source.Source.row_bits.Given as goal

abbrev pub invariant-loop-b : goal.invariant-loop-b
invariant-loop-b l =
    (l.bits ≤ 264 * (l.b - l.a - 1))
    × ((row : List Complement) → HoldsRow l.self.size l.self.cells.now l.a row → length row + l.a ≡ l.self.size
    → l.bits ≡ length (concat_map (pair_as l.self.form) (take (l.b - l.a - 1) row)))
