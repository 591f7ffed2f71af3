-- The rows passed are put.
use Rattle.std.proofs.Common.{List, ◌-◌, take}
use Rattle.model.specs.Presentation.{Complement}
use Rattle.model.specs.Enumeration.{concat_map}
use Rattle.images.specs.Tables.{RowsHeld}
use Rattle.writers.specs.BitWriter.{Puts}
use Rattle.writers.specs.Forms.{pair_as}
use Rattle.writers.proofs.source.Source.put_rows.Given as goal

abbrev pub invariant-loop-a : goal.invariant-loop-a
invariant-loop-a l =
    (rows : List (List Complement)) → RowsHeld l.self.size l.self.cells.now rows
    → Puts l.initial.writer (concat_map (concat_map (pair_as l.self.form)) (take (l.a - 1) rows)) l.writer
