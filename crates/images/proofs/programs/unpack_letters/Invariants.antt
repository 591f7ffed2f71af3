-- The bytes passed stand in the area, which else is as it was, and the reader stands behind their letters.
use Rattle.std.proofs.Common.{◌≡◌, ◌+◌, ◌*◌}
use Rattle.std.proofs.Math.Seq.{paste}
use Rattle.model.specs.Word.{Word}
use Rattle.model.specs.Outcome.{answered}
use Rattle.model.specs.Images.{read_program, count_width}
use Rattle.model.specs.Plain.{plain_program}
use Rattle.images.specs.Fields.{from}
use Rattle.images.specs.Widths.{WidthOf}
use Rattle.images.proofs.programs.unpack_letters.Given as goal

abbrev pub invariant-loop-i : goal.invariant-loop-i
invariant-loop-i l =
    WidthOf l.size l.width × (l.reader ≡ from l.image (count_width + l.i * (1 + l.width)))
    × ((w : Word) → read_program l.size l.image ≡ answered w → l.area ≡ paste l.initial.area l.at (plain_program w) l.i)
