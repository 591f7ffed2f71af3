-- The struct shows the bed after the moves passed.
use Rattle.std.proofs.Common.{◌≡◌, take}
use Rattle.model.specs.Word.{Word}
use Rattle.model.specs.Outcome.{answered}
use Rattle.model.specs.Images.{read_program}
use Rattle.model.specs.Bed.{first_bed, laid}
use Rattle.bed.specs.Shown.{Shows}
use Rattle.bed.proofs.moves.laid.Given as goal

abbrev pub invariant-loop-i : goal.invariant-loop-i
invariant-loop-i l = (w : Word) → read_program l.size l.program ≡ answered w → Shows l.bed (laid (take l.i w) (first_bed l.size))
