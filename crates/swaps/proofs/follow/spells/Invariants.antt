-- What is left to compare are the letters from i on.
use Rattle.std.proofs.Common.{◌≡◌, length}
use Rattle.model.specs.Word.{Positive}
use Rattle.model.specs.Equivalence.{equal}
use Rattle.model.specs.Outcome.{answered}
use Rattle.model.specs.Services.{read_forward}
use Rattle.swaps.proofs.Comparing.{Rest}
use Rattle.swaps.proofs.follow.spells.Given as goal

abbrev pub invariant-loop-i : goal.invariant-loop-i
invariant-loop-i l = (v : Positive) → read_forward l.size l.program ≡ answered v → equal l.word v ≡ Rest l.word v 0 0 (length l.word) l.i
