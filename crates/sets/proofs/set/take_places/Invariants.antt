-- Some places were gone through.
use Rattle.std.proofs.Common.{◌-◌, List, length}
use Rattle.model.specs.Word.{Positive}
use Rattle.model.specs.Presentation.{Presentation}
use Rattle.cells.specs.Stands.{Stands}
use Rattle.sets.specs.Growing.{Growing}
use Rattle.sets.proofs.Closing.{Closing}
use Rattle.sets.proofs.set.take_places.Given as goal

abbrev pub invariant-loop-at : goal.invariant-loop-at
invariant-loop-at l =
    (T : Presentation) (vs : List Positive) → Stands l.cells T → Growing T.size l.fn.area l.fn.first vs
    → Closing T l.budget (length l.fn.area) vs l.area l.held l.at

abbrev pub decreases-loop-at : goal.decreases-loop-at
decreases-loop-at l = length l.area - l.at
