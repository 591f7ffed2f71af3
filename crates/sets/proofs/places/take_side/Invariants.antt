-- Some pairs of the place were taken.
use Rattle.std.proofs.Common.{ℕ, ◌-◌, List, length}
use Rattle.model.specs.Word.{Positive}
use Rattle.model.specs.Presentation.{Presentation}
use Rattle.sets.specs.Places.{sided_pair, sided_count, LaterWord}
use Rattle.sets.proofs.Taking.{Taking}
use Rattle.sets.proofs.places.take_side.Given as goal

abbrev pub invariant-loop-later : goal.invariant-loop-later
invariant-loop-later l =
    (T : Presentation) (vs : List Positive) (m : ℕ) → LaterWord l.cells l.fn.area l.fn.held l.later T vs m
    → Taking T l.budget (length l.fn.area) vs (sided_pair l.side m) (sided_count l.side m) l.area l.current l.at

abbrev pub decreases-loop-later : goal.decreases-loop-later
decreases-loop-later l = length l.area - l.at
