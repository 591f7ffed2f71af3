-- What is left is to follow the entries from i on, from the word in the area.
use Rattle.std.proofs.Common.{◌≡◌, List, length, drop}
use Rattle.model.specs.Word.{Positive}
use Rattle.model.specs.Presentation.{Presentation}
use Rattle.model.specs.Equivalence.{Entry}
use Rattle.model.specs.Outcome.{answered}
use Rattle.model.specs.Images.{read_chain}
use Rattle.model.specs.Services.{followed}
use Rattle.cells.specs.Stands.{Of}
use Rattle.swaps.specs.Held.{held_at, Placed}
use Rattle.swaps.proofs.follow.follow.Given as goal

abbrev pub invariant-loop-i : goal.invariant-loop-i
invariant-loop-i l =
    Placed l.bytes l.at.left l.at.right
    × ((T : Presentation) → Of l.cells l.size T → (es : List Entry) → read_chain l.size l.chain ≡ answered es → (v : Positive)
    → followed T (length l.fn.bytes) 0 (held_at l.fn.bytes l.fn.gap.left l.fn.gap.right) es v
    ≡ followed T (length l.fn.bytes) l.i (held_at l.bytes l.at.left l.at.right) (drop l.i es) v)
