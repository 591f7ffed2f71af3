-- The letters that were passed are weighed.
use Rattle.std.proofs.Common.{◌≡◌, ◌+◌, ◌*◌, ◌≤◌, ◌∷◌, take}
use Rattle.model.specs.Word.{Positive}
use Rattle.model.specs.Presentation.{Presentation, complement, complete, weigh}
use Rattle.cells.specs.Stands.{Of}
use Rattle.table_checks.proofs.table.side_weight.Given as goal

abbrev pub invariant-loop-x : goal.invariant-loop-x
invariant-loop-x l =
    (l.weight ≤ 8 + 8 * l.x-index)
    × ((T : Presentation) → Of l.cells l.size T → (x y : Positive) → complete T l.a l.b ≡ complement x y → l.weight ≡ weigh T (l.a ∷ take l.x-index x))
