-- The inverse of the first `i` letters is written.
use Rattle.std.proofs.Common.{◌≡◌, ◌+◌, ◌-◌, ◌≤◌, take, drop, get_or}
use Rattle.model.specs.Word.{inverse}
use Rattle.engine.specs.Gap.{letters}
use Rattle.engine.specs.Turn.{Pushed}
use Rattle.engine.proofs.step.push_inverse.Given as goal

abbrev pub invariant-loop-i : goal.invariant-loop-i
invariant-loop-i l =
    (l.i ≤ get_or l.cells l.at 0) × (l.next + l.i ≡ l.right) × Pushed (inverse (letters (take l.i (drop (l.at + 1) l.cells)))) l.fn.bytes l.right l.i l.bytes

abbrev pub decreases-loop-i : goal.decreases-loop-i
decreases-loop-i l = get_or l.cells l.at 0 - l.i
