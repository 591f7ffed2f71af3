-- The letters behind the first `i` are written.
use Rattle.std.proofs.Common.{◌≡◌, ◌+◌, ◌-◌, ◌≤◌, take, drop, get_or}
use Rattle.engine.specs.Gap.{letters}
use Rattle.engine.specs.Turn.{Pushed}
use Rattle.engine.proofs.step.push_word.Given as goal

abbrev pub invariant-loop-next : goal.invariant-loop-next
invariant-loop-next l =
    let count = get_or l.cells l.at 0 in
    (l.i ≤ count) × (l.next + (count - l.i) ≡ l.right)
    × Pushed (letters (drop l.i (take count (drop (l.at + 1) l.cells)))) l.fn.bytes l.right (count - l.i) l.bytes

abbrev pub decreases-loop-next : goal.decreases-loop-next
decreases-loop-next l = l.i
