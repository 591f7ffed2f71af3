-- An item's body is measured below the item, and the item below its pattern. In the loop, the items before the place are laid out.
use Rattle.std.proofs.Common.{◌+◌, ◌*◌, drop, length}
use Rattle.importing.proofs.Underway.{Underway}
use Rattle.importing.proofs.writing.+write_body_write_item_write_pattern.Given as goal

abbrev pub decreases-write_body : goal.decreases-write_body
decreases-write_body l = 3 * l.depth

abbrev pub decreases-write_item : goal.decreases-write_item
decreases-write_item l = 3 * l.depth + 1

abbrev pub decreases-write_pattern : goal.decreases-write_pattern
decreases-write_pattern l = 3 * l.depth + 2

abbrev pub invariant-write_pattern-loop-laid : goal.invariant-write_pattern-loop-laid
invariant-write_pattern-loop-laid l = Underway l.text l.at l.depth l.from l.fn.area l.area l.laid

abbrev pub decreases-write_pattern-loop-laid : goal.decreases-write_pattern-loop-laid
decreases-write_pattern-loop-laid l = length (drop l.laid.next l.text)
