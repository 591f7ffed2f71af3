-- An item's bracket is read one level deeper, and a pattern's items at its own level, so that the measure is twice the depth, and one more for a pattern.
-- In the loop, what is kept of the pattern is what is kept of the items to come, after what was read.
use Rattle.std.proofs.Common.{◌≡◌, ◌+◌, drop, length}
use Rattle.model.specs.Notation.{read_pattern}
use Rattle.importing.specs.Reading.{kept_pattern, within}
use Rattle.importing.proofs.Readers.{all_items}
use Rattle.importing.proofs.Keeping.{onto}
use Rattle.importing.proofs.reading.+read_item_read_pattern.Given as goal

abbrev pub decreases-read_item : goal.decreases-read_item
decreases-read_item l = l.depth + l.depth

abbrev pub decreases-read_pattern : goal.decreases-read_pattern
decreases-read_pattern l = l.depth + l.depth + 1

abbrev pub invariant-read_pattern-loop-item : goal.invariant-read_pattern-loop-item
invariant-read_pattern-loop-item l =
    kept_pattern (read_pattern l.depth (drop l.at l.text)) ≡ onto l.sum.moves l.sum.highest (kept_pattern (all_items (within l.depth) (drop l.sum.next l.text)))

abbrev pub decreases-read_pattern-loop-item : goal.decreases-read_pattern-loop-item
decreases-read_pattern-loop-item l = length (drop l.sum.next l.text)
