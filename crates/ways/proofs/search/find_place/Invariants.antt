-- The word's place is between two bytes that the words before and behind it leave.
use Rattle.std.proofs.Common.{◌-◌, ◌≤◌, List, length}
use Rattle.ways.specs.Area.{Marked, Spells}
use Rattle.ways.proofs.Spelling.{Between}
use Rattle.ways.proofs.search.find_place.Given as goal

abbrev pub invariant-loop-low : goal.invariant-loop-low
invariant-loop-low l =
    (l.low ≤ l.high) × (l.high ≤ length l.listed) × ((ms : List Marked) → Spells l.listed (length l.listed) ms → Between ms l.new l.low l.high)

abbrev pub decreases-loop-low : goal.decreases-loop-low
decreases-loop-low l = l.high - l.low
