-- The words before the byte are not the new one.
use Rattle.std.proofs.Common.{ℕ, ◌-◌, ◌≤◌, List, length}
use Rattle.model.specs.Word.{Positive}
use Rattle.sets.specs.Listed.{Lists}
use Rattle.sets.proofs.Lookup.{Passed}
use Rattle.sets.proofs.listed.is_listed.Given as goal

abbrev pub invariant-loop-at : goal.invariant-loop-at
invariant-loop-at l =
    (l.at ≤ length l.listing) × ((n : ℕ) (vs : List Positive) → Lists n l.listing (length l.listing) vs → Passed vs l.word l.at)

abbrev pub decreases-loop-at : goal.decreases-loop-at
decreases-loop-at l = length l.listing - l.at
