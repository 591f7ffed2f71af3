-- The loop of `read_whole`: what counts so far lies within the area, which keeps its length. Measure: what is left of the area.
use Rattle.std.proofs.Common.{length, ◌-◌, ◌≤◌, ◌≡◌}
use Rattle.reader.proofs.files.read_whole.Given as goal

abbrev pub invariant-loop-done : goal.invariant-loop-done
invariant-loop-done g l = (l.done ≤ length l.area) × (length l.area ≡ length l.fn.area)

abbrev pub decreases-loop-done : goal.decreases-loop-done
decreases-loop-done g l = length l.initial.area - l.done
