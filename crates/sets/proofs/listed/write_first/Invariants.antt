-- The words so far are written.
use Rattle.std.proofs.Common.{◌≡◌, ◌+◌, ◌*◌, take}
use Rattle.model.specs.Ways.{listing_bytes}
use Rattle.model.specs.Signed.{first_words}
use Rattle.sets.proofs.listed.write_first.Given as goal

abbrev pub invariant-loop-a : goal.invariant-loop-a
invariant-loop-a l = take (1 + 2 * l.a) l.area ≡ listing_bytes (first_words l.a)
