-- The entries passed are read, and the others stand from the position on.
use Rattle.std.proofs.Common.{◌*◌, ◌+◌, ◌≤◌, length}
use Rattle.images.specs.Fields.{from}
use Rattle.images.specs.Widths.{WidthOf}
use Rattle.images.proofs.Validating.{chain, Validated}
use Rattle.images.proofs.chains.read_chain.Given as goal

abbrev pub invariant-loop : goal.invariant-loop
invariant-loop l =
    WidthOf l.size l.width × (l.at ≤ 8 * length l.image) × (l.at ≤ 16 + 23 * l.counter)
    × Validated (chain l.size) l.image l.count (from l.image l.at) l.counter
