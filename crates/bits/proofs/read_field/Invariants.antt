-- The value is what the bits passed write.
use Rattle.std.proofs.Common.{◌≡◌, ◌-◌, ◌≤◌, take, drop}
use Rattle.model.specs.Bits.{bits_of, number}
use Rattle.bits.proofs.read_field.Given as goal

abbrev pub invariant-loop-i : goal.invariant-loop-i
invariant-loop-i l = record { inside : l.i ≤ l.width; value_is : l.value ≡ number 0 (take l.i (drop l.at (bits_of l.bytes))) }

abbrev pub decreases-loop-i : goal.decreases-loop-i
decreases-loop-i l = l.width - l.i
