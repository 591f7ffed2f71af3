-- The first bits of the field are written, and every other bit is as it was.
use Rattle.std.proofs.Common.{◌-◌, ◌/◌, ◌^◌, ◌≤◌}
use Rattle.bits.specs.Fields.{Written}
use Rattle.bits.proofs.write_field.Given as goal

abbrev pub invariant-loop-left : goal.invariant-loop-left
invariant-loop-left l = record {
  part : l.left ≤ l.width;
  written : Written l.initial.bytes l.at (l.width - l.left) (l.value / 2 ^ l.left) l.bytes;
}

abbrev pub decreases-loop-left : goal.decreases-loop-left
decreases-loop-left l = l.left
