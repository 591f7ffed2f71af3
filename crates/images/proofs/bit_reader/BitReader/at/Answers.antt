-- Where a position is inside a byte, the byte's other bits are held.
use Rattle.std.proofs.Common.{◌/◌, ◌%◌, ◌+◌, get_or, arith}
use Rattle.images.proofs.BitReader.{held_byte, split_last}
use Rattle.images.proofs.bit_reader.BitReader.at.Goals as goal

pub invariant_of-result-2 : goal.invariant_of-result-2
invariant_of-result-2 c =
    let s = c.args.image.now in
    let at = c.args.at in
    record {
      holds = split_last s (at / 8 + 1) 8 (get_or s (at / 8) 0) (held_byte s (at / 8) (omega (arith, c.requires)) (omega (arith, c.type_inv.image (at / 8))))
          (at % 8) (omega arith);
      few = omega (arith, c.if-at-eq0.false);
    }
