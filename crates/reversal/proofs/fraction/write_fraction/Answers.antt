-- The word is copied, and what follows N in it is inverted.
use Rattle.std.proofs.Common.{◌-◌, length, refl, arith}
use borrow.Rule.Slice.PartMut.{take_put}
use Rattle.engine.proofs.Inverting.{inverted_part}
use Rattle.reversal.proofs.Fractions.{fraction_written}
use Rattle.reversal.proofs.fraction.write_fraction.Goals as goal

pub returns : goal.returns
returns c =
    let n = c.args.numerator in
    let d = length c.args.word.now - n in
    let mid = c.copy_bytes.new.area in
    let part = c.invert.new.word in
    fraction_written c.args.word.now c.args.answer.now mid _ n c.requires.0 c.copy_bytes.ensures.bytes
    (take_put n d mid part (omega (arith, c.copy_bytes.ensures.length, c.requires)))
    (inverted_part n d d mid part refl (omega (arith, c.copy_bytes.ensures.length, c.requires)) c.invert.ensures)
