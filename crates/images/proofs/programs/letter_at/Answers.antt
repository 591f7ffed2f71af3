-- The letter's bits stand where its number says, and name a letter.
use Rattle.std.proofs.Common.{arith}
use Rattle.images.proofs.Letters.{near, index_small, ends_inside, letter_answer, letter_there}
use Rattle.images.proofs.programs.letter_at.Goals as goal

pub overflow_mul-i : goal.overflow_mul-i
overflow_mul-i c =
    let n = near c.args.i c.args.width (index_small c.args.image.now c.args.size c.args.width c.args.i c.requires) c.requires.narrow in omega (arith, n)

pub overflow_add-i : goal.overflow_add-i
overflow_add-i c =
    let n = near c.args.i c.args.width (index_small c.args.image.now c.args.size c.args.width c.args.i c.requires) c.requires.narrow in omega (arith, n)

pub at-reader-requires : goal.at-reader-requires
at-reader-requires c = omega (arith, ends_inside c.args.image.now c.args.size c.args.width c.args.i c.requires)

pub unwrap-letter-requires : goal.unwrap-letter-requires
unwrap-letter-requires c =
    let e = c.at-reader.ensures in
    letter_there c.args.image.now c.args.size c.args.width c.args.i c.requires c.next_signed.result c.next_signed.new.reader (rw e at c.next_signed.ensures)

pub returns : goal.returns
returns c =
    let e = c.at-reader.ensures in
    let x = c.unwrap-letter.result in
    letter_answer c.args.image.now c.args.size c.args.width c.args.i c.requires x.sign x.number c.next_signed.new.reader
    (rw (e, c.unwrap-letter.ensures) at c.next_signed.ensures)
