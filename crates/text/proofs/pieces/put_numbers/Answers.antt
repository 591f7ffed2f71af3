-- All numbers have been put.
use Rattle.std.proofs.Common.{arith}
use Rattle.text.specs.Text.{spaced_number, numbers_text}
use Rattle.text.proofs.Putting.{first_all}
use Rattle.text.proofs.pieces.put_numbers.Goals as goal

pub returns : goal.returns
unfolding numbers_text
returns c =
    let l = c.loop-number in
    first_all spaced_number 6 c.args.numbers.now c.args.out.now c.args.at l.number-index (omega arith) l.invariant
