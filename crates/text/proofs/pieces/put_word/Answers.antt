-- All letters have been put.
use Rattle.std.proofs.Common.{arith}
use Rattle.model.specs.Word.{letter}
use Rattle.text.specs.Text.{letter_text, bytes_text}
use Rattle.text.proofs.Putting.{first_all}
use Rattle.text.proofs.pieces.put_word.Goals as goal

pub returns : goal.returns
unfolding bytes_text
returns c =
    let l = c.loop-byte in
    first_all (λ x. letter_text (letter x)) 7 c.args.word.now c.args.out.now c.args.at l.byte-index (omega arith) l.invariant
