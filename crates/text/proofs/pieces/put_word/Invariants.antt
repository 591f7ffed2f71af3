-- The first letters have been put.
use Rattle.model.specs.Word.{letter}
use Rattle.text.specs.Text.{letter_text}
use Rattle.text.proofs.Putting.{PutFirst}
use Rattle.text.proofs.pieces.put_word.Given as goal

abbrev pub invariant-loop-byte : goal.invariant-loop-byte
invariant-loop-byte l = PutFirst (λ x. letter_text (letter x)) 7 l.word l.fn.out l.at l.byte-index l.out l.next
