-- The first numbers have been put.
use Rattle.text.specs.Text.{spaced_number}
use Rattle.text.proofs.Putting.{PutFirst}
use Rattle.text.proofs.pieces.put_numbers.Given as goal

abbrev pub invariant-loop-number : goal.invariant-loop-number
invariant-loop-number l = PutFirst spaced_number 6 l.numbers l.fn.out l.at l.number-index l.out l.next
