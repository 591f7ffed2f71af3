-- The digits of the first powers of ten have been put.
use Rattle.text.specs.Text.{digit}
use Rattle.text.proofs.Putting.{PutFirst}
use Rattle.text.proofs.pieces.put_number.Given as goal

abbrev pub invariant-loop-power : goal.invariant-loop-power
invariant-loop-power l = PutFirst (λ p. digit p l.x) 1 l.power-items l.fn.out l.at l.power-index l.out l.next
