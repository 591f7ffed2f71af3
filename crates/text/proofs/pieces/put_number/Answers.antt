-- The digits of all four powers, then that of the ones.
use Rattle.std.proofs.Common.{◌∷◌, [], arith, append_assoc}
use Rattle.text.specs.Text.{digit, number}
use Rattle.text.proofs.Putting.{◌then◌, put_as, first_all}
use Rattle.text.proofs.pieces.put_number.Goals as goal

pub returns : goal.returns
unfolding number
returns c =
    let a = c.args in
    let l = c.loop-power in
    put_as (omega arith) (simp append_assoc)
    (first_all (λ p. digit p a.x) 1 (10000 ∷ 1000 ∷ 100 ∷ 10 ∷ []) a.out.now a.at l.power-index (omega arith) l.invariant then c.put_byte.ensures)
