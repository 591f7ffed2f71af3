-- The count's two parts are the count, and one more letter is put.
use Rattle.std.proofs.Common.{length, subst, arith}
use Rattle.writers.specs.BitWriter.{Puts}
use Rattle.writers.proofs.BitWriter.{puts_none, puts_more}
use Rattle.writers.proofs.Letters.{first_bits, first_more, first_all, count_parts}
use Rattle.writers.proofs.programs.put_program.Goals as goal

pub loop-x-init : goal.loop-x-init
unfolding first_bits
loop-x-init c = puts_none c.put-2.new.self

pub loop-x-preserved : goal.loop-x-preserved
loop-x-preserved c =
    subst (λ bs. Puts c.put-2.new.self bs c.put_signed.new.writer)
    (first_more c.args.size c.args.width c.requires.0.width_is c.args.plain.now c.loop-x.x-index c.loop-x-test.true)
    (puts_more c.loop-x.invariant c.put_signed.ensures)

pub returns : goal.returns
returns c =
    subst (λ bs. Puts c.args.writer.now bs c.loop-x.writer)
    (first_all c.args.size c.args.width c.requires.0.width_is c.args.plain.now c.loop-x.x-index (omega (arith, c.loop-x-test.false)))
    (puts_more
    (subst (λ bs. Puts c.args.writer.now bs c.put-2.new.self) (count_parts (length c.args.plain.now))
    (puts_more c.put.ensures c.put-2.ensures))
    c.loop-x.invariant)
