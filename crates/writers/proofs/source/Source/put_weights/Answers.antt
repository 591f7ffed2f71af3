-- A weight fits its field, and one more weight is put.
use Rattle.std.proofs.Common.{subst, arith}
use Rattle.writers.specs.BitWriter.{Puts}
use Rattle.writers.specs.Forms.{weight_as}
use Rattle.writers.proofs.BitWriter.{puts_more}
use Rattle.writers.proofs.Parts.{weight_light, weight_more}
use Rattle.writers.proofs.source.Source.put_weights.Goals as goal

pub overflow_add-weight : goal.overflow_add-weight
overflow_add-weight c =
    let s = c.args.self.now in
    rw c.weight_at.ensures
    (omega (
      arith,
      weight_light s.size s.cells.now c.requires.excess c.requires.weights c.loop-a.a (omega arith) (omega arith),
      s.fits.low_small,
    ))

pub put-requires : goal.put-requires
put-requires c =
    let s = c.args.self.now in (
      s.fits.weights_narrow,
      rw c.weight_at.ensures
          (s.fits.weight_fits _
          (weight_light s.size s.cells.now c.requires.excess c.requires.weights c.loop-a.a (omega arith) (omega arith))),
    )

pub loop-a-preserved : goal.loop-a-preserved
loop-a-preserved c excess h =
    let s = c.args.self.now in
    subst (λ bs. Puts c.args.writer.now bs c.put.new.self)
    (weight_more s.size s.cells.now excess h (weight_as s.form) c.loop-a.a (omega arith) (omega arith))
    (puts_more (c.loop-a.invariant excess h) (rw c.weight_at.ensures at c.put.ensures))
