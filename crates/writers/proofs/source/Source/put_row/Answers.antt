-- One more pair of the row.
use Rattle.std.proofs.Common.{subst, arith}
use Rattle.writers.specs.BitWriter.{Puts}
use Rattle.writers.specs.Forms.{pair_as}
use Rattle.writers.proofs.BitWriter.{puts_more}
use Rattle.writers.proofs.Parts.{row_pair, row_pairs, row_more}
use Rattle.writers.proofs.source.Source.put_row.Goals as goal

pub put_pair-requires : goal.put_pair-requires
put_pair-requires c = row_pairs c.requires c.loop-b.b (omega arith) (omega arith)

pub loop-b-preserved : goal.loop-b-preserved
loop-b-preserved c row h v =
    let s = c.args.self.now in
    subst (λ bs. Puts c.args.writer.now bs c.put_pair.new.writer)
    (row_more (pair_as s.form) s.size s.cells.now c.args.a row h v c.loop-b.b (omega arith) (omega arith))
    (puts_more (c.loop-b.invariant row h v)
    (c.put_pair.ensures _ (row_pair s.size s.cells.now c.args.a row h v c.loop-b.b (omega arith) (omega arith))))
