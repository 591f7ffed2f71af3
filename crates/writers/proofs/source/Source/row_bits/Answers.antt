-- One more pair of the row.
use Rattle.std.proofs.Common.{arith}
use Rattle.writers.specs.Forms.{pair_as}
use Rattle.writers.proofs.Parts.{row_pair, row_pairs, row_length}
use Rattle.writers.proofs.source.Source.row_bits.Goals as goal

pub pair_bits-bits-requires : goal.pair_bits-bits-requires
pair_bits-bits-requires c = row_pairs c.requires c.loop-b.b (omega arith) (omega arith)

pub loop-b-preserved : goal.loop-b-preserved
loop-b-preserved c =
    let s = c.args.self.now in (
      omega (arith, c.pair_bits-bits.ensures.near),
      λ row h v. omega (
        arith,
        c.loop-b.invariant.1 row h v,
        c.pair_bits-bits.ensures.bits _ (row_pair s.size s.cells.now c.args.a row h v c.loop-b.b (omega arith) (omega arith)),
        row_length (pair_as s.form) s.size s.cells.now c.args.a row h v c.loop-b.b (omega arith) (omega arith),
      ),
    )
