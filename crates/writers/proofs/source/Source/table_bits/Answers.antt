-- One more row of the table, and what all rows make with the size and the weights.
use Rattle.std.proofs.Common.{ap, length, arith}
use Rattle.writers.specs.Forms.{pair_as}
use Rattle.writers.proofs.Lengths.{table_length}
use Rattle.writers.proofs.Parts.{table_rows, table_row, table_width, rows_length, table_all}
use Rattle.writers.proofs.source.Source.table_bits.Goals as goal

pub row_bits-bits-requires : goal.row_bits-bits-requires
row_bits-bits-requires c = table_rows c.requires c.loop-a.a (omega arith) (omega arith)

pub loop-a-preserved : goal.loop-a-preserved
loop-a-preserved c =
    let s = c.args.self.now in (
      omega (arith, c.row_bits-bits.ensures.near),
      λ rows h. omega (
        arith,
        c.loop-a.invariant.1 rows h,
        c.row_bits-bits.ensures.bits _ (table_row s.size s.cells.now rows h c.loop-a.a (omega arith) (omega arith))
            (table_width s.size s.cells.now rows h c.loop-a.a (omega arith) (omega arith)),
        rows_length (pair_as s.form) s.size s.cells.now rows h c.loop-a.a (omega arith) (omega arith),
      ),
    )

pub returns-clause-bits : goal.returns-clause-bits
returns-clause-bits c excess rows weights listed =
    let s = c.args.self.now in
    omega (
      arith,
      c.loop-a.invariant.1 rows listed,
      ap length (table_all (pair_as s.form) s.size s.cells.now rows listed c.loop-a.a (omega arith)),
      table_length s.form s.size excess rows weights.many,
    )
