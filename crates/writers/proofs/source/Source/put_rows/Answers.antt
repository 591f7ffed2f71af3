-- One more row of the table.
use Rattle.std.proofs.Common.{subst, arith}
use Rattle.writers.specs.BitWriter.{Puts}
use Rattle.writers.specs.Forms.{pair_as}
use Rattle.writers.proofs.BitWriter.{puts_more}
use Rattle.writers.proofs.Parts.{table_rows, table_row, table_width, table_more}
use Rattle.writers.proofs.source.Source.put_rows.Goals as goal

pub put_row-requires : goal.put_row-requires
put_row-requires c = table_rows c.requires c.loop-a.a (omega arith) (omega arith)

pub loop-a-preserved : goal.loop-a-preserved
loop-a-preserved c rows h =
    let s = c.args.self.now in
    subst (λ bs. Puts c.args.writer.now bs c.put_row.new.writer)
    (table_more (pair_as s.form) s.size s.cells.now rows h c.loop-a.a (omega arith) (omega arith))
    (puts_more (c.loop-a.invariant rows h)
    (c.put_row.ensures _ (table_row s.size s.cells.now rows h c.loop-a.a (omega arith) (omega arith))
    (table_width s.size s.cells.now rows h c.loop-a.a (omega arith) (omega arith))))
