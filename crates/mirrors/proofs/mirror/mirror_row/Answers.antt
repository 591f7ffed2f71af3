-- A pair is entered, and ends the row where it offends.
use Rattle.std.proofs.Common.{◌∙◌, arith}
use Rattle.mirrors.proofs.Rows.{row_more, row_offends}
use Rattle.mirrors.proofs.mirror.mirror_row.Goals as goal

pub returns-then-not-mirror_pair-clause-row : goal.returns-then-not-mirror_pair-clause-row
returns-then-not-mirror_pair-clause-row c =
    row_offends c.args.cells.now c.args.size c.args.a c.args.mirror.now c.loop-b.mirror c.loop-b.b c.loop-b.invariant.entered c.requires.table.1
    (record { low = omega arith; high = omega arith }) c.mirror_pair.new.mirror c.if-not-mirror_pair.ensures.pair

pub loop-b-preserved : goal.loop-b-preserved
loop-b-preserved c = record {
  full = c.mirror_pair.ensures.length ∙ c.loop-b.invariant.full;
  entered =
      row_more c.args.cells.now c.args.size c.args.a c.args.mirror.now c.loop-b.mirror c.loop-b.b c.loop-b.invariant.entered c.requires.table.1
      (record { low = omega arith; high = omega arith }) c.mirror_pair.new.mirror c.if-not-mirror_pair.ensures.pair;
}
