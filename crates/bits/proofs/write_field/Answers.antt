-- A run more of the field is written.
use Rattle.std.proofs.Common.{arith}
use Rattle.bits.proofs.Fields.{run_more}
use Rattle.bits.proofs.write_field.Goals as goal

pub loop-left-preserved : goal.loop-left-preserved
loop-left-preserved c = record {
  part = omega arith;
  written =
      run_more c.args.bytes.now c.loop-left.bytes c.write_run.new.bytes c.args.at c.args.width c.args.value c.loop-left.left c.run_length-count.result
      c.requires.inside c.loop-left.invariant.part c.run_length-count.ensures.part c.loop-left.invariant.written c.write_run.ensures;
}
