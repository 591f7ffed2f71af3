-- A run more of the field is read.
use Rattle.std.proofs.Common.{◌+◌, ◌≤◌, arith}
use Rattle.bits.proofs.Fields.{more_fits, field_next}
use Rattle.bits.proofs.read_field.Goals as goal

pub overflow_add-value : goal.overflow_add-value
overflow_add-value c =
    let i = c.loop-i.i in
    let count = c.run_length-count.result in
    let part : i + count ≤ c.args.width = omega (arith, c.run_length-count.ensures.part) in
    omega (
      arith,
      field_next c.args.bytes.now c.args.at c.args.width c.requires i count part c.loop-i.value c.read_run-run.result c.loop-i.invariant.value_is
          c.read_run-run.ensures,
      more_fits c.args.bytes.now c.args.at c.args.width c.requires i count part,
    )

pub loop-i-preserved : goal.loop-i-preserved
loop-i-preserved c =
    let part : c.loop-i.i + c.run_length-count.result ≤ c.args.width = omega (arith, c.run_length-count.ensures.part) in
    record {
      inside = part;
      value_is =
          field_next c.args.bytes.now c.args.at c.args.width c.requires c.loop-i.i c.run_length-count.result part c.loop-i.value c.read_run-run.result
          c.loop-i.invariant.value_is c.read_run-run.ensures;
    }
