-- The byte is put together anew, and fits a byte.
use Rattle.std.proofs.Common.{◌^◌, ◌<◌, ◌/◌, arith, rules, get_or}
use Rattle.bits.proofs.Runs.{stored_fits, run_written}
use Rattle.bits.proofs.write_run.Goals as goal

pub overflow_cast-bytes : goal.overflow_cast-bytes
overflow_cast-bytes c =
    let byte : get_or c.args.bytes.now (c.args.at / 8) 0 < 2 ^ 8 = search rules in
    omega (arith, stored_fits c.args.bytes.now c.args.at c.args.count c.args.value c.requires.1 byte)

pub returns : goal.returns
returns c = run_written c.args.bytes.now c.args.at c.args.count c.args.value c.requires.0 c.requires.1
