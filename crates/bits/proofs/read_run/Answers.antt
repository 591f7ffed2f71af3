-- The bits of the byte after the run are dropped, and those before it.
use Rattle.std.proofs.Common.{◌∙◌, ap, ◌-◌, ◌/◌, ◌%◌, ◌^◌, arith, get_or}
use Rattle.bits.specs.Fields.{most_width}
use Rattle.bits.proofs.Runs.{shifted_one, run_read}
use Rattle.bits.proofs.read_run.Goals as goal

pub returns : goal.returns
returns c =
    ap (λ n. get_or c.args.bytes.now (c.args.at / 8) 0 / 2 ^ (8 - c.args.at % 8 - c.args.count) % n)
    (shifted_one most_width c.args.count (omega (arith, c.requires.1)))
    ∙ run_read c.args.bytes.now c.args.at c.args.count 0 c.requires.0 c.requires.1
