-- `sets::listed::write_first` meets its contract.
use Rattle.std.proofs.Common.{arith}
use lib.ListN.{length-set}
use lib.Seq.{take-suc-set}
use Rattle.sets.proofs.FirstWords.{first_written}
use Rattle.sets.proofs.listed.write_first.Goals as goal

pub loop-a-init : goal.loop-a-init
loop-a-init c = take-suc-set c.args.area.now 0 0 (omega arith)

pub loop-a-preserved : goal.loop-a-preserved
loop-a-preserved c = first_written c.loop-a.area c.loop-a.a (omega (arith, length-set c.args.area.now 0 0)) c.loop-a.invariant
