-- One byte more is copied, and the whole is bytes put in their place.
use Rattle.std.proofs.Common.{◌+◌, ◌∙◌, ap, arith, set, get_or, drop, suc}
use lib.Seq.{paste}
use Rattle.areas.proofs.Copying.{copy_more}
use Rattle.areas.proofs.bytes.copy_on.Goals as goal

pub loop-i-preserved : goal.loop-i-preserved
loop-i-preserved c =
    let l = c.loop-i in
    let a = c.args.area.now in
    ap (λ x. set x (c.args.to + l.i) (get_or x (c.args.from + l.i) 0)) l.invariant
    ∙ (copy_more a c.args.from c.args.to l.i (omega arith) (omega arith)
    ∙ ap (paste a c.args.to (drop c.args.from a)) {x = suc l.i} {y = l.i + 1} (omega arith))
