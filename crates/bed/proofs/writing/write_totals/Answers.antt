-- One more total.
use Rattle.std.proofs.Common.{get_or, ap, ◌∙◌, rules}
use Rattle.std.specs.Int.{to_be_bytes}
use lib.IntN.{pos}
use mir.Syntax.{w16}
use mir.Val.{SFits, of_z}
use mir.ValLaws.{to_z-of_z}
use Rattle.bed.proofs.TwoBytes.{total_put, two_bytes}
use Rattle.bed.proofs.writing.write_totals.Goals as goal

pub loop-k-preserved : goal.loop-k-preserved
loop-k-preserved c =
    let z = get_or c.args.totals.now c.loop-k.k (pos 0) in
    let fits : SFits w16 (get_or c.args.totals.now c.loop-k.k (pos 0)) = search rules in
    total_put c.args.area.now c.args.totals.now c.loop-k.k c.loop-k-test.true c.requires c.loop-k.area c.to_be_bytes.result c.loop-k.invariant
    (c.to_be_bytes.ensures ∙ (ap (to_be_bytes w16) (c.cast_unsigned.ensures ∙ ap (of_z w16) (to_z-of_z w16 z fits)) ∙ two_bytes z fits))
