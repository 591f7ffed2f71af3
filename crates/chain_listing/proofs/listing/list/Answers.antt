-- The walk begins at the comparison's word, and its layout is the chain's image.
use Rattle.std.proofs.Common.{◌<◌, refl, rules, arith}
use Rattle.chain_listing.proofs.Walking.{task, begun, chained}
use Rattle.chain_listing.proofs.listing.list.Goals as goal

pub walk-requires : goal.walk-requires
walk-requires c =
    let small : c.args.relations < 65536 = omega arith in
    (task c.requires.4 small c.args.answer.now refl, begun c.requires.4 small c.args.answer.now refl c.prepare.ensures)

pub returns-clause-listed : goal.returns-clause-listed
returns-clause-listed c T u v steps h =
    let small : c.args.relations < 65536 = omega arith in
    chained h small c.args.answer.now refl (λ i. omega (arith, c.type_inv.answer i)) (λ i. search rules)
    (c.walk.ensures.walked (task h small c.args.answer.now refl) (begun h small c.args.answer.now refl c.prepare.ensures))
