-- The first letter that differs decides, or one word begins the other.
use Rattle.std.proofs.Common.{refl, arith}
use Rattle.std.proofs.lemmas.Cmp.{ranked}
use Rattle.ways.proofs.NewWords.{seen_length, agree_none, agree_more, order_at, order_same}
use Rattle.ways.proofs.swap.NewWord.compare.Goals as goal

pub loop-i-init : goal.loop-i-init
loop-i-init c = agree_none c.args.self.now c.args.listed.now

pub letter-new-requires : goal.letter-new-requires
letter-new-requires c = let long = seen_length c.self.invariant c.self.view_is in omega arith

pub returns-then-new-old : goal.returns-then-new-old
returns-then-new-old c =
    let long = seen_length c.self.invariant c.self.view_is in
    order_at c.args.self.now c.args.listed.now c.loop-i.i _ _ _ (omega arith) (omega arith) c.loop-i.invariant c.letter-new.ensures refl
    c.if-new-old.true (ranked _ _ _ c.cmp.ensures)

pub loop-i-preserved : goal.loop-i-preserved
loop-i-preserved c =
    agree_more c.args.self.now c.args.listed.now c.loop-i.i c.loop-i.invariant (omega (arith, c.letter-new.ensures, c.if-new-old.false))

pub returns : goal.returns
returns c =
    let long = seen_length c.self.invariant c.self.view_is in
    order_same c.args.self.now c.args.listed.now c.loop-i.i (omega arith) c.loop-i.invariant
