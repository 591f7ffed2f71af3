-- With no face to be done and no letter left, the chain is written.
use Rattle.std.proofs.Common.{◌∙◌, arith}
use Rattle.chain_listing.proofs.Walking.{completed}
use Rattle.chain_listing.proofs.listing.walk.Goals as goal

pub returns-then-at-bytes-clause-walked : goal.returns-then-at-bytes-clause-walked
returns-then-at-bytes-clause-walked c t h = completed (c.loop-at.invariant.goes t h) c.if-at-gt0.false c.if-at-bytes.true

pub take_letter-at-requires-clause-more : goal.take_letter-at-requires-clause-more
take_letter-at-requires-clause-more c =
    let h = c.loop-at.invariant.goes c.requires.0 c.requires.1 in
    (omega arith, omega (arith, h.held.inside))

pub loop-at-preserved : goal.loop-at-preserved
loop-at-preserved c =
    let v = c.take_letter-at in
    let l = c.loop-at in
    record {
      same_bytes = l.invariant.same_bytes;
      same_answer = v.auto.answer ∙ l.invariant.same_answer;
      goes = λ t h. v.ensures.situation t (l.invariant.goes t h);
    }
