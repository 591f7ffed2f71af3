-- What is left to do falls at each move, and every task that began goes on.
use Rattle.chain_listing.specs.Course.{ahead}
use Rattle.chain_listing.proofs.Walking.{Walk}
use Rattle.chain_listing.proofs.listing.walk.Given as goal

abbrev pub invariant-loop-at : goal.invariant-loop-at
invariant-loop-at l = Walk l.cells l.size l.total l.fn.bytes l.fn.answer l.fn.start l.bytes l.answer l.at

abbrev pub decreases-loop-at : goal.decreases-loop-at
decreases-loop-at l = ahead l.total l.at
