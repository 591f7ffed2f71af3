-- The second word's letter is taken off, and met.
use Rattle.std.proofs.Common.{arith}
use Rattle.chain_listing.proofs.Walking.{taken_second}
use Rattle.chain_listing.proofs.moves.take_letter.Goals as goal

pub meet-requires : goal.meet-requires
meet-requires c =
    let somewhere = c.requires.somewhere in
    (somewhere.0, taken_second somewhere.1 (omega arith) c.requires.more.1)

pub returns : goal.returns
returns c =
    let m = c.meet.ensures in
    record { falls = m.falls; situation = λ t h. m.situation t (taken_second h (omega arith) c.requires.more.1) }
