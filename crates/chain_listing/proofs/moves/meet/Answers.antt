-- Equal letters vanish, and different ones push a face.
use Rattle.std.proofs.Common.{arith}
use Rattle.chain_listing.proofs.Meeting.{wide, cell_inside, byte_back, left_some, passed_small, a_here, b_here}
use Rattle.chain_listing.proofs.Meeting.{met_equal_here, slots_left, slot_here, met_different_here}
use Rattle.chain_listing.proofs.moves.meet.Goals as goal

pub overflow_sub-left : goal.overflow_sub-left
overflow_sub-left c = left_some c.requires.1

pub overflow_sub-a : goal.overflow_sub-a
overflow_sub-a c = byte_back c.requires.1

pub overflow_add-passed : goal.overflow_add-passed
overflow_add-passed c = omega (arith, passed_small c.requires.1)

pub returns-then-a-b : goal.returns-then-a-b
returns-then-a-b c =
    record {
      falls = omega (arith, left_some c.requires.1);
      situation = λ t h. met_equal_here h c.if-a-b.true;
    }

pub cell_at-to-requires : goal.cell_at-to-requires
cell_at-to-requires c =
    let s = c.requires.1 in
    (wide s.settled (a_here s), wide s.settled (b_here s))

pub bounds-cells-to : goal.bounds-cells-to
bounds-cells-to c =
    let s = c.requires.1 in
    omega (arith, cell_inside s.settled (a_here s) (b_here s))

pub overflow_sub-total : goal.overflow_sub-total
overflow_sub-total c = slots_left c.requires.1 c.if-a-b.false

pub write_entry-requires-clause-inside : goal.write_entry-requires-clause-inside
write_entry-requires-clause-inside c = slot_here c.requires.1 c.if-a-b.false

pub write_entry-requires-clause-letters : goal.write_entry-requires-clause-letters
write_entry-requires-clause-letters c = ((a_here c.requires.1).low, (b_here c.requires.1).low)

pub returns : goal.returns
returns c =
    record {
      falls = omega (arith, left_some c.requires.1);
      situation = λ t h. met_different_here h c.if-a-b.false c.cell_at-to.result c.cell_at-to.ensures c.write_entry.ensures;
    }
