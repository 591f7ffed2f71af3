-- The top face is done, or its next letter meets the rest.
use Rattle.std.proofs.Common.{arith}
use Rattle.chain_listing.proofs.Turning.{slot_top, top_done, top_a, top_b, pair_top, top_inside, count_within, count_short, taken_here}
use Rattle.chain_listing.proofs.Emitting.{slots_over}
use Rattle.chain_listing.proofs.moves.turn.Goals as goal

pub emit-requires : goal.emit-requires
emit-requires c =
    let s = c.requires.somewhere in (
      c.args.total,
      s.0,
      s.1,
      top_done s.1 c.requires.stacked c.read_entry-face.result c.read_entry-face.ensures c.if-count-eq0.true,
    )

pub returns-then-count-eq0-clause-moves : goal.returns-then-count-eq0-clause-moves
returns-then-count-eq0-clause-moves c =
    let face = c.read_entry-face in
    let e = c.emit.ensures.emits in
    record {
      falls = omega (
        arith,
        e.one_more,
        e.few_more,
        slots_over c.requires.somewhere.1 (top_done c.requires.somewhere.1 c.requires.stacked face.result face.ensures c.if-count-eq0.true),
      );
      situation = λ t h. e.situation c.args.total t h (top_done h c.requires.stacked face.result face.ensures c.if-count-eq0.true);
    }

pub cell_at-to-requires : goal.cell_at-to-requires
cell_at-to-requires c = pair_top c.requires.somewhere.1 c.requires.stacked c.read_entry-face.result c.read_entry-face.ensures

pub bounds-cells-to : goal.bounds-cells-to
bounds-cells-to c = omega (arith, top_inside c.requires.somewhere.1 c.requires.stacked c.read_entry-face.result c.read_entry-face.ensures)

pub overflow_sub-next : goal.overflow_sub-next
overflow_sub-next c =
    omega (
      arith,
      count_within c.requires.somewhere.1 c.requires.stacked c.read_entry-face.result c.read_entry-face.ensures c.cell_at-to.result c.cell_at-to.ensures,
    )

pub bounds-cells-to-2 : goal.bounds-cells-to-2
bounds-cells-to-2 c =
    let s = c.requires.somewhere.1 in
    let face = c.read_entry-face in
    omega (
      arith,
      top_inside s c.requires.stacked face.result face.ensures,
      count_short s c.requires.stacked face.result face.ensures c.cell_at-to.result c.cell_at-to.ensures,
    )

pub write_entry-requires-clause-inside : goal.write_entry-requires-clause-inside
write_entry-requires-clause-inside c = slot_top c.requires.somewhere.1 c.requires.stacked

pub write_entry-requires-clause-letters : goal.write_entry-requires-clause-letters
write_entry-requires-clause-letters c =
    let s = c.requires.somewhere.1 in
    let face = c.read_entry-face in
    ((top_a s c.requires.stacked face.result face.ensures).low, (top_b s c.requires.stacked face.result face.ensures).low)

pub meet-requires : goal.meet-requires
meet-requires c =
    let s = c.requires.somewhere in
    let face = c.read_entry-face in (
      s.0,
      taken_here s.1 c.requires.stacked face.result face.ensures c.cell_at-to.result c.cell_at-to.ensures c.if-count-eq0.false c.write_entry.ensures,
    )

pub returns-clause-moves : goal.returns-clause-moves
returns-clause-moves c =
    let face = c.read_entry-face in
    record {
      falls = c.meet.ensures.falls;
      situation = λ t h.
          c.meet.ensures.situation t
          (taken_here h c.requires.stacked face.result face.ensures c.cell_at-to.result c.cell_at-to.ensures c.if-count-eq0.false c.write_entry.ensures);
    }
