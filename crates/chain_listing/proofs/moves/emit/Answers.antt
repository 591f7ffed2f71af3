-- What the entry of the top face asks, and that every task goes on behind it.
use Rattle.std.proofs.Common.{refl, arith}
use Rattle.chain_listing.proofs.Emitting.{a_top, b_top, face_passed, rest_fits, from_short, passed_few, emitted_here}
use Rattle.chain_listing.proofs.moves.emit.Goals as goal

pub face_start-start-requires : goal.face_start-start-requires
face_start-start-requires c = face_passed c.requires.2 c.requires.3

pub overflow_cast-offset : goal.overflow_cast-offset
overflow_cast-offset c = omega (arith, passed_few c.requires.2 c.requires.3)

pub write_entry-requires-clause-letters : goal.write_entry-requires-clause-letters
write_entry-requires-clause-letters c = omega (arith, (a_top c.requires.2 c.requires.3).low, (b_top c.requires.2 c.requires.3).low)

pub extend_rest-left-requires : goal.extend_rest-left-requires
extend_rest-left-requires c = rest_fits c.requires.2 c.requires.3

pub returns-clause-emits : goal.returns-clause-emits
returns-clause-emits c =
    let e = c.extend_rest-left in
    let p = c.requires in
    record {
      one_more = refl;
      few_more = omega (arith, e.ensures.place, from_short p.2 p.3);
      situation = λ total t h top. emitted_here h top c.face_start-start.result e.result c.face_start-start.ensures e.ensures.place
          c.write_entry.ensures e.ensures.pushed;
    }
