-- `ways::insert::insert` meets its contract: after the bytes were moved on, the old word stands beside the place, and the new one is written there.
use Rattle.std.proofs.Common.{arith, sym, subst, [], ◌∷◌, ◌++◌}
use Rattle.ways.specs.Marks.{untried}
use Rattle.ways.specs.Swap.{new_word, Readable}
use Rattle.ways.specs.Insert.{Put, Apart}
use Rattle.ways.proofs.Inserting.{at_word, insert_readable, insert_apart, insert_opened}
use Rattle.ways.proofs.insert.insert.Goals as goal

pub write_word-requires : goal.write_word-requires
write_word-requires c =
    let a = c.args in
    let b = c.requires.1 in
    let area = c.shift.new.area in
    let sh = rw c.letters-count.ensures at c.shift.ensures in
    let e = sym (rw c.letters-count.ensures at c.moved_on.ensures) in (
      subst (λ w. Readable area a.cells.now (at_word a.swap w)) e
          (insert_readable a.area.now a.cells.now a.swap a.at a.used c.requires.0 b c.requires.2 area sh),
      subst (λ w. Apart (at_word a.swap w) a.at) e (insert_apart a.area.now a.cells.now a.swap a.at a.used c.requires.0 b c.requires.2 area sh),
      omega (arith, b.place, sh.same_length),
    )

pub returns : goal.returns
returns c =
    let a = c.args in
    let area = c.shift.new.area in
    let sh = rw c.letters-count.ensures at c.shift.ensures in
    let e = rw c.letters-count.ensures at c.moved_on.ensures in
    insert_opened a.area.now a.cells.now a.swap a.at a.used c.requires.0 c.requires.1 c.requires.2 area sh c.write_word.new.area
    (subst (λ w. Put area a.at (new_word area a.cells.now (at_word a.swap w) ++ (untried ∷ [])) c.write_word.new.area) e c.write_word.ensures)
