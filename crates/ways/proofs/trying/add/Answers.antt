-- `ways::trying::add` meets its contract: the word is listed already, or there is no room for it, or it is inserted at its place.
use Rattle.std.proofs.Common.{arith, ◌∷◌, ◌++◌}
use Rattle.ways.specs.Swap.{new_word}
use Rattle.ways.specs.State.{current}
use Rattle.ways.proofs.Adding.{busy_spells, add_beside, add_full, add_grown, add_there}
use Rattle.ways.proofs.trying.add.Goals as goal

pub find_place-requires : goal.find_place-requires
find_place-requires c =
    let g = c.requires.0.1 in
    let b = c.requires.0.2 in
    (b.earlier_words ++ (current g.word ∷ b.later_words), busy_spells g c.args.area.now c.args.held b)

pub returns-in_default-clause-added : goal.returns-in_default-clause-added
returns-in_default-clause-added c size g b e ok =
    let area = c.args.area.now in
    let there = c.in_default.ensures (b.earlier_words ++ (current g.word ∷ b.later_words)) (busy_spells g area c.args.held b) in
    add_there g area c.args.held b (new_word area c.args.cells.now c.args.swap) there e ok

pub returns-then-area-used-clause-added : goal.returns-then-area-used-clause-added
returns-then-area-used-clause-added c size g b e ok =
    let area = c.args.area.now in
    let fits = c.in-Some.ensures (b.earlier_words ++ (current g.word ∷ b.later_words)) (busy_spells g area c.args.held b) in
    add_full g area c.args.held b c.args.swap c.requires.1 c.in-Some.at fits e ok
    (omega (arith, c.if-area-used.true, c.letters-count.ensures, b.sound.spells.fits))

pub insert-requires : goal.insert-requires
insert-requires c =
    let g = c.requires.0.1 in
    let b = c.requires.0.2 in
    let area = c.args.area.now in
    let fits = c.in-Some.ensures (b.earlier_words ++ (current g.word ∷ b.later_words)) (busy_spells g area c.args.held b) in (
      c.requires.1.readable,
      add_beside g area c.args.held b c.args.swap c.requires.1 c.in-Some.at fits,
      omega (arith, c.if-area-used.false, c.letters-count.ensures, b.sound.spells.fits),
    )

pub returns-clause-added : goal.returns-clause-added
returns-clause-added c size g b e ok =
    let area = c.args.area.now in
    let h = c.args.held in
    let fits = c.in-Some.ensures (b.earlier_words ++ (current g.word ∷ b.later_words)) (busy_spells g area h b) in
    rw (c.moved_on.ensures, c.letters-count.ensures)
    (add_grown g area h b c.args.swap c.requires.1 c.in-Some.at fits e ok c.insert.new.area
    (omega (arith, c.if-area-used.false, c.letters-count.ensures, b.sound.spells.fits)) c.insert.ensures)
