-- `ways::insert::write_word` meets its contract: the letters are written in turn, then the mark.
use Rattle.std.proofs.Common.{arith, get_or, ap, ◌∙◌, ◌≡◌}
use Rattle.ways.specs.Swap.{new_word}
use Rattle.ways.proofs.NewWords.{new_length_lem, readable_kept}
use Rattle.ways.proofs.Inserting.{write_begun, write_more, write_last, new_kept}
use Rattle.ways.proofs.insert.write_word.Goals as goal

pub loop-i-init : goal.loop-i-init
loop-i-init c = let a = c.args in write_begun a.area.now a.at (new_word a.area.now a.cells.now a.swap)

pub invariant_of-new : goal.invariant_of-new
invariant_of-new c = let a = c.args in readable_kept a.area.now c.loop-i.area a.cells.now a.swap c.loop-i.auto.area c.requires.0

pub letter-requires : goal.letter-requires
letter-requires c =
    let a = c.args in
    let long = new_length_lem c.loop-i.area a.cells.now a.swap (readable_kept a.area.now c.loop-i.area a.cells.now a.swap c.loop-i.auto.area c.requires.0) in
    omega arith

pub loop-i-preserved : goal.loop-i-preserved
loop-i-preserved c =
    let a = c.args in
    let l = c.loop-i in
    let v = new_word a.area.now a.cells.now a.swap in
    let same = new_kept a.area.now a.cells.now a.swap a.at l.i v l.area c.requires.0 c.requires.1 (omega arith) l.invariant in
    write_more a.area.now a.at v l.i l.area c.letter.result (omega arith) (c.letter.ensures ∙ ap (λ w. get_or w l.i 0) same) l.invariant

pub returns : goal.returns
returns c =
    let a = c.args in
    let long = new_length_lem a.area.now a.cells.now a.swap c.requires.0 in
    let whole : c.loop-i.i ≡ c.letters-letters.result = omega arith in
    write_last a.area.now a.at (new_word a.area.now a.cells.now a.swap) c.letters-letters.result c.loop-i.area (omega arith) (omega arith)
    (rw whole at c.loop-i.invariant)
