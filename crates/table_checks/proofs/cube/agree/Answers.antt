-- L inverted and R at the end are a word that is loaded, whose reversing tells whether the two agree.
use Rattle.std.proofs.Common.{List, ℕ, length, take, refl, arith, ◌∙◌}
use borrow.Rule.Slice.PartMut.{put_mid}
use Rattle.engine.specs.Words.{Inverted}
use Rattle.engine.proofs.Inverting.{inverted_part}
use Rattle.table_checks.specs.Cube.{Ends}
use Rattle.table_checks.proofs.Triples.{agree_searched, agree_serves, agree_verdict}
use Rattle.table_checks.proofs.cube.agree.Goals as goal

-- L is inverted where it stands at the beginning
front : (cells bytes part : List ℕ) (left right : ℕ) → Ends cells bytes left right → Inverted (take left bytes) (length (take left bytes)) part
    → Inverted bytes left (put_mid 0 left bytes part)
front cells bytes part left right e i = inverted_part 0 left left bytes part refl (omega (arith, e.3.fit)) i

pub reversing-requires-clause-searched : goal.reversing-requires-clause-searched
reversing-requires-clause-searched c =
    let a = c.args in
    agree_searched c.requires.3 (front a.cells.now a.bytes.now c.invert.new.word a.left a.right c.requires c.invert.ensures) c.move_to_end.ensures

pub reversing-requires-clause-ready : goal.reversing-requires-clause-ready
reversing-requires-clause-ready c =
    let a = c.args in
    let i = front a.cells.now a.bytes.now c.invert.new.word a.left a.right c.requires c.invert.ensures in
    (c.requires.0, agree_serves c.requires.3 i c.move_to_end.ensures)

pub returns-clause-agree : goal.returns-clause-agree
returns-clause-agree c T l r s =
    let a = c.args in
    let run = c.reversing in
    let i = front a.cells.now a.bytes.now c.invert.new.word a.left a.right (T, l, r, s) c.invert.ensures in
    c.verdict_of.ensures
    ∙ agree_verdict s i c.move_to_end.ensures a.budget run.new.bytes run.result run.ensures.length
    (run.ensures.run T (agree_serves s i c.move_to_end.ensures))
