-- R behind L: each way in which it ends is a law of `BothSides`.
use Rattle.std.proofs.lemmas.Result.{err_from_is_err_and}
use Rattle.table_checks.proofs.BothSides.{kept_fits, no_right_side, right_side_halts, both_found}
use Rattle.table_checks.proofs.cube.against_word.Goals as goal

pub right_side-requires-clause-kept : goal.right_side-requires-clause-kept
right_side-requires-clause-kept c =
    let a = c.args in
    kept_fits a.cells.now a.bytes.now a.kept a.triple a.budget c.requires.left c.requires.ready.0 c.requires.ready.1

pub returns-in_err-count-clause-against : goal.returns-in_err-count-clause-against
returns-in_err-count-clause-against c T t =
    let p = err_from_is_err_and c.from_residual.result c.from_residual.ensures.1 in
    let a = c.args in
    rw (p.1, p.2)
    (right_side_halts a.cells.now a.bytes.now a.kept a.triple a.budget c.requires.left T t c.right_side.new.bytes c.in_err-count.field-0.0
    c.in_err-count.ensures)

pub returns-in_default-clause-against : goal.returns-in_default-clause-against
returns-in_default-clause-against c T t =
    let a = c.args in
    no_right_side a.cells.now a.bytes.now a.kept a.triple a.budget c.requires.left T t c.right_side.new.bytes
    (rw c.in_default.is at c.in_ok-count.ensures)

pub agree-requires : goal.agree-requires
agree-requires c =
    let a = c.args in
    let T = c.requires.ready.0 in
    let both = both_found a.cells.now a.bytes.now a.kept a.triple a.budget c.requires.left T c.requires.ready.1 c.right_side.new.bytes c.in-Some.count
    (rw c.in-Some.is at c.in_ok-count.ensures) in
    (T, both.0, both.1, both.2)

pub returns-clause-against : goal.returns-clause-against
returns-clause-against c T t =
    let a = c.args in
    let both = both_found a.cells.now a.bytes.now a.kept a.triple a.budget c.requires.left T t c.right_side.new.bytes c.in-Some.count
    (rw c.in-Some.is at c.in_ok-count.ensures) in
    both.3 c.agree.result (c.agree.ensures.agree T both.0 both.1 both.2)
