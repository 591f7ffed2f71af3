-- L is undefined: R tells the verdict.
use Rattle.std.proofs.Common.{length}
use Rattle.std.proofs.lemmas.Result.{err_from_is_err_and}
use Rattle.table_checks.proofs.BothSides.{turned_serves}
use Rattle.table_checks.proofs.Triples.{left_missing, missing_halts}
use Rattle.table_checks.proofs.cube.against.Goals as goal

pub returns-in_err-side-clause-against : goal.returns-in_err-side-clause-against
returns-in_err-side-clause-against c T t =
    let p = err_from_is_err_and c.from_residual.result c.from_residual.ensures.1 in
    let a = c.args in
    let k = a.triple in
    let v = c.in_err-side in
    rw (p.1, p.2)
    (missing_halts T a.budget (length a.bytes.now) k.a k.b k.c a.bytes.now c.side.new.bytes v.field-0.0 ((rw c.in_default.is at c.requires.left) T t)
    (rw v.ensures.length at (v.ensures.works T (turned_serves t))))

pub returns-in_default-clause-against : goal.returns-in_default-clause-against
returns-in_default-clause-against c T t =
    let a = c.args in
    let k = a.triple in
    let v = c.in_ok-side in
    left_missing T a.budget (length a.bytes.now) k.a k.b k.c a.bytes.now c.side.new.bytes v.field-0 c.is_none.result c.is_none.ensures
    ((rw c.in_default.is at c.requires.left) T t) (rw v.ensures.length at (v.ensures.works T (turned_serves t)))
