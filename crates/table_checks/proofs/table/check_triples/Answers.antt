-- The next triple holds, or is the first that does not.
use Rattle.std.proofs.Common.{◌≡◌, ◌+◌, ◌++◌, arith, length}
use Rattle.std.proofs.lemmas.Result.{err_from_is_err_and}
use Rattle.table_checks.proofs.Remaining.{firsts, seconds}
use Rattle.table_checks.proofs.Searching.{enter_first, enter_second, third_holds, third_ends}
use Rattle.table_checks.proofs.table.check_triples.Goals as goal

pub loop-b-init : goal.loop-b-init
loop-b-init c = enter_first c.args.cells.now c.args.size c.args.budget (length c.loop-a.bytes) c.loop-a.a (omega arith) c.loop-a.invariant

pub loop-c-init : goal.loop-c-init
loop-c-init c = enter_second c.args.cells.now c.args.size c.args.budget (length c.loop-b.bytes) c.loop-a.a c.loop-b.b (omega arith) c.loop-b.invariant

pub returns-in_err-check_triple-clause-triples : goal.returns-in_err-check_triple-clause-triples
returns-in_err-check_triple-clause-triples c =
    let p = err_from_is_err_and c.from_residual.result c.from_residual.ensures.1 in
    let v = c.in_err-check_triple in
    let k = c.args in
    let a = c.loop-a.a in
    let b = c.loop-b.b in
    let l = c.loop-c in
    let room : length l.bytes ≡ length k.bytes.now = omega arith in
    rw (p.1, p.2, ← room)
    (third_ends k.cells.now k.size k.budget (length l.bytes) a b l.c (omega arith) (omega arith) (omega arith) (omega arith) (omega arith) (omega arith)
    (seconds k.size a (b + 1) ++ firsts k.size (a + 1)) l.invariant v.field-0.0 v.ensures.triple)

pub loop-c-preserved : goal.loop-c-preserved
loop-c-preserved c =
    let v = c.in_ok-check_triple in
    let k = c.args in
    let a = c.loop-a.a in
    let b = c.loop-b.b in
    let l = c.loop-c in
    rw v.ensures.length
    (third_holds k.cells.now k.size k.budget (length l.bytes) a b l.c (omega arith) (omega arith) (omega arith) (omega arith) (omega arith) (omega arith)
    (seconds k.size a (b + 1) ++ firsts k.size (a + 1)) l.invariant v.field-0 v.ensures.triple)
