-- The next pair of the row passes or fails.
use Rattle.std.proofs.Common.{◌∙◌, ◌+◌, sym, ap, arith}
use Rattle.model.specs.Checks.{weight_check}
use Rattle.model.proofs.Pairs.{pair, row_from, row_some}
use Rattle.table_checks.proofs.Passing.{pair_passes, pair_fails}
use Rattle.table_checks.proofs.table.row_weights.Goals as goal

pub returns-then-not-sides_balanced : goal.returns-then-not-sides_balanced
returns-then-not-sides_balanced c T o =
    let a = c.args in
    let l = c.loop-b in
    let fails = pair_fails T (pair a.a l.b) (row_from a.size a.a (l.b + 1)) (sym (c.if-not-sides_balanced.ensures T o)) in
    sym (l.invariant T o ∙ (ap (weight_check T) (row_some a.size a.a l.b (omega arith)) ∙ fails))

pub loop-b-preserved : goal.loop-b-preserved
loop-b-preserved c T o =
    let a = c.args in
    let l = c.loop-b in
    let passes = pair_passes T (pair a.a l.b) (row_from a.size a.a (l.b + 1)) (sym (c.if-not-sides_balanced.ensures T o)) in
    l.invariant T o ∙ (ap (weight_check T) (row_some a.size a.a l.b (omega arith)) ∙ passes)
