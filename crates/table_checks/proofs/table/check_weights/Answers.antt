-- The next row passes, or has the first pair that does not.
use Rattle.std.proofs.Common.{◌∙◌, ◌+◌, sym, ap, arith}
use Rattle.std.proofs.lemmas.Result.{err_from_is_err_and}
use Rattle.model.specs.Enumeration.{row}
use Rattle.model.specs.Outcome.{◌>>=◌}
use Rattle.model.specs.Checks.{weight_check}
use Rattle.model.proofs.Pairs.{pairs_from, pairs_some}
use Rattle.table_checks.proofs.Passing.{weights_append}
use Rattle.table_checks.proofs.table.check_weights.Goals as goal

pub returns-in_err-row_weights : goal.returns-in_err-row_weights
returns-in_err-row_weights c T o =
    let p = err_from_is_err_and c.from_residual.result c.from_residual.ensures.1 in
    let a = c.args in
    let l = c.loop-first in
    rw (p.1, p.2)
    (sym
    (l.invariant T o
    ∙ (ap (weight_check T) (pairs_some a.size l.first (omega arith))
    ∙ (weights_append T (row a.size l.first) (pairs_from a.size (l.first + 1))
    ∙ ap (λ x. x >>= λ ok. weight_check T (pairs_from a.size (l.first + 1))) (sym (c.in_err-row_weights.ensures T o))))))

pub loop-first-preserved : goal.loop-first-preserved
loop-first-preserved c T o =
    let a = c.args in
    let l = c.loop-first in
    l.invariant T o
    ∙ (ap (weight_check T) (pairs_some a.size l.first (omega arith))
    ∙ (weights_append T (row a.size l.first) (pairs_from a.size (l.first + 1))
    ∙ ap (λ x. x >>= λ ok. weight_check T (pairs_from a.size (l.first + 1))) (sym (c.in_ok-row_weights.ensures T o))))
