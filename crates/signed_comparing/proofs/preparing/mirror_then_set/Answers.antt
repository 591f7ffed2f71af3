-- `signed_comparing::preparing::mirror_then_set` meets its contract: the mirror's triples are refused, or the set is grown.
use Rattle.std.proofs.Common.{ap, refl, subst, length, ◌≡◌, ◌∙◌}
use lib.ListN.{length-replicate}
use Rattle.std.proofs.lemmas.Result.{err_from_is_err_and}
use Rattle.sets.specs.Set.{SetMeans}
use Rattle.signed_comparing.proofs.Prepared.{mirror_refused, set_grown}
use Rattle.signed_comparing.proofs.preparing.mirror_then_set.Goals as goal

pub returns-in_err-check_cubes-clause-prepares : goal.returns-in_err-check_cubes-clause-prepares
returns-in_err-check_cubes-clause-prepares c =
    let a = c.args in
    let e = c.in_err-check_cubes in
    let p = err_from_is_err_and c.from_residual.result c.from_residual.ensures.1 in
    rw (p.1, p.2) (mirror_refused a.cells.now a.mirror.now a.size a.budget (length a.workspace.now) e.ensures.cubes e.field-0.0 refl)

pub returns-clause-prepares : goal.returns-clause-prepares
returns-clause-prepares c =
    let a = c.args in
    let e = c.in_ok-check_cubes in
    let room = length a.workspace.now in
    let long : length c.check_cubes.new.workspace ≡ room = ap length e.ensures.workspace ∙ length-replicate room 0 in
    let grown = c.grow_set-grown in
    rw c.grown_answer.ensures
    (set_grown a.cells.now a.mirror.now a.size a.budget room e.ensures.cubes _ refl grown.result
    (subst (λ n. SetMeans a.cells.now a.size n a.budget grown.result) long grown.ensures.set))
