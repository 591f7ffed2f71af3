-- `signed_comparing::preparing::prepare` meets its contract: the mirror cannot be made, or both are prepared.
use Rattle.std.proofs.Common.{sym, subst, length}
use Rattle.std.proofs.lemmas.Result.{err_from_is_err_and}
use Rattle.model.specs.Mirror.{mirror}
use Rattle.model.specs.declared.answers.Refusal.TheVariants.{NoMirror}
use Rattle.mirrors.specs.Mirror.{MirrorDone}
use Rattle.signed_comparing.proofs.Prepared.{mapped_ok, mapped_err, mirror_offends}
use Rattle.signed_comparing.proofs.preparing.prepare.Goals as goal

pub prepare_both-requires : goal.prepare_both-requires
prepare_both-requires c =
    let a = c.args in
    let p = c.requires in
    let v = c.mirror_table in
    let made = mapped_ok NoMirror v.result c.map_err.result c.map_err.ensures.cases c.in_ok-map_err.field-0 c.in_ok-map_err.was in
    let m = subst (MirrorDone a.cells.now a.size v.new.mirror) made v.ensures.mirror in
    (p, (mirror p.0, (m p.0 p.1).1))

pub returns-in_err-map_err-clause-prepares : goal.returns-in_err-map_err-clause-prepares
returns-in_err-map_err-clause-prepares c T o =
    let a = c.args in
    let v = c.mirror_table in
    let e = c.in_err-map_err in
    let offends = mapped_err NoMirror v.result c.map_err.result c.map_err.ensures.cases e.field-0.0 e.was in
    let m = subst (MirrorDone a.cells.now a.size v.new.mirror) offends.1 v.ensures.mirror in
    let p = err_from_is_err_and c.from_residual.result c.from_residual.ensures.1 in
    rw (p.1, p.2, offends.2) (sym (mirror_offends T a.budget (length a.workspace.now) offends.0 (m T o)))

pub returns-clause-prepares : goal.returns-clause-prepares
returns-clause-prepares c T o =
    let a = c.args in
    let v = c.mirror_table in
    let made = mapped_ok NoMirror v.result c.map_err.result c.map_err.ensures.cases c.in_ok-map_err.field-0 c.in_ok-map_err.was in
    let m = subst (MirrorDone a.cells.now a.size v.new.mirror) made v.ensures.mirror in
    c.prepare_both.ensures.prepares T o (m T o).0 (m T o).1
