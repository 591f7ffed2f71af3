-- `signed_comparing::compare_signed::settle` meets its contract: N and D are compared where the first reversing finished.
use Rattle.std.proofs.Common.{ap, Err, ◌∙◌}
use Rattle.model.specs.Stated.{compared_signed}
use Rattle.engine.proofs.Ended.{done}
use Rattle.signed_comparing.proofs.Service.{left_of, settled_finished, settled_open, settled_stopped}
use Rattle.signed_comparing.proofs.compare_signed.settle.Goals as goal

pub compare_fraction-second-requires : goal.compare_fraction-second-requires
compare_fraction-second-requires c =
    let p = c.requires in
    let g = c.in-Finished in
    let ran = rw g.is at p.reverses in
    let q = done p.table p.word p.budget c.args.workspace.now g.numerator g.denominator g.steps g.relations ran in
    (p.table, q.N, q.D, left_of c.args.cells.now p.table p.stands p.word p.budget c.args.workspace.now g.numerator g.denominator g.steps g.relations ran)

pub returns-in-Finished-clause-settles : goal.returns-in-Finished-clause-settles
returns-in-Finished-clause-settles c T t word p =
    let a = c.args in
    let area = a.workspace.now in
    let g = c.in-Finished in
    let ran = rw g.is at p in
    let q = done T word a.budget area g.numerator g.denominator g.steps g.relations ran in
    let f = c.compare_fraction-second in
    ap compared_signed c.after_first.ensures
    ∙ settled_finished T word a.budget area g.numerator g.denominator g.steps g.relations ran f.result
    (f.ensures.compares T q.N q.D (left_of a.cells.now T t word a.budget area g.numerator g.denominator g.steps g.relations ran))

pub returns-in-Undefined-clause-settles : goal.returns-in-Undefined-clause-settles
returns-in-Undefined-clause-settles c T t word p =
    let g = c.in-Undefined in
    settled_open T word c.args.budget c.args.workspace.now g.pair g.steps (rw g.is at p)

pub returns-in-Stopped-clause-settles : goal.returns-in-Stopped-clause-settles
returns-in-Stopped-clause-settles c T t word p =
    let g = c.in-Stopped in
    ap (λ r. compared_signed (Err r)) c.stop_refusal.ensures ∙ settled_stopped T word c.args.budget c.args.workspace.now g.stop (rw g.is at p)
