-- What a service takes of a program that was read: any program, or one of forward letters alone.
use Rattle.std.proofs.Common.{◌≡◌, sym, subst, ◌∙◌}
use Rattle.std.proofs.lemmas.Result.{err_from_is_err_and}
use Rattle.model.specs.Stated.{refusal}
use Rattle.model.specs.declared.answers.Refusal.TheVariants.{BackMove}
use Rattle.images.specs.Programs.{WordOf, read_as}
use Rattle.images.proofs.Forward.{refused_as, measured_as, back_read}
use Rattle.images.proofs.programs.read_as.Goals as goal

pub returns-in_err-read : goal.returns-in_err-read
returns-in_err-read c =
    let p = err_from_is_err_and c.from_residual.result c.from_residual.ensures.1 in
    rw (p.1, p.2) (refused_as c.args.image.now c.args.size c.args.signs _ c.in_err-read.ensures)

pub returns-then-read : goal.returns-then-read
returns-then-read c =
    let r = c.in_ok-read.read in
    measured_as c.args.image.now c.args.size r.count c.args.cells.now r.forward r.weight c.in_ok-read.ensures c.if-read.true c.args.signs

pub returns-in-Forward : goal.returns-in-Forward
returns-in-Forward c =
    let m = c.in_ok-read.ensures in
    subst (λ g. read_as g c.args.size c.args.image.now ≡ refusal {A = WordOf g} BackMove) (sym c.in-Forward.is)
    (back_read c.args.image.now c.args.size c.in_ok-read.read.count m.program (sym m.forward_is ∙ c.if-read.false))
