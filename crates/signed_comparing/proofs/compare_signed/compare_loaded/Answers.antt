-- `signed_comparing::compare_signed::compare_loaded` meets its contract: a check refuses, or the two reversings are settled.
use Rattle.std.proofs.Common.{ap, sym, length, replicate, ◌≡◌, ◌++◌, ◌∙◌}
use lib.ListN.{length-replicate}
use Rattle.std.proofs.lemmas.Result.{err_from_is_err_and}
use Rattle.model.specs.Word.{Word, inverse}
use Rattle.model.specs.Presentation.{Presentation}
use Rattle.model.specs.Reversing.{reversing}
use Rattle.model.specs.Outcome.{answered}
use Rattle.model.specs.Images.{read_program}
use Rattle.model.specs.Signed.{signed_of}
use Rattle.model.specs.Areas.{workspace_after}
use Rattle.model.specs.Stated.{compared_signed}
use Rattle.cells.specs.Stands.{Of}
use Rattle.signed_comparing.proofs.Service.{signed_late, signed_refused, signed_runs}
use Rattle.signed_comparing.proofs.compare_signed.compare_loaded.Goals as goal

pub settle-answer-requires : goal.settle-answer-requires
settle-answer-requires c =
    let p = c.requires in
    let one = p.programs.one.program in
    let two = p.programs.two.program in
    record {
      table = p.table;
      stands = p.of.stands;
      word = inverse one.word ++ two.word;
      budget = c.args.budget;
      reverses = c.reverse_signed-ending.ensures.runs p.table p.of one.word two.word one.read two.read;
    }

pub returns-in_err-prepare : goal.returns-in_err-prepare
returns-in_err-prepare c =
    let a = c.args in
    let e = c.in_err-prepare in
    let p = err_from_is_err_and c.from_residual.result c.from_residual.ensures.1 in
    rw (p.1, p.2)
    (record {
      workspace = e.ensures.workspace;
      states = λ T o w v ew ev. signed_refused T w v a.budget (length a.workspace.now) e.field-0.0 (e.ensures.prepares T o);
    })

pub returns : goal.returns
returns c =
    let a = c.args in
    let area = a.workspace.now in
    let p = c.requires in
    let one = p.programs.one.program in
    let two = p.programs.two.program in
    let e = c.in_ok-prepare in
    let r = c.reverse_signed-ending in
    let s = c.settle-answer in
    let long : length r.new.workspace ≡ length area = r.ensures.length ∙ (ap length e.ensures.workspace ∙ length-replicate (length area) 0) in
    let verdict : (T : Presentation) → Of a.cells.now a.loaded.size T → (w v : Word) → read_program a.loaded.size a.first.now ≡ answered w
    → read_program a.loaded.size a.second.now ≡ answered v
    → compared_signed s.result ≡ signed_of T a.budget (length area) (reversing T a.budget (length area) (inverse w ++ v)) =
    λ T o w v ew ev. s.ensures.settles T o.stands (inverse w ++ v) (r.ensures.runs T o w v ew ev)
    ∙ ap (λ n. signed_of T a.budget n (reversing T a.budget n (inverse w ++ v))) long in
    let late = signed_late p.table a.budget (length area) (reversing p.table a.budget (length area) (inverse one.word ++ two.word)) in
    record {
      workspace =
          c.wipe.ensures
          ∙ (ap (λ n. replicate n 0) (s.ensures.length ∙ long)
          ∙ sym (ap (λ o. workspace_after o area) (verdict p.table p.of one.word two.word one.read two.read) ∙ late.zero area));
      states = λ T o w v ew ev. verdict T o w v ew ev ∙ sym (signed_runs T w v a.budget (length area) (e.ensures.prepares T o));
    }
