-- `signed_comparing::compare_signed::compare_signed` meets its contract: the images are read, and what was loaded is compared.
use Rattle.std.proofs.Common.{ap, sym, length, ◌∙◌}
use Rattle.std.proofs.lemmas.Result.{err_from_is_err_and}
use Rattle.model.specs.Areas.{workspace_after}
use Rattle.model.specs.Images.{read_program}
use Rattle.cells.proofs.Rules.{blank_zeros}
use Rattle.signed_comparing.proofs.Service.{read_refused, compare_runs, says}
use Rattle.signed_comparing.proofs.compare_signed.compare_signed.Goals as goal

pub read_programs-requires : goal.read_programs-requires
read_programs-requires c = blank_zeros

pub compare_loaded-requires : goal.compare_loaded-requires
compare_loaded-requires c = c.in_ok-loaded.ensures.runs

pub returns-in_err-loaded : goal.returns-in_err-loaded
returns-in_err-loaded c =
    let a = c.args in
    let e = c.in_err-loaded in
    let o = read_refused a.table.now a.first.now a.second.now a.allowance (length a.workspace.now) e.field-0.0 e.ensures in
    let p = err_from_is_err_and c.from_residual.result c.from_residual.ensures.1 in
    rw (p.1, p.2)
    (record {
      stated = o.stated;
      workspace_is = o.workspace a.workspace.now;
      meaning = says a.table.now a.first.now a.second.now a.allowance (length a.workspace.now) _ o.stated;
    })

pub returns : goal.returns
returns c =
    let a = c.args in
    let t = c.in_ok-loaded.ensures in
    let T = t.runs.table in
    let one = t.runs.programs.one.program in
    let two = t.runs.programs.two.program in
    let z = c.compare_loaded in
    let sized = t.runs.of.sized in
    let o =
    z.ensures.states T t.runs.of one.word two.word one.read two.read
    ∙ sym (compare_runs a.table.now a.first.now a.second.now a.allowance (length a.workspace.now) T one.word two.word t.table_read
    (ap (λ n. read_program n a.first.now) sized ∙ one.read) (ap (λ n. read_program n a.second.now) sized ∙ two.read)) in
    record {
      stated = o;
      workspace_is = z.ensures.workspace ∙ ap (λ x. workspace_after x a.workspace.now) o;
      meaning = says a.table.now a.first.now a.second.now a.allowance (length a.workspace.now) _ o;
    }
