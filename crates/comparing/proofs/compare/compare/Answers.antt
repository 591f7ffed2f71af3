-- Images that are refused, and those that are read.
use Rattle.std.proofs.lemmas.Result.{err_from_is_err_and}
use Rattle.cells.proofs.Rules.{blank_zeros}
use Rattle.comparing.proofs.Comparing.{promised_refused, promised_judged}
use Rattle.comparing.proofs.compare.compare.Goals as goal

pub read_programs-requires : goal.read_programs-requires
read_programs-requires c = blank_zeros

pub returns-in_err-loaded : goal.returns-in_err-loaded
returns-in_err-loaded c =
    let p = err_from_is_err_and c.from_residual.result c.from_residual.ensures.1 in
    let a = c.args in
    rw (p.1, p.2) (promised_refused a.table.now a.first.now a.second.now a.allowance a.workspace.now _ c.in_err-loaded.ensures)

pub returns : goal.returns
returns c =
    let a = c.args in
    let l = c.in_ok-loaded.ensures in
    let f = l.forward in
    let z = c.compare_programs in
    promised_judged a.table.now a.first.now a.second.now a.allowance a.workspace.now f.table f.pair.one.word f.pair.two.word l.reads z.new.workspace z.result
    z.ensures.workspace (z.ensures.judged f.table f.of f.pair.one.word f.pair.two.word f.pair.one.read f.pair.two.read)
