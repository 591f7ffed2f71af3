-- Images that are refused, a chain that is, and one that is followed.
use Rattle.std.proofs.lemmas.Result.{err_from_is_err_and}
use Rattle.cells.proofs.Rules.{blank_zeros}
use Rattle.chain_check.proofs.CheckService.{promised_refused, promised_no_chain, promised_passage}
use Rattle.chain_check.proofs.check.check.Goals as goal

pub read_programs-requires : goal.read_programs-requires
read_programs-requires c = blank_zeros

pub returns-in_err-loaded : goal.returns-in_err-loaded
returns-in_err-loaded c =
    let a = c.args in
    let p = err_from_is_err_and c.from_residual.result c.from_residual.ensures.1 in
    rw (p.1, p.2) (promised_refused a.table.now a.first.now a.second.now a.entries.now a.workspace.now _ c.in_err-loaded.ensures)

pub returns-in_err-count : goal.returns-in_err-count
returns-in_err-count c =
    let a = c.args in
    let l = c.in_ok-loaded.ensures in
    let f = l.forward in
    let r = c.from_residual-in_err-count in
    let p = err_from_is_err_and r.result r.ensures.1 in
    rw (p.1, p.2)
    (promised_no_chain a.table.now a.first.now a.second.now a.entries.now a.workspace.now f.table f.pair.one.word f.pair.two.word l.reads
    c.in_ok-loaded.loaded.size f.of.sized _ c.in_err-count.ensures)

pub returns : goal.returns
returns c =
    let a = c.args in
    let l = c.in_ok-loaded.ensures in
    let f = l.forward in
    let es = c.in_ok-count.ensures in
    let z = c.check_programs in
    promised_passage a.table.now a.first.now a.second.now a.entries.now a.workspace.now f.table f.pair.one.word f.pair.two.word l.reads
    c.in_ok-loaded.loaded.size f.of.sized es.entries es.read z.new.workspace _ z.ensures.wiped
    (z.ensures.passes f.table f.of f.pair.one.word f.pair.two.word f.pair.one.read f.pair.two.read es.entries es.read)
