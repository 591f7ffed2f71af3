-- The second program is refused, or read as well as the first.
use Rattle.std.proofs.lemmas.Result.{err_from_is_err_and}
use Rattle.loading.proofs.Reading.{second_refused, both_as}
use Rattle.loading.proofs.loading.read_programs.Goals as goal

pub returns-in_err-two : goal.returns-in_err-two
returns-in_err-two c =
    let a = c.args in
    let one = c.in_ok-one.one in
    let r = c.from_residual-in_err-two in
    let p = err_from_is_err_and r.result r.ensures.1 in
    rw (p.1, p.2) (second_refused a.table.now a.first.now a.second.now a.signs c.read_table_program.new.cells one.size one.count one.weight
    c.in_ok-one.ensures _ c.in_err-two.ensures)

pub returns : goal.returns
returns c =
    let a = c.args in
    let one = c.in_ok-one.one in
    let two = c.in_ok-two.two in
    both_as a.table.now a.first.now a.second.now a.signs c.read_table_program.new.cells one.size one.count two.count one.weight two.weight two.forward
    c.in_ok-one.ensures c.in_ok-two.ensures
