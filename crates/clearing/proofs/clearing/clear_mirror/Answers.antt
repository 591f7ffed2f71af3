-- The mirror that was made is checked.
use Rattle.std.proofs.Common.{rules, length}
use Rattle.clearing.proofs.Cleared.{mirror_clears}
use Rattle.clearing.proofs.clearing.clear_mirror.Goals as goal

pub returns-clause-clear : goal.returns-clause-clear
returns-clause-clear c T o =
    let a = c.args in
    let b = c.check_both in
    mirror_clears T a.budget (length a.workspace.now) a.cells.now a.size o b.result c.mirror_table.new.mirror b.ensures.checks (search rules)
