-- The comparison that said `same` is the one whose steps are listed.
use Rattle.chaining.proofs.ChainService.{ends_same}
use Rattle.chaining.proofs.chain.chain_programs.Goals as goal

pub list_programs-requires-clause-same : goal.list_programs-requires-clause-same
list_programs-requires-clause-same c =
    let a = c.args in
    λ T o u v eu ev. ends_same T u v a.budget a.workspace.now c.compare_programs.new.workspace c.compare_programs.auto.workspace _ _ _ c.in-Same.is
    (c.in_ok-verdict.ensures.judged T o u v eu ev)
