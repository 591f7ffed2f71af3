-- The entries are followed from the first program, as it was laid at the workspace's end.
use Rattle.std.proofs.Common.{arith, ◌∙◌}
use Rattle.chain_check.proofs.CheckService.{passage_laid}
use Rattle.chain_check.proofs.check.pass.Goals as goal

pub returns-clause-passage : goal.returns-clause-passage
returns-clause-passage c =
    let a = c.args in
    let x = c.unpack_letters in
    λ T o u v f g es e.
    c.pass_loaded.ensures.passage T o v g es e
    ∙ passage_laid a.first.now a.loaded.size a.loaded.firsts c.requires.forward.pair.one u f a.workspace.now x.new.area (omega arith)
    x.ensures.length x.ensures.bytes T es v
