-- The letters, brought together before the gap, are compared in place of the word.
use Rattle.std.proofs.Common.{sym, ◌∙◌}
use Rattle.chain_check.proofs.CheckService.{arrived}
use Rattle.chain_check.proofs.check.arrive.Goals as goal

pub returns-then-spells-clause-arrival : goal.returns-then-spells-clause-arrival
returns-then-spells-clause-arrival c =
    let a = c.args in
    λ v h. arrived a.workspace.now a.last.left a.last.right c.carry.new.bytes c.carry.result c.requires.placed c.carry.ensures v _
    (sym (c.spells.ensures v h) ∙ c.if-spells.true)

pub returns-clause-arrival : goal.returns-clause-arrival
returns-clause-arrival c =
    let a = c.args in
    λ v h. arrived a.workspace.now a.last.left a.last.right c.carry.new.bytes c.carry.result c.requires.placed c.carry.ensures v _
    (sym (c.spells.ensures v h) ∙ c.if-spells.false)
