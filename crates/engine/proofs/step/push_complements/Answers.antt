-- A word that is pushed before another one is one word with it.
use Rattle.engine.proofs.Pushes.{pushed_both}
use Rattle.engine.proofs.step.push_complements.Goals as goal

pub returns-clause-pushed : goal.returns-clause-pushed
returns-clause-pushed c = pushed_both c.push_inverse-middle.ensures.place c.push_inverse-middle.ensures.pushed c.push_word.ensures.pushed
