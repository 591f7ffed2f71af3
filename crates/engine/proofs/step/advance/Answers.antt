-- What the search from the gap finds is the leftmost site.
use Rattle.engine.proofs.AtGap.{here, at_end, end_next}
use Rattle.engine.proofs.step.advance.Goals as goal

pub step-requires-clause-site : goal.step-requires-clause-site
step-requires-clause-site c = here c.requires.searched.none_before c.in-Ok.ensures.sought

pub returns-in-Err-clause-turn : goal.returns-in-Err-clause-turn
returns-in-Err-clause-turn c T t =
    let end = at_end c.requires.searched.none_before c.in-Err.ensures.sought in
    (end_next T end, end)
