-- The search from the gap where the loop stands finds what the one from the gap at entry does.
use Rattle.engine.specs.Gap.{place_before, word_at}
use Rattle.engine.proofs.Seeking.{Seeking}
use Rattle.engine.proofs.gap.seek.Given as goal

abbrev pub invariant-loop-right : goal.invariant-loop-right
invariant-loop-right l = Seeking (place_before l.fn.gap.left) (word_at l.fn.bytes l.fn.gap.left l.fn.gap.right) l.bytes l.left l.right
