-- The letters that were passed are turned, and the others are as they were.
use Rattle.std.proofs.Common.{◌≡◌, ℕ, ◌≤◌, ◌<◌, get_or}
use Rattle.model.specs.Word.{flip, letter}
use Rattle.engine.proofs.words.invert.Given as goal

abbrev pub invariant-loop-x : goal.invariant-loop-x
invariant-loop-x l =
    ((k : ℕ) → k < l.x-index → letter (get_or l.word k 0) ≡ flip (letter (get_or l.initial.word k 0)))
    × ((k : ℕ) → l.x-index ≤ k → get_or l.word k 0 ≡ get_or l.initial.word k 0)
