-- The last `i` letters have moved.
use Rattle.std.proofs.Common.{◌-◌, length, take, drop}
use Rattle.engine.specs.Gap.{letters}
use Rattle.engine.specs.Turn.{Pushed}
use Rattle.engine.proofs.words.move_to_end.Given as goal

abbrev pub invariant-loop-i : goal.invariant-loop-i
invariant-loop-i l =
    Pushed (letters (drop (l.count - l.i) (take l.count (drop l.from l.fn.bytes)))) l.fn.bytes (length l.fn.bytes) l.i l.bytes
