-- A word of the cells: so many letters from a place on.
use mathlib.Core.Path.{◌≡◌}
use mathlib.Core.List.{List}
use Prim.Native.Nat.{ℕ, ◌+◌, ◌≤◌}
use native.Mathlib.Omega.{arith}
use lib.ListN.{length, take, drop, length-drop}
use lib.Seq.{length-take-le}

pub word_length : (cells : List ℕ) (from count : ℕ) → from + count ≤ length cells → length (take count (drop from cells)) ≡ count
word_length cells from count inside = length-take-le count (drop from cells) (simp length-drop (omega arith))
