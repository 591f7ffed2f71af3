-- Sums of two parts, and empty lists.
use mathlib.Core.Path.{◌≡◌, refl}
use mathlib.Core.List.{List, [], ◌∷◌}
use Prim.Native.Nat.{ℕ, ◌+◌, ◌-◌, ◌≤◌}
use native.Mathlib.Omega.{arith}
use lib.ListN.{length}

pub part_within : (k s l : ℕ) → k + s ≤ l → k ≤ l
part_within k s l e = omega arith

pub part_left : (k s l : ℕ) → l ≡ k + s → l - k ≡ s
part_left k s l e = omega arith

pub part_whole : (k l : ℕ) → k ≤ l → k + (l - k) ≡ l
part_whole k l h = omega arith

pub empty_of : {A : Type 0} (l : List A) → length l ≡ 0 → l ≡ []
empty_of [] e = refl
empty_of (x ∷ l) e = absurd (omega arith)
