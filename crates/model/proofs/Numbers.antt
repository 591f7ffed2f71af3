-- Two numbers: one is below the other, or at least it.
use mathlib.Core.Logic.{◌⊎◌, inl, inr}
use Prim.Native.Nat.{ℕ, ◌≤◌, ◌<◌}
use native.Mathlib.Omega.{arith}
use native.Mathlib.Decide.{dec_lt}

pub below_or : (a b : ℕ) → (a < b) ⊎ (b ≤ a)
below_or a b = elim (dec_lt a b) [ yes p ↦ inl p | no p ↦ inr (not_below p) ]
  where
    not_below : (a < b → ⊥) → b ≤ a
    not_below p = omega arith
