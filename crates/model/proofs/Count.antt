-- Laws of `count`, which adds one for a step on two different letters and nothing for one on a letter and itself.
-- They let runs, diagrams and derivations be counted part by part. The steps themselves count both kinds (specification 3.3).
use mathlib.Core.Path.{◌≡◌, refl}
use mathlib.Core.Bool.{Bool, true, false, cond}
use Prim.Native.Nat.{ℕ, suc, ◌+◌, ◌≤◌}
use native.Mathlib.Omega.{arith}
use lib.Dec.{eqb}
use Rattle.model.specs.Reversing.{count}

pub count_add : (a b r s : ℕ) → count a b (r + s) ≡ count a b r + s
count_add a b r s = go (eqb a b)
  where
    go : (t : Bool) → cond t (r + s) (suc (r + s)) ≡ cond t r (suc r) + s
    go true = refl
    go false = omega arith

pub count_between : (a b r s : ℕ) → r + (count a b 0 + s) ≡ count a b (r + s)
count_between a b r s = go (eqb a b)
  where
    go : (t : Bool) → r + (cond t 0 1 + s) ≡ cond t (r + s) (suc (r + s))
    go true = omega arith
    go false = omega arith

pub count_past : (a b c d r : ℕ) → count a b (count c d r) ≡ count c d (count a b r)
count_past a b c d r = go (eqb a b) (eqb c d)
  where
    go : (s t : Bool) → cond s (cond t r (suc r)) (suc (cond t r (suc r))) ≡ cond t (cond s r (suc r)) (suc (cond s r (suc r)))
    go true t = refl
    go false true = refl
    go false false = refl

pub count_within : (a b r k : ℕ) → r ≤ k → count a b r ≤ suc k
count_within a b r k h = go (eqb a b)
  where
    go : (t : Bool) → cond t r (suc r) ≤ suc k
    go true = omega arith
    go false = omega arith
