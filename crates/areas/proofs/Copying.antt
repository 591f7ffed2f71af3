-- A copy, byte after byte, from a place of an area to a place behind it.
use mathlib.Core.Path.{◌≡◌, sym, ap, subst, ◌∙◌}
use mathlib.Core.List.{List, ◌++◌, append_assoc}
use Prim.Native.Nat.{ℕ, suc, ◌+◌, ◌≤◌, ◌<◌}
use native.Mathlib.Omega.{arith}
use lib.ListN.{length, take, drop, set, get_or, length-drop, get_or-append}
use lib.Seq.{length-take-le, paste, paste-suc, get_or-take, get_or-drop}
use Rattle.model.specs.Areas.{written}

-- a byte before the place of a copy is as it was
copy_source : (a : List ℕ) (to : ℕ) (s : List ℕ) (n j : ℕ) → j < to → to ≤ length a → get_or (paste a to s n) j 0 ≡ get_or a j 0
copy_source a to s n j before inside =
    ap (λ l. get_or l j 0) (append_assoc (take to a) (take n s) (drop (to + n) a))
    ∙ get_or-append (take to a) (take n s ++ drop (to + n) a) 0 j (subst (λ k. j < k) (sym (length-take-le to a inside)) before)
    ∙ get_or-take to a j 0 before

-- one byte more is copied
pub copy_more : (a : List ℕ) (from to i : ℕ) → from + i < to → to + i < length a
    → set (paste a to (drop from a) i) (to + i) (get_or (paste a to (drop from a) i) (from + i) 0) ≡ paste a to (drop from a) (suc i)
copy_more a from to i before inside =
    ap (set (paste a to (drop from a) i) (to + i)) (copy_source a to (drop from a) i (from + i) before (omega (arith, inside)) ∙ sym (get_or-drop from a i 0))
    ∙ paste-suc a to (drop from a) i 0 inside (omega (arith, length-drop from a, before, inside))

-- a copy, as bytes put in their place
pub paste_written : (a : List ℕ) (to : ℕ) (s : List ℕ) (n : ℕ) → n ≤ length s → paste a to s n ≡ written a to (take n s)
paste_written a to s n h = append_assoc (take to a) (take n s) (drop (to + n) a) ∙ ap (λ k. take to a ++ (take n s ++ drop (to + k) a))
    (sym (length-take-le n s h))
