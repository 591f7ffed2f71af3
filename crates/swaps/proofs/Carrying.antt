-- A letter goes over the gap, either way: the word stays.
use mathlib.Core.Path.{◌≡◌, refl, sym, ap, ap₂, ◌∙◌}
use mathlib.Core.List.{List, [], ◌∷◌, ◌++◌, append_assoc}
use Prim.Native.Nat.{ℕ, suc, ◌+◌, ◌-◌, ◌<◌}
use native.Mathlib.Omega.{arith}
use native.Mathlib.Numerals.{add-one}
use lib.ListN.{length, take, drop, set, get_or, length-set}
use lib.Seq.{take-suc-set, take-set-le, drop-set-lt, drop-cons, take-suc, get_or-set_same, append_snoc}
use Rattle.swaps.specs.Held.{held_at, Carried}

-- the places of the gap, told in another way
pub carried_at : {before after : List ℕ} {left right now to from' right' : ℕ} → now ≡ to → from' ≡ right' → Carried before left right now after from'
    → Carried before left right to after right'
carried_at e f c = rw (← e, ← f) c

module _ (before : List ℕ) (left₀ right₀ : ℕ) (bytes : List ℕ) (left right : ℕ) (c : Carried before left₀ right₀ left bytes right) where
  held_left : right < length bytes → held_at (set bytes left (get_or bytes right 0)) (left + 1) (right + 1) ≡ held_at bytes left right
  unfolding held_at
  held_left more =
      let e : take (left + 1) (set bytes left (get_or bytes right 0)) ≡ take left bytes ++ (get_or bytes right 0 ∷ []) =
      rw add-one (take-suc-set bytes left (get_or bytes right 0) (omega (arith, c.placed.ordered))) in
      let f : drop (right + 1) (set bytes left (get_or bytes right 0)) ≡ drop (right + 1) bytes =
      drop-set-lt (right + 1) bytes left (get_or bytes right 0) (omega (arith, c.placed.ordered)) in
      rw (e, f, append_assoc, drop-cons bytes right 0 more, add-one) refl

  pub carried_left : right < length bytes → Carried before left₀ right₀ (left + 1) (set bytes left (get_or bytes right 0)) (right + 1)
  carried_left more =
      record {
        same_length = simp length-set c.same_length;
        placed = record { ordered = omega (arith, c.placed.ordered); inside = simp length-set (omega arith) };
        word = held_left more ∙ c.word;
      }

  module _ (some : 0 < left) where
    abbrev moved : List ℕ
    moved = set bytes (right - 1) (get_or bytes (left - 1) 0)

    fits : right - 1 < length bytes
    fits = omega (arith, c.placed.ordered, c.placed.inside)

    held_right : held_at moved (left - 1) (right - 1) ≡ held_at bytes left right
    unfolding held_at
    held_right =
        let n : suc (left - 1) ≡ left = omega arith in
        let m : suc (right - 1) ≡ right = omega (arith, c.placed.ordered) in
        let e : take (left - 1) moved ≡ take (left - 1) bytes =
        take-set-le (left - 1) bytes (right - 1) (get_or bytes (left - 1) 0) (omega (arith, c.placed.ordered)) in
        let f : drop (right - 1) moved ≡ get_or bytes (left - 1) 0 ∷ drop right bytes =
        drop-cons moved (right - 1) 0 (simp length-set fits)
        ∙ ap₂ (λ x l. x ∷ l) (get_or-set_same bytes (right - 1) (get_or bytes (left - 1) 0) 0 fits)
        (drop-set-lt (suc (right - 1)) bytes (right - 1) (get_or bytes (left - 1) 0) (omega arith) ∙ ap (λ i. drop i bytes) m) in
        let g : take left bytes ≡ take (left - 1) bytes ++ (get_or bytes (left - 1) 0 ∷ []) =
        ap (λ i. take i bytes) (sym n) ∙ take-suc bytes (left - 1) 0 (omega (arith, c.placed.ordered, c.placed.inside)) in
        ap₂ (λ x y. x ++ y) e f
        ∙ (sym (append_snoc (take (left - 1) bytes) (get_or bytes (left - 1) 0) (drop right bytes))
        ∙ ap (λ x. x ++ drop right bytes) (sym g))

    pub carried_right : Carried before left₀ right₀ (left - 1) moved (right - 1)
    carried_right =
        record {
          same_length = simp length-set c.same_length;
          placed = record { ordered = omega (arith, c.placed.ordered); inside = simp length-set (omega (arith, c.placed.inside)) };
          word = held_right ∙ c.word;
        }
