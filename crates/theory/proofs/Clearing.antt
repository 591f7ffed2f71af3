-- A table that the weight check passes is homogeneous; one that `cleared` passes, at any budget and room, also satisfies the cube rule on all
-- different letters in every order. So it satisfies the condition on letters from which completeness follows ([D3] Prop. 4.4; [D2] Prop. 6.1).
-- From what the checks show (Checked.antt), and completeness (Completeness.antt).
-- Main names: `checked_homogeneous`, `clear_homogeneous`, `clear_rule`, `clear_cube`, `clear_complete`.
use mathlib.Core.Path.{◌≡◌, refl, sym, ap, ◌∙◌}
use mathlib.Core.Logic.{◌≢◌}
use mathlib.Core.List.{[], ◌∷◌}
use Prim.Native.Nat.{ℕ, ◌≤◌, ◌<◌}
use native.Mathlib.Omega.{arith}
use native.Mathlib.Decide.{ℕ_discrete, dec_lt, dec_le}
use borrow.Author.Tests.{eqb-true}
use Rattle.model.specs.Word.{Positive}
use Rattle.model.specs.Presentation.{Presentation, Complement, undefined, complement, swapped, complete, weight_of, weigh}
use Rattle.model.specs.Range.{InRange}
use Rattle.model.specs.Outcome.{answered}
use Rattle.model.specs.Enumeration.{pairs}
use Rattle.model.specs.Checks.{balanced, weight_check, Side, CubeRule, both_undefined, both_defined, cleared}
use Rattle.model.proofs.Complete.{complete_same, complete_turn, complete_named}
use Rattle.model.proofs.Equiv.{Equiv, Homogeneous}
use Rattle.theory.proofs.Grid.{Grid, derives_empty, recast}
use Rattle.theory.proofs.Diagram.{draw}
use Rattle.theory.proofs.Residuals.{side_grid, grid_side, same_side, rule_turned, open_rule}
use Rattle.theory.proofs.Checked.{checked_weight, clear_weights, checked_rule}
use Rattle.theory.proofs.Completeness.{Cube, Closes, complete_for}

-- WHAT THE RULE SAYS

module _ (T : Presentation) where
  -- both sides want the residuals of a and c and of b and c
  outside_rule : (a b c : ℕ) → a ≢ c → b ≢ c → (InRange T.size c → ⊥) → CubeRule T a b c
  outside_rule a b c p q unnamed =
      both_undefined
      (λ l s. unnamed (complete_named T p (side_grid T a b c s).to_c).1)
      (λ r s. unnamed (complete_named T q (side_grid T b a c s).to_c).1)

  closes : (a b c : ℕ) {ab ba n : Positive} → complete T a b ≡ complement ab ba → Side T a b c n → CubeRule T a b c → Closes (complete T) b c ba n
  closes a b c {n} e s (both_undefined none-l none-r) = absurd (none-l n s)
  closes a b c {ab} {ba} {n} e s (both_defined l r left right ends) =
      let l≡ : n ≡ l = same_side T a b c s left in
      let t = side_grid T b a c right in
      let turned : complete T b a ≡ complement ba ab = complete_turn T a b ∙ ap swapped e in
      let ba≡ : t.ab ≡ ba = cc (turned, t.to_b) in
      record {
        bc = t.ac;
        cb = t.ca;
        n' = r;
        d' = t.d;
        k' = t.k;
        rule = t.to_c;
        grid = recast ba≡ refl refl refl refl t.grid;
        agree = rw l≡ (derives_empty (draw l r [] [] ends.1)).path;
      }

-- WHERE THE WEIGHT CHECK IS PASSED

module _ (T : Presentation) (even : weight_check T (pairs T.size) ≡ answered tt) where
  ordered_weights : {a b : ℕ} {x y : Positive} → a < b → complete T a b ≡ complement x y → weigh T (a ∷ x) ≡ weigh T (b ∷ y)
  ordered_weights {a} {b} {x} {y} h e =
      let named = complete_named T {a = a} {b = b} (omega arith) e in
      eqb-true (weigh T (a ∷ x)) (weigh T (b ∷ y)) (ap (balanced T a b) (sym e) ∙ checked_weight T even named.0.low h named.1.high)

  pub checked_homogeneous : Homogeneous (weight_of T) (complete T)
  checked_homogeneous a b x y e = go (ℕ_discrete a b) (dec_lt a b)
    where
      go : Dec (a ≡ b) → Dec (a < b) → weigh T (a ∷ x) ≡ weigh T (b ∷ y)
      go (yes p) _ =
          let empty : complete T a b ≡ complement [] [] = rw (← p) (complete_same T a) in
          cc
      go (no p) (yes q) = ordered_weights q e
      go (no p) (no q) =
          let below : b < a = omega arith in
          sym (ordered_weights below (complete_turn T a b ∙ ap swapped e))

-- WHERE THE TABLE CLEARS

module _ (T : Presentation) (budget room : ℕ) (clear : cleared T budget room ≡ answered tt) where
  pub clear_homogeneous : Homogeneous (weight_of T) (complete T)
  clear_homogeneous = checked_homogeneous T (clear_weights T budget room clear)

  -- THE CUBE RULE

  named_rule : (a b c : ℕ) {x y : Positive} → a ≢ b → a ≢ c → b ≢ c → InRange T.size c → complete T a b ≡ complement x y → CubeRule T a b c
  named_rule a b c {x} {y} p q r n e = go (dec_lt a b)
    where
      letters : InRange T.size a × InRange T.size b
      letters = complete_named T p e

      go : Dec (a < b) → CubeRule T a b c
      go (yes h) = checked_rule T budget room clear letters.0.low h letters.1.high n.low n.high q r
      go (no h) =
          let below : b < a = omega arith in
          rule_turned T a b c
          (checked_rule T budget room clear letters.1.low below letters.0.high n.low n.high r q)

  pub clear_rule : (a b c : ℕ) → a ≢ b → a ≢ c → b ≢ c → CubeRule T a b c
  clear_rule a b c p q r = go (complete T a b) refl (dec_le 1 c) (dec_le c T.size)
    where
      go : (m : Complement) → complete T a b ≡ m → Dec (1 ≤ c) → Dec (c ≤ T.size) → CubeRule T a b c
      go undefined e _ _ = open_rule T a b c e
      go (complement x y) e (yes low) (yes high) = named_rule a b c p q r (record { low = low; high = high }) e
      go (complement x y) e (yes low) (no high) = outside_rule T a b c q r (λ n. high n.high)
      go (complement x y) e (no low) h = outside_rule T a b c q r (λ n. low n.low)

  -- THE CONDITION ON LETTERS

  pub clear_cube : Cube (complete T)
  clear_cube a b c p q r ab ba ac ca n d k e h g = closes T a b c e (grid_side T a b c e h g) (clear_rule a b c p q r)

  -- COMPLETENESS

  -- equivalent words reverse to the empty word
  pub clear_complete : (u v : Positive) → Equiv (complete T) u v → (k : ℕ) × Grid (complete T) u v [] [] k
  clear_complete u v = complete_for (weight_of T) (λ a. omega arith) (complete_same T) (complete_turn T) clear_homogeneous clear_cube
