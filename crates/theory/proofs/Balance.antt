-- Under relations whose sides weigh the same, the weight of the forward letters less that of the back letters is the same at every word of a
-- reversing, in any order of steps: a step takes b away from the one and a from the other, and adds C(a,b) and C(b,a).
-- From the weight check (`checked_homogeneous`), after the norm of [D1] Lemma 1.4.
-- Main names: `balance_kept`, `ends_weigh_alike`, `weight_balanced`, `weight_meaning`.
use mathlib.Core.Path.{◌≡◌, refl, ap, ◌∙◌}
use mathlib.Core.List.{[], ◌∷◌, ◌++◌}
use Prim.Native.Nat.{ℕ, ◌+◌}
use native.Mathlib.Omega.{arith}
use Rattle.model.specs.Word.{forward, back, Word, Positive, positive, negative, forwards, backs}
use Rattle.model.specs.Presentation.{Presentation, complete, weight_of, total}
use Rattle.model.specs.Reversing.{replaced, Reduces, stay, go}
use Rattle.model.specs.Enumeration.{pairs}
use Rattle.model.specs.Outcome.{answered}
use Rattle.model.specs.Checks.{weight_check, cleared}
use Rattle.model.proofs.Words.{negative_cons}
use Rattle.model.proofs.Equiv.{Homogeneous}
use Rattle.theory.specs.Balance.{Balanced, WeightMeaning}
use Rattle.theory.proofs.Reduction.{reduces}
use Rattle.theory.proofs.Checked.{unless_8}
use Rattle.theory.proofs.Clearing.{checked_homogeneous}

module _ (weight : ℕ → ℕ) where
  -- the weight of the forward letters, and of the back letters
  abbrev gains : Word → ℕ
  gains w = total weight (forwards w)

  abbrev losses : Word → ℕ
  losses w = total weight (backs w)

  gains_append : (v w : Word) → gains (v ++ w) ≡ gains v + gains w
  gains_append [] w = omega arith
  gains_append (forward a ∷ v) w = omega (arith, gains_append v w)
  gains_append (back a ∷ v) w = gains_append v w

  losses_append : (v w : Word) → losses (v ++ w) ≡ losses v + losses w
  losses_append [] w = omega arith
  losses_append (forward a ∷ v) w = losses_append v w
  losses_append (back a ∷ v) w = omega (arith, losses_append v w)

  gains_positive : (u : Positive) → gains (positive u) ≡ total weight u
  gains_positive [] = refl
  gains_positive (a ∷ u) = omega (arith, gains_positive u)

  losses_positive : (u : Positive) → losses (positive u) ≡ 0
  losses_positive [] = refl
  losses_positive (a ∷ u) = losses_positive u

  gains_negative : (u : Positive) → gains (negative u) ≡ 0
  gains_negative [] = refl
  gains_negative (a ∷ u) = ap gains (negative_cons a u) ∙ (gains_append (negative u) (back a ∷ []) ∙ omega (arith, gains_negative u))

  losses_negative : (u : Positive) → losses (negative u) ≡ total weight u
  losses_negative [] = refl
  losses_negative (a ∷ u) = ap losses (negative_cons a u) ∙ (losses_append (negative u) (back a ∷ []) ∙ omega (arith, losses_negative u))

  -- what a step puts in the place of a pair
  gains_replaced : (p s : Word) (x y : Positive) → gains (replaced p x y s) ≡ gains p + (total weight x + gains s)
  gains_replaced p s x y =
      omega (
        arith,
        gains_append p (positive x ++ (negative y ++ s)),
        gains_append (positive x) (negative y ++ s),
        gains_append (negative y) s,
        gains_positive x,
        gains_negative y,
      )

  losses_replaced : (p s : Word) (x y : Positive) → losses (replaced p x y s) ≡ losses p + (total weight y + losses s)
  losses_replaced p s x y =
      omega (
        arith,
        losses_append p (positive x ++ (negative y ++ s)),
        losses_append (positive x) (negative y ++ s),
        losses_append (negative y) s,
        losses_positive x,
        losses_negative y,
      )

  module _ (T : Presentation) (even : Homogeneous weight (complete T)) where
    pub balance_kept : {w w' : Word} {k : ℕ} → Reduces T w w' k → gains w + losses w' ≡ gains w' + losses w
    balance_kept stay = refl
    balance_kept {w} {w'} (go p a b s {x} {y} e c r) =
        let rest = balance_kept r in
        omega (
          arith,
          rest,
          ap gains e,
          ap losses e,
          gains_append p (back a ∷ forward b ∷ s),
          losses_append p (back a ∷ forward b ∷ s),
          gains_replaced p s x y,
          losses_replaced p s x y,
          even a b x y c,
        )

    -- words of equal weight end with a numerator and a denominator of equal weight
    pub ends_weigh_alike : (u v n d : Positive) {k : ℕ} → total weight u ≡ total weight v → Reduces T (negative u ++ positive v) (positive n ++ negative d) k
        → total weight n ≡ total weight d
    ends_weigh_alike u v n d h r =
        omega (
          arith,
          balance_kept r,
          gains_append (negative u) (positive v),
          losses_append (negative u) (positive v),
          gains_append (positive n) (negative d),
          losses_append (positive n) (negative d),
          gains_negative u,
          gains_positive v,
          losses_negative u,
          losses_positive v,
          gains_positive n,
          gains_negative d,
          losses_positive n,
          losses_negative d,
        )

-- AFTER THE WEIGHT CHECK

pub weight_balanced : (T : Presentation) → weight_check T (pairs T.size) ≡ answered tt → Balanced T
weight_balanced T even =
    let uniform = checked_homogeneous T even in
    record {
      kept = λ w w' k r. balance_kept (weight_of T) T uniform r;
      equal_ends = λ u v n d k h f. ends_weigh_alike (weight_of T) T uniform u v n d h (reduces f);
    }

pub weight_meaning : (T : Presentation) (budget room : ℕ) → WeightMeaning T (cleared T budget room)
weight_meaning T budget room other = weight_balanced T (unless_8 T budget room other)
