-- Specification 6.5 of the model's `comparison`, for every presentation, positive words, budget and room; and of every way to tell its verdict.
-- Reversing decides equivalence under a table that clears ([D3] Prop. 4.4; [D2] Prop. 6.1); the parts are proved in Comparison.antt.
-- Main names: `verdict_meaning`; `demand_three_told` for a service that may refuse a verdict, as chain does with 13.
use mathlib.Core.Path.{◌≡◌, refl, ap}
use Prim.Native.Nat.{ℕ}
use native.Mathlib.Omega.{arith}
use Rattle.model.specs.Word.{Positive}
use Rattle.model.specs.Presentation.{Presentation}
use Rattle.model.specs.Equivalence.{Joined}
use Rattle.model.specs.Outcome.{unplaced, Outcome, answered, refused, ◌>>=◌}
use Rattle.model.specs.Checks.{cleared}
use Rattle.model.specs.Services.{Verdict, same_after, different_after, comparison}
use Rattle.model.proofs.Impossible.{impossible}
use Rattle.theory.specs.Verdicts.{Settled, settled, by_allowance, by_memory, VerdictMeaning}
use Rattle.theory.proofs.Comparison.{Meaning, same, different, out_of_budget, out_of_room, joined_empties, joined_same_after, comparison_means}
use Rattle.theory.proofs.Comparison.{same_joined, different_apart}

as_settled : {T : Presentation} {u v : Positive} {o : Outcome Verdict} → Meaning T u v o → Settled answered o
as_settled (same k r j) = settled (same_after k r)
as_settled (different k a) = settled (different_after k)
as_settled out_of_budget = by_allowance
as_settled out_of_room = by_memory

module _ (T : Presentation) (u v : Positive) (budget room : ℕ) where
  -- a verdict that is refused with 13 is `same`, where `different` is told as it is
  joined_beside_13 : (tell : Verdict → Outcome Verdict) → ((k : ℕ) → tell (different_after k) ≡ answered (different_after k))
      → (o : Outcome Verdict) → comparison T u v budget room ≡ o → Settled answered o → (o >>= tell) ≡ refused 13 unplaced → Joined T u v
  joined_beside_13 tell apart o e (settled (same_after k r)) h = same_joined T u v budget room k r e
  joined_beside_13 tell apart o e (settled (different_after k)) h = let told = apart k in impossible (cc)
  joined_beside_13 tell apart o e by_allowance h = let z : ◌≡◌ {A = ℕ} 11 13 = cc in absurd (omega arith)
  joined_beside_13 tell apart o e by_memory h = let z : ◌≡◌ {A = ℕ} 12 13 = cc in absurd (omega arith)

  as_compared : cleared T budget room ≡ answered tt → Settled answered (comparison T u v budget room)
  as_compared clear = as_settled (comparison_means T u v budget room clear)

  pub verdict_meaning : VerdictMeaning T u v budget room answered (comparison T u v budget room)
  verdict_meaning =
      record {
        same_joined = same_joined T u v budget room;
        different_apart = different_apart T u v budget room;
        verdict_or_stop = as_compared;
        short_area = λ clear h. joined_beside_13 answered (λ k. refl) (comparison T u v budget room) refl (as_compared clear) (ap (λ o. o >>= answered) h);
        ends_empty = joined_empties T u v budget room;
        answers_same = joined_same_after T u v budget room;
      }

  -- told in another way, in which an answer is the verdict itself, and `different` is always answered
  module _ (tell : Verdict → Outcome Verdict) (honest : (x y : Verdict) → tell x ≡ answered y → x ≡ y)
      (apart : (k : ℕ) → tell (different_after k) ≡ answered (different_after k)) where
    verdict_of : (o : Outcome Verdict) (y : Verdict) → (o >>= tell) ≡ answered y → o ≡ answered y
    verdict_of (answered x) y e = ap answered (honest x y e)
    verdict_of (refused n ps) y e = impossible (cc)

    settled_through : {o : Outcome Verdict} → Settled answered o → Settled tell (o >>= tell)
    settled_through (settled x) = settled x
    settled_through by_allowance = by_allowance
    settled_through by_memory = by_memory

    pub demand_three_told : VerdictMeaning T u v budget room tell (comparison T u v budget room >>= tell)
    demand_three_told =
        let d = verdict_meaning in
        record {
          same_joined = λ k r h. d.same_joined k r (verdict_of (comparison T u v budget room) (same_after k r) h);
          different_apart = λ k h. d.different_apart k (verdict_of (comparison T u v budget room) (different_after k) h);
          verdict_or_stop = λ clear. settled_through (d.verdict_or_stop clear);
          short_area = λ clear h. joined_beside_13 tell apart (comparison T u v budget room) refl (as_compared clear) h;
          ends_empty = d.ends_empty;
          answers_same = λ clear j k run within fits. ap (λ o. o >>= tell) (d.answers_same clear j k run within fits);
        }
