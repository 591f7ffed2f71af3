-- Specification 6.5, whole, as one statement: what the outcome of a comparison says of the two words.
-- The promises of compare and chain cite it. After [D3] Prop. 4.4 and [D2] Prop. 6.1; proved as `verdict_meaning` in proofs/Verdicts.antt.
-- Main name: `VerdictMeaning`.
use Rattle.std.specs.Prelude.{[], ◌++◌, ◌≡◌, ℕ}
use Rattle.model.specs.Word.{Positive, positive, negative}
use Rattle.model.specs.Presentation.{Presentation}
use Rattle.model.specs.Reversing.{differing, Finishes, EndsEmpty, CoversSteps, CoversRoom}
use Rattle.model.specs.Equivalence.{Joined}
use Rattle.model.specs.Outcome.{unplaced, Outcome, answered, refused}
use Rattle.model.specs.Checks.{cleared}
use Rattle.model.specs.Services.{Verdict, same_after, different_after}

-- a verdict, as the service tells it, or a stop by allowance or memory
pub data Settled (tell : Verdict → Outcome Verdict) : Outcome Verdict → Type 0 where
  settled : (v : Verdict) → Settled tell (tell v)
  by_allowance : Settled tell (refused 11 unplaced)
  by_memory : Settled tell (refused 12 unplaced)

-- `tell` is how the service tells a verdict: chain may refuse one with 13
pub record VerdictMeaning (T : Presentation) (u v : Positive) (budget room : ℕ) (tell : Verdict → Outcome Verdict) (outcome : Outcome Verdict) : Type 0 where
  -- `same` only if a chain of swaps joins the two words
  pub same_joined : (k r : ℕ) → outcome ≡ answered (same_after k r) → Joined T u v
  -- `different` only if none does
  pub different_apart : (k : ℕ) → outcome ≡ answered (different_after k) → Joined T u v → ⊥
  -- under a table that clears it is a verdict, as the service tells it, or a stop
  pub verdict_or_stop : cleared T budget room ≡ answered tt → Settled tell outcome
  -- and 13 comes only where a chain of swaps joins the two words
  pub short_area : cleared T budget room ≡ answered tt → outcome ≡ refused 13 unplaced → Joined T u v
  -- joined words have a reversing that ends empty,
  pub ends_empty : cleared T budget room ≡ answered tt → Joined T u v → EndsEmpty T (negative u ++ positive v)
  -- and where allowance and workspace cover it, the answer is `same` with its steps, and how many were on two different letters
  pub answers_same : cleared T budget room ≡ answered tt → Joined T u v → (k : ℕ) (run : Finishes T (negative u ++ positive v) [] [] k)
      → CoversSteps budget run → CoversRoom room run → outcome ≡ tell (same_after k (differing run))
