-- Specification 6.10, whole, as one statement: what the outcome of remainder says of u, the part done, and v, the pattern.
-- The promise of remainder cites it. After [D1] Lemmas 1.3 and 1.4; proved as `remainder_meaning` in proofs/Remainders.antt.
-- Main names: `Completes`, `RemainderMeaning`.
use Rattle.std.specs.Prelude.{[], ◌++◌, ◌≡◌, ℕ, ◌<◌, ltb, length}
use Rattle.model.specs.Word.{Positive, positive, negative}
use Rattle.model.specs.Presentation.{Presentation}
use Rattle.model.specs.Reversing.{Finishes, Residuals, CoversSteps, CoversRoom}
use Rattle.model.specs.Equivalence.{Joined}
use Rattle.model.specs.Outcome.{unplaced, Outcome, answered, refused, unless}
use Rattle.model.specs.Checks.{cleared}
use Rattle.model.specs.Services.{Remainder, moves_after, none_after}

-- m finishes the pattern: put after u it makes a word joined to v
abbrev pub Completes : Presentation → Positive → Positive → Positive → Type 0
Completes T u v m = Joined T (u ++ m) v

-- moves or none, or a stop by allowance or memory
pub data Concluded : Outcome (Remainder Positive) → Type 0 where
  concluded : (r : Remainder Positive) → Concluded (answered r)
  by_allowance : Concluded (refused 11 unplaced)
  by_workspace : Concluded (refused 12 unplaced)
  by_area : Concluded (refused 13 unplaced)

-- with so many steps allowed, a workspace of `room` bytes and an answer area of `area` bytes
pub record RemainderMeaning (T : Presentation) (u v : Positive) (budget room area : ℕ) (outcome : Outcome (Remainder Positive)) : Type 0 where
  -- moves are answered only where they finish the pattern,
  pub moves_complete : (m : Positive) (k : ℕ) → outcome ≡ answered (moves_after m k) → Completes T u v m
  -- and they are the residual u\v, with v\u empty, worked out in so many steps
  pub moves_residual : (m : Positive) (k : ℕ) → outcome ≡ answered (moves_after m k) → Finishes T (negative u ++ positive v) m [] k
  -- none is answered only where no moves at all finish it
  pub none_completes : (k : ℕ) → outcome ≡ answered (none_after k) → (m : Positive) → Completes T u v m → ⊥
  -- under a table that clears it is moves, none or a stop,
  pub moves_none_or_stop : cleared T budget room ≡ answered tt → Concluded outcome
  -- and 13 comes only where moves that finish the pattern are known, and are more than the area holds
  pub short_area : cleared T budget room ≡ answered tt → outcome ≡ refused 13 unplaced → (m : Positive) × Completes T u v m × (area < length m)
  -- where some moves finish the pattern, the reversing finishes with an empty denominator,
  pub complement_defined : cleared T budget room ≡ answered tt → (m : Positive) → Completes T u v m → (n : Positive) × Residuals T u v n []
  -- and where allowance and workspace cover it, the answer is its numerator with its steps, or 13
  pub answers_moves : cleared T budget room ≡ answered tt → (m : Positive) → Completes T u v m → (n : Positive) (k : ℕ)
      (run : Finishes T (negative u ++ positive v) n [] k) → CoversSteps budget run → CoversRoom room run
      → outcome ≡ unless (ltb area (length n)) 13 (moves_after n k)
  -- any two ways to finish it are joined to each other
  pub completions_joined : cleared T budget room ≡ answered tt → (m m' : Positive) → Completes T u v m → Completes T u v m' → Joined T m m'
