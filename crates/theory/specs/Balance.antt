-- Specification 4.2: what the weight check says of every word of a reversing: forward weight less back weight is the same at each.
-- The promise of clear cites it. Proved in proofs/Balance.antt as `weight_balanced` and `weight_meaning`, after the norm of [D1] Lemma 1.4.
-- Main names: `Balanced`, `WeightMeaning`.
use Rattle.std.specs.Prelude.{◌++◌, ◌≡◌, ℕ, ◌+◌}
use Rattle.model.specs.Word.{Word, Positive, positive, negative, forwards, backs}
use Rattle.model.specs.Presentation.{Presentation, weigh}
use Rattle.model.specs.Reversing.{Reduces, Finishes}
use Rattle.model.specs.Outcome.{Place, Outcome, refused}

-- the weight of the forward letters less that of the back letters is the same number at both words
abbrev pub SameBalance : Presentation → Word → Word → Type 0
SameBalance T w w' = weigh T (forwards w) + weigh T (backs w') ≡ weigh T (forwards w') + weigh T (backs w)

pub record Balanced (T : Presentation) : Type 0 where
  -- at each word that steps come to, in whatever order they are taken
  pub kept : (w w' : Word) (k : ℕ) → Reduces T w w' k → SameBalance T w w'
  -- so that words of equal weight end with a numerator and a denominator of equal weight
  pub equal_ends : (u v n d : Positive) (k : ℕ) → weigh T u ≡ weigh T v → Finishes T (negative u ++ positive v) n d k → weigh T n ≡ weigh T d

-- clearing a table: wherever it does not refuse with 8, reversing under the table keeps the balance
abbrev pub WeightMeaning : Presentation → Outcome (Unit {0}) → Type 0
WeightMeaning T outcome = ((place : Place) → outcome ≡ refused 8 place → ⊥) → Balanced T
