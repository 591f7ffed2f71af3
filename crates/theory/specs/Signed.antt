-- Specification 6.18, as statements: what the reversing of one word's undoing, followed by another word, says of two words of either sign, once the table
-- and its mirror clear and a closed set of words is known; and what the outcome of the whole comparison says of them.
-- The promise of compare_signed cites them. Proved as `signed_meaning` in proofs/Signed.antt and `comparison_signed` in SignedComparison.antt.
-- Main names: `ClosedSet`, `Settles`, `SignedReversings`, `ComparisonSigned`.
use mathlib.Core.List.{List, [], ◌∷◌, ◌++◌, Memᴰ}
use Rattle.std.specs.Prelude.{◌≡◌, ℕ}
use Rattle.model.specs.Word.{Word, Positive, inverse, positive, negative}
use Rattle.model.specs.Presentation.{Presentation}
use Rattle.model.specs.Reversing.{Ending, finished, open_pair, reversing, Residuals, Finishes, EndsEmpty, CoversSteps, CoversRoom}
use Rattle.model.specs.Equivalence.{Joined}
use Rattle.model.specs.Enumeration.{triples}
use Rattle.model.specs.Outcome.{unplaced, Outcome, answered, refused}
use Rattle.model.specs.Range.{All, InRange, Lettered, TableInRange}
use Rattle.model.specs.Checks.{cube_check, cleared}
use Rattle.model.specs.Mirror.{mirror, mirror_check}
use Rattle.model.specs.Services.{of_mirror, mirror_cleared}
use Rattle.model.specs.Signed.{GroupJoined, grown_set, SignedVerdict, same_after_both, different_after_both}

-- a list of words of the table's letters, which has the empty word, each single letter, and u\v for every two words u and v that it has
pub record ClosedSet (T : Presentation) (S : List Positive) : Type 0 where
  pub has_empty : Memᴰ [] S
  pub has_letters : (a : ℕ) → InRange T.size a → Memᴰ (a ∷ []) S
  pub in_letters : (u : Positive) → Memᴰ u S → All (InRange T.size) u
  pub has_complements : (u v : Positive) → Memᴰ u S → Memᴰ v S → (r : Positive) × Memᴰ r S × (d : Positive) × Residuals T u v r d

-- the table clears, and its mirror does, each at some allowance and room; and the set is closed
pub record Settles (T : Presentation) (S : List Positive) : Type 0 where
  pub in_range : TableInRange T
  pub clears : (budget : ℕ) × (room : ℕ) × (cleared T budget room ≡ answered tt)
  pub mirror_clears : (budget : ℕ) × (room : ℕ) × (mirror_cleared T budget room ≡ answered tt)
  pub closed : ClosedSet T S

-- an ending that names no open pair
abbrev pub NotOpen : Ending → Type 0
NotOpen end = (a b k : ℕ) → end ≡ open_pair a b k → ⊥

-- what the reversings say of two words, at every allowance and room
pub record SignedReversings (T : Presentation) (w w' : Word) : Type 0 where
  -- the reversing of the first one's undoing, then the second, meets no open pair,
  pub never_open : (budget room : ℕ) → NotOpen (reversing T budget room (inverse w ++ w'))
  -- nor does that of two words without back letters
  pub forward_never_open : (n d : Positive) → All (InRange T.size) n → All (InRange T.size) d → (budget room : ℕ)
      → NotOpen (reversing T budget room (negative n ++ positive d))
  -- where it finishes, numerator and denominator have letters of the table,
  pub ends_in_letters : (budget room : ℕ) (n d : Positive) (k r : ℕ) → reversing T budget room (inverse w ++ w') ≡ finished n d k r
      → All (InRange T.size) n × All (InRange T.size) d
  -- they are joined if the two words are,
  pub joined_ends : (budget room : ℕ) (n d : Positive) (k r : ℕ) → reversing T budget room (inverse w ++ w') ≡ finished n d k r
      → GroupJoined T w w' → Joined T n d
  -- and only then
  pub ends_joined : (budget room : ℕ) (n d : Positive) (k r : ℕ) → reversing T budget room (inverse w ++ w') ≡ finished n d k r
      → Joined T n d → GroupJoined T w w'

-- words of the table's letters, under a table that settles them
abbrev pub SignedMeaning : Presentation → List Positive → Type 0
SignedMeaning T S = Settles T S → (w w' : Word) → Lettered T.size w → Lettered T.size w' → SignedReversings T w w'

-- THE COMPARISON

-- at this allowance and workspace the table has a mirror and clears, its mirror clears, and the set is grown: what comes before the two reversings
pub record Prepared (T : Presentation) (budget room : ℕ) (S : List Positive) : Type 0 where
  pub has_mirror : mirror_check T ≡ answered tt
  pub clears : cleared T budget room ≡ answered tt
  pub mirror_clears : of_mirror (cube_check (mirror T) budget room (triples T.size)) ≡ answered tt
  pub grown : grown_set T budget room ≡ answered S

-- a verdict, or a stop by allowance or memory that names no place
pub data VerdictOrStop : Outcome SignedVerdict → Type 0 where
  a_verdict : (v : SignedVerdict) → VerdictOrStop (answered v)
  by_allowance : VerdictOrStop (refused 11 unplaced)
  by_memory : VerdictOrStop (refused 12 unplaced)

-- what the outcome of comparing w and v says, with so many steps allowed and a workspace of `room` bytes
pub record ComparisonSigned (T : Presentation) (w v : Word) (budget room : ℕ) (outcome : Outcome SignedVerdict) : Type 0 where
  -- `same` only if a chain of swaps, insertions and removals joins the two words
  pub same_joined : (k j : ℕ) → outcome ≡ answered (same_after_both k j) → GroupJoined T w v
  -- `different` only if none does
  pub different_apart : (k j : ℕ) → outcome ≡ answered (different_after_both k j) → GroupJoined T w v → ⊥
  -- the set that was grown is closed,
  pub closed : (S : List Positive) → grown_set T budget room ≡ answered S → ClosedSet T S
  -- after it the outcome is a verdict or a stop,
  pub verdict_or_stop : (S : List Positive) → Prepared T budget room S → VerdictOrStop outcome
  -- where the table and its mirror clear and a closed set is known, no reversing of two words of the table's letters meets an open pair,
  pub settled : (S : List Positive) → SignedMeaning T S
  -- and so none of these words or of N and D
  pub reversings : (S : List Positive) → Prepared T budget room S → SignedReversings T w v
  -- of joined words the first reversing finishes, with N and D, and the second one, of N's undoing and then D, ends empty;
  pub ends_empty : (S : List Positive) → Prepared T budget room S → GroupJoined T w v
      → (n : Positive) × (d : Positive) × (k : ℕ) × Finishes T (inverse w ++ v) n d k × EndsEmpty T (negative n ++ positive d)
  -- and where allowance and workspace cover both, the answer is `same` with the steps of each
  pub answers_same : (S : List Positive) → Prepared T budget room S
      → (n d : Positive) (k j : ℕ) (first : Finishes T (inverse w ++ v) n d k) (second : Finishes T (negative n ++ positive d) [] [] j)
      → CoversSteps budget first → CoversRoom room first → CoversSteps budget second → CoversRoom room second
      → outcome ≡ answered (same_after_both k j)
