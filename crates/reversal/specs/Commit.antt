-- What the outcome of commit says of enquire and reverse.
use Rattle.std.specs.Prelude.{List, ◌≡◌, ℕ, ◌+◌, ◌≤◌, length}
use Rattle.model.specs.Outcome.{Outcome, answered, mapped}
use Rattle.model.specs.Services.{Sizes, sizes, reverse, enquire, commit}
use Rattle.model.specs.Areas.{fraction_bytes, output_after, workspace_after}

-- with the numbers of an answered enquiry, and an area as long as both lengths together, commit answers with them, and writes what reverse would write; and
-- whatever it answers, reverse would answer and write
pub record CommitSays (table program : List ℕ) (budget room : ℕ) (z : Sizes) (before after : List ℕ) (told : Outcome Sizes) : Type 0 where
  pub answers : enquire table program budget room ≡ answered z → z.numerator + z.denominator ≤ length before
      → (told ≡ answered z) × (after ≡ output_after fraction_bytes (reverse table program budget room (length before)) before)
  pub as_reverse : (y : Sizes) → told ≡ answered y
      → (mapped sizes (reverse table program budget room (length before)) ≡ answered y)
      × (after ≡ output_after fraction_bytes (reverse table program budget room (length before)) before)

-- THE SERVICE'S PROMISE (6.16): the outcome that is told, both areas after the call, and what the outcome means
pub record CommitPromise (table program : List ℕ) (allowance : ℕ) (numbers : Sizes) (workspace workspace' answer answer' : List ℕ)
    (outcome : Outcome Sizes) : Type 0 where
  pub stated : outcome ≡ mapped sizes (commit table program allowance (length workspace) numbers (length answer))
  pub answer_is : answer' ≡ output_after fraction_bytes (commit table program allowance (length workspace) numbers (length answer)) answer
  pub workspace_is : workspace' ≡ workspace_after (commit table program allowance (length workspace) numbers (length answer)) workspace
  pub meaning : CommitSays table program allowance (length workspace) numbers answer answer' outcome
