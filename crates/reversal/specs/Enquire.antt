-- What enquire makes of an ending, and what its answer says of reverse and commit.
use Rattle.std.specs.Prelude.{List, ◌≡◌, ℕ, ◌+◌, ◌≤◌, ◌<◌, length, Ok, Err}
use Rattle.std.specs.declared.result.Result.{Result}
use Rattle.model.specs.Outcome.{Place, unplaced, Outcome, answered, refused}
use Rattle.model.specs.Services.{Sizes, sizes, Fraction, reverse, commit, enquire}
use Rattle.model.specs.Stated.{stop_refusal}
use Rattle.model.specs.declared.answers.Ending.{Ending}
use Rattle.model.specs.declared.answers.Ending.TheVariants.{Finished, Undefined, Stopped}
use Rattle.model.specs.declared.answers.Refusal.TheVariants.{OpenPair}
use Rattle.model.specs.declared.answers.Reversed.{Reversed}
use Rattle.model.specs.declared.answers.Refusal.{Refusal}
use Rattle.model.specs.Areas.{workspace_after}

-- the answer that an ending is
abbrev pub sizes_told : Ending → Result Reversed Refusal
sizes_told (Finished n d k r) = Ok (record { numerator = n; denominator = d; steps = k })
sizes_told (Undefined p k) = Err (OpenPair p)
sizes_told (Stopped s) = Err (stop_refusal s)

-- what an enquiry says of reverse, and of commit with numbers handed in, in an answer area of `area` bytes
pub record Foretells (told : Outcome Sizes) (area : ℕ) (reversing : Outcome Fraction) (committing : Sizes → Outcome Fraction) : Type 0 where
  -- where both lengths fit the area, both answer with the same words, whose sizes are the enquiry's
  pub answers : (z : Sizes) → told ≡ answered z → z.numerator + z.denominator ≤ area
      → (f : Fraction) × (sizes f ≡ z) × (reversing ≡ answered f) × (committing z ≡ answered f)
  -- where they do not, both are refused with 13
  pub short_area : (z : Sizes) → told ≡ answered z → area < z.numerator + z.denominator → (reversing ≡ refused 13 unplaced)
      × (committing z ≡ refused 13 unplaced)
  -- what refuses the enquiry refuses both, whatever is handed in
  pub refuses : (n : ℕ) (place : Place) → told ≡ refused n place → (reversing ≡ refused n place) × ((z : Sizes) → committing z ≡ refused n place)

-- WHAT AN ANSWER MEANS (specification 6.15): what was told, of the same images, allowance and workspace, and of every answer area
abbrev pub EnquireSays : List ℕ → List ℕ → ℕ → ℕ → Outcome Sizes → Type 0
EnquireSays table program budget room told =
    (area : ℕ) → Foretells told area (reverse table program budget room area) (λ z. commit table program budget room z area)

-- THE SERVICE'S PROMISE (6.15): the outcome that is told, the workspace after the call, and what the outcome means
pub record EnquirePromise (table program : List ℕ) (allowance : ℕ) (workspace workspace' : List ℕ) (outcome : Outcome Sizes) : Type 0 where
  pub stated : outcome ≡ enquire table program allowance (length workspace)
  pub workspace_is : workspace' ≡ workspace_after (enquire table program allowance (length workspace)) workspace
  pub meaning : EnquireSays table program allowance (length workspace) outcome
