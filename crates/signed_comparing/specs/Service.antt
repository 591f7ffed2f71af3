-- What the two reversings come to, and what the answer says of the programs in the images.
use Rattle.std.specs.Prelude.{List, ◌≡◌, ℕ, length, Result, Ok, Err}
use Rattle.model.specs.Word.{Word}
use Rattle.model.specs.Presentation.{Presentation}
use Rattle.model.specs.Reversing.{reversing}
use Rattle.model.specs.Outcome.{Outcome, answered}
use Rattle.model.specs.Images.{read_table, read_program}
use Rattle.model.specs.Signed.{SignedVerdict, signed_of, signed_comparison, compare_signed}
use Rattle.model.specs.Areas.{workspace_after}
use Rattle.model.specs.Stated.{compared_signed}
use Rattle.model.specs.declared.answers.Ending.{Ending}
use Rattle.model.specs.declared.answers.Compared.{Compared}
use Rattle.model.specs.declared.answers.Compared.TheVariants.{Same, Different}
use Rattle.model.specs.declared.answers.ComparedSigned.{ComparedSigned}
use Rattle.model.specs.declared.answers.ComparedSigned.TheVariants.{Same as SignedSame, Different as SignedDifferent}
use Rattle.model.specs.declared.answers.Refusal.{Refusal}
use Rattle.theory.specs.Signed.{ComparisonSigned}
use Rattle.cells.specs.Stands.{Stands, Of}
use Rattle.engine.specs.Run.{Reverses}

-- the verdict on N and D, with the steps of the first reversing
abbrev pub after_first_as : ℕ → Result Compared Refusal → Result ComparedSigned Refusal
after_first_as k (Ok (Same j r)) = Ok (SignedSame k j)
after_first_as k (Ok (Different j)) = Ok (SignedDifferent k j)
after_first_as k (Err r) = Err r

-- a reversing under a table in the cells ended so
pub record Ran (cells workspace : List ℕ) (ending : Ending) : Type 0 where
  pub table : Presentation
  pub stands : Stands cells table
  pub word : Word
  pub budget : ℕ
  pub reverses : Reverses table word budget workspace ending

abbrev pub Settles : List ℕ → List ℕ → Ending → ℕ → Result ComparedSigned Refusal → Type 0
Settles cells workspace ending budget r =
    (T : Presentation) → Stands cells T → (word : Word) → Reverses T word budget workspace ending
    → compared_signed r ≡ signed_of T budget (length workspace) (reversing T budget (length workspace) word)

pub record SignedCompared (cells : List ℕ) (size : ℕ) (first second : List ℕ) (budget : ℕ) (before after : List ℕ)
    (r : Result ComparedSigned Refusal) : Type 0 where
  pub workspace : after ≡ workspace_after (compared_signed r) before
  pub states : (T : Presentation) → Of cells size T → (w v : Word) → read_program size first ≡ answered w → read_program size second ≡ answered v
      → compared_signed r ≡ signed_comparison T w v budget (length before)

-- WHAT A VERDICT MEANS (6.18), of the programs in the images
abbrev pub SignedSays : List ℕ → List ℕ → List ℕ → ℕ → ℕ → Outcome SignedVerdict → Type 0
SignedSays table first second budget room outcome =
    (T : Presentation) → read_table table ≡ answered T → (w v : Word) → read_program T.size first ≡ answered w → read_program T.size second ≡ answered v
    → ComparisonSigned T w v budget room outcome

-- THE SERVICE'S PROMISE (6.18): the outcome that is told, the workspace after the call, and what the outcome means
pub record SignedPromise (table first second : List ℕ) (allowance : ℕ) (workspace workspace' : List ℕ) (outcome : Outcome SignedVerdict) : Type 0 where
  pub stated : outcome ≡ compare_signed table first second allowance (length workspace)
  pub workspace_is : workspace' ≡ workspace_after (compare_signed table first second allowance (length workspace)) workspace
  pub meaning : SignedSays table first second allowance (length workspace) outcome
