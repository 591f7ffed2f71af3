-- What a comparison of two loaded programs comes to, and what its verdict means.
use Rattle.std.specs.Prelude.{List, [], ◌++◌, cond, ◌≡◌, ℕ, eqb, length, Ok, Err}
use Rattle.std.specs.declared.result.Result.{Result}
use Rattle.model.specs.Word.{Positive, positive, negative}
use Rattle.model.specs.Presentation.{Presentation, weigh}
use Rattle.model.specs.Reversing.{finished, reversing}
use Rattle.model.specs.Outcome.{Outcome, answered}
use Rattle.model.specs.Checks.{cleared}
use Rattle.model.specs.Services.{Verdict, read_forward, forward_verdict, comparison, compare}
use Rattle.model.specs.Areas.{Compares, workspace_after}
use Rattle.model.specs.declared.answers.Ending.{Ending}
use Rattle.model.specs.declared.answers.Ending.TheVariants.{Finished, Undefined, Stopped}
use Rattle.model.specs.declared.answers.Compared.{Compared}
use Rattle.model.specs.declared.answers.Compared.TheVariants.{Same, Different}
use Rattle.model.specs.declared.answers.Refusal.{Refusal}
use Rattle.theory.specs.Verdicts.{VerdictMeaning}
use Rattle.cells.specs.Stands.{Of}
use Rattle.model.specs.Stated.{stop_refusal, compared}

-- what an ending is judged, told in numbers
abbrev pub judgement : Ending → Result Compared Refusal
judgement (Finished n d k r) = Ok (cond (eqb n 0) (cond (eqb d 0) (Same k r) (Different k)) (Different k))
judgement (Undefined p k) = Ok (Different k)
judgement (Stopped s) = Err (stop_refusal s)

-- a verdict `same` comes from a reversing that ended empty, after a table that cleared
pub record Ended (T : Presentation) (u v : Positive) (budget room k r : ℕ) : Type 0 where
  pub clear : cleared T budget room ≡ answered tt
  pub same_weight : weigh T u ≡ weigh T v
  pub empty : reversing T budget room (negative u ++ positive v) ≡ finished [] [] k r

abbrev pub EndedIf : Presentation → Positive → Positive → ℕ → ℕ → Result Compared Refusal → Type 0
EndedIf T u v budget room (Ok (Same k r)) = Ended T u v budget room k r
EndedIf T u v budget room (Ok (Different k)) = Unit {0}
EndedIf T u v budget room (Err r) = Unit {0}

pub record Judged (T : Presentation) (u v : Positive) (budget room : ℕ) (r : Result Compared Refusal) : Type 0 where
  pub verdict : compared r ≡ comparison T u v budget room
  pub ended : EndedIf T u v budget room r

pub record Judges (cells : List ℕ) (size : ℕ) (first second : List ℕ) (budget : ℕ) (before after : List ℕ) (r : Result Compared Refusal) : Type 0 where
  pub workspace : after ≡ workspace_after (compared r) before
  pub judged : (T : Presentation) → Of cells size T → (u v : Positive) → read_forward size first ≡ answered u → read_forward size second ≡ answered v
      → Judged T u v budget (length before) r

-- two programs under a table that has cleared: the verdict, and the workspace as it was
pub record Decides (cells : List ℕ) (size : ℕ) (first second : List ℕ) (budget : ℕ) (before after : List ℕ) (r : Result Compared Refusal) : Type 0 where
  pub workspace : after ≡ before
  pub decided : (T : Presentation) → Of cells size T → (u v : Positive) → read_forward size first ≡ answered u → read_forward size second ≡ answered v
      → compared r ≡ forward_verdict T u v budget (length before)

-- WHAT A VERDICT MEANS (specification 6.5), of the programs in the images; `after` is how the service tells a verdict under a table
abbrev pub CompareSays : List ℕ → List ℕ → List ℕ → ℕ → ℕ → (Presentation → Verdict → Outcome Verdict) → Outcome Verdict → Type 0
CompareSays table first second budget room after outcome =
    (T : Presentation) (u v : Positive) → Compares table first second T u v → VerdictMeaning T u v budget room (after T) outcome

-- THE SERVICE'S PROMISE (6.4): the outcome that is told, the workspace after the call, and what the outcome means
pub record ComparePromise (table first second : List ℕ) (allowance : ℕ) (workspace workspace' : List ℕ) (outcome : Outcome Verdict) : Type 0 where
  pub stated : outcome ≡ compare table first second allowance (length workspace)
  pub workspace_is : workspace' ≡ workspace_after (compare table first second allowance (length workspace)) workspace
  pub meaning : CompareSays table first second allowance (length workspace) (λ T v. answered v) outcome
