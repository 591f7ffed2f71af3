-- What remainder makes of an ending and of two loaded programs, and what its answer means.
use Rattle.std.specs.Prelude.{List, ◌≡◌, ℕ, length, take}
use Rattle.std.specs.declared.result.Result.{Result}
use Rattle.model.specs.Word.{Word, Positive}
use Rattle.model.specs.Presentation.{Presentation}
use Rattle.model.specs.Reversing.{reversing}
use Rattle.model.specs.Outcome.{Outcome, answered, mapped}
use Rattle.model.specs.Services.{Remainder, moves_after, none_after, remainder_of, finishing, read_forward, remainder}
use Rattle.model.specs.Areas.{Compares, remainder_bytes, output_after, workspace_after}
use Rattle.model.specs.Stated.{counted, remaining}
use Rattle.model.specs.declared.answers.Ending.{Ending}
use Rattle.model.specs.declared.answers.Remaining.{Remaining}
use Rattle.model.specs.declared.answers.Refusal.{Refusal}
use Rattle.theory.specs.Remainders.{RemainderMeaning}
use Rattle.engine.specs.Run.{Reverses}
use Rattle.cells.specs.Stands.{Of}

-- the result and the answer area that an outcome states
pub record States (outcome : Outcome (Remainder Positive)) (before after : List ℕ) (r : Result Remaining Refusal) : Type 0 where
  pub result : remaining r ≡ mapped counted outcome
  pub area : after ≡ output_after remainder_bytes outcome before

abbrev pub AnswerOf : Ending → List ℕ → List ℕ → List ℕ → Result Remaining Refusal → Type 0
AnswerOf ending workspace before after r =
    (T : Presentation) (word : Word) (budget : ℕ) → Reverses T word budget workspace ending
    → States (remainder_of (length before) (reversing T budget (length workspace) word)) before after r

-- two loaded programs, under every table that the cells stand for
pub record Concludes (cells : List ℕ) (size : ℕ) (done pattern : List ℕ) (budget : ℕ) (workspace workspace' before after : List ℕ)
    (r : Result Remaining Refusal) : Type 0 where
  pub workspace_left : workspace' ≡ workspace_after (remaining r) workspace
  pub states : (T : Presentation) → Of cells size T → (u v : Positive) → read_forward size done ≡ answered u → read_forward size pattern ≡ answered v
      → States (finishing T u v budget (length workspace) (length before)) before after r

-- the moves as they stand in the answer area, by the number that was told
abbrev pub moves_left : List ℕ → Remainder ℕ → Remainder Positive
moves_left area (moves_after n k) = moves_after (take n area) k
moves_left area (none_after k) = none_after k

-- WHAT AN ANSWER MEANS (specification 6.10): what was told and written into an area of `area` bytes, of the table and the programs in the images
abbrev pub RemainderSays : List ℕ → List ℕ → List ℕ → ℕ → ℕ → ℕ → Outcome (Remainder ℕ) → List ℕ → Type 0
RemainderSays table done pattern budget room area told left =
    (T : Presentation) (u v : Positive) → Compares table done pattern T u v → RemainderMeaning T u v budget room area (mapped (moves_left left) told)

-- THE SERVICE'S PROMISE (6.10): the outcome that is told, both areas after the call, and what the outcome means
pub record RemainderPromise (table done pattern : List ℕ) (allowance : ℕ) (workspace workspace' answer answer' : List ℕ)
    (outcome : Outcome (Remainder ℕ)) : Type 0 where
  pub stated : outcome ≡ mapped counted (remainder table done pattern allowance (length workspace) (length answer))
  pub answer_is : answer' ≡ output_after remainder_bytes (remainder table done pattern allowance (length workspace) (length answer)) answer
  pub workspace_is : workspace' ≡ workspace_after (remainder table done pattern allowance (length workspace) (length answer)) workspace
  pub meaning : RemainderSays table done pattern allowance (length workspace) (length answer) outcome answer'
