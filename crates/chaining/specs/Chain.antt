-- What listing a chain after a comparison of two loaded programs comes to.
use Rattle.std.specs.Prelude.{List, ◌≡◌, ℕ, ◌≤◌, length}
use Rattle.std.specs.declared.result.Result.{Result}
use Rattle.model.specs.Word.{Positive}
use Rattle.model.specs.Presentation.{Presentation, weigh}
use Rattle.model.specs.Outcome.{Outcome, answered, refused, ◌>>=◌, mapped}
use Rattle.model.specs.Services.{Verdict, same_after, different_after, read_forward, comparison, chain_bytes, listable, ChainAnswer, listed_after}
use Rattle.model.specs.Services.{unlisted_after}
use Rattle.model.specs.Services.{joins, check, chain, verdict_in}
use Rattle.model.specs.Areas.{begins, Compares, Listed, workspace_after, ChainArea}
use Rattle.model.specs.Stated.{compared}
use Rattle.model.specs.declared.answers.Compared.{Compared}
use Rattle.model.specs.declared.answers.Refusal.{Refusal}
use Rattle.cells.specs.Stands.{Of}
use Rattle.comparing.specs.Compare.{Ended, CompareSays}

-- under every table that the cells stand for: the comparison of the programs in a workspace of so many bytes says `same`, with so many relations
abbrev pub EndsSame : List ℕ → ℕ → List ℕ → List ℕ → ℕ → ℕ → Type 0
EndsSame cells size first second room relations =
    (T : Presentation) → Of cells size T → (u v : Positive) → read_forward size first ≡ answered u → read_forward size second ≡ answered v
    → (budget steps : ℕ) × Ended T u v budget room steps relations

-- a chain between them stands in the answer area, with an entry for each
abbrev pub ProgramsListed : List ℕ → ℕ → List ℕ → List ℕ → ℕ → List ℕ → List ℕ → Type 0
ProgramsListed cells size first second relations before after =
    (T : Presentation) → Of cells size T → (u v : Positive) → read_forward size first ≡ answered u → read_forward size second ≡ answered v
    → Listed T u v relations (chain_bytes T.size relations) before after

-- the answer area: a chain after `same`, else as it was
abbrev pub Area : Presentation → Positive → Positive → List ℕ → List ℕ → Outcome Verdict → Type 0
Area T u v before after (answered (same_after k r)) = Listed T u v r (chain_bytes T.size r) before after
Area T u v before after (answered (different_after k)) = after ≡ before
Area T u v before after (refused n ps) = after ≡ before

pub record ListedAs (T : Presentation) (u v : Positive) (budget room : ℕ) (before after : List ℕ) (r : Result Compared Refusal) : Type 0 where
  pub verdict : compared r ≡ (comparison T u v budget room >>= listable T.size (length before))
  pub area : Area T u v before after (compared r)

pub record Lists (cells : List ℕ) (size : ℕ) (first second : List ℕ) (budget : ℕ) (workspace workspace' before after : List ℕ)
    (r : Result Compared Refusal) : Type 0 where
  pub wiped : workspace' ≡ workspace_after (compared r) workspace
  pub lists : (T : Presentation) → Of cells size T → (u v : Positive) → read_forward size first ≡ answered u → read_forward size second ≡ answered v
      → ListedAs T u v budget (length workspace) before after r

-- the area begins with an image, of so many bytes, that check answers with `joins`, in every workspace of at least the first program's weight in bytes:
-- under a table that clears no word on the way has more letters
pub record JoinsChecked (table first second : List ℕ) (bytes : ℕ) (before after : List ℕ) : Type 0 where
  pub image : List ℕ
  pub long : length image ≡ bytes
  pub written : after ≡ begins image before
  pub joined : (T : Presentation) (u v : Positive) → Compares table first second T u v → (room : ℕ) → weigh T u ≤ room
      → check table first second image room ≡ answered joins

-- what is listed passes check
abbrev pub ListedChecks : List ℕ → List ℕ → List ℕ → List ℕ → List ℕ → Outcome ChainAnswer → Type 0
ListedChecks table first second before after (answered (listed_after k many bytes)) = JoinsChecked table first second bytes before after
ListedChecks table first second before after (answered (unlisted_after k)) = Unit {0}
ListedChecks table first second before after (refused n ps) = Unit {0}

-- THE SERVICE'S PROMISE (6.6): the outcome that is told, the workspace and the listed chain after the call, that the chain checks, and what the verdict means
pub record ChainPromise (table first second : List ℕ) (allowance : ℕ) (workspace workspace' answer answer' : List ℕ) (outcome : Outcome ChainAnswer) : Type 0
  where
    pub stated : outcome ≡ chain table first second allowance (length workspace) (length answer)
    pub workspace_is : workspace' ≡ workspace_after (chain table first second allowance (length workspace) (length answer)) workspace
    pub area : ChainArea table first second answer answer' outcome
    pub checks : ListedChecks table first second answer answer' outcome
    pub meaning : CompareSays table first second allowance (length workspace) (λ T v. listable T.size (length answer) v) (mapped verdict_in outcome)
