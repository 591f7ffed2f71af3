-- What checking a chain between two loaded programs comes to.
use Rattle.std.specs.Prelude.{List, cond, ◌↔◌, ◌≡◌, ℕ, ◌≤◌, length, Ok}
use Rattle.std.specs.declared.result.Result.{Result}
use Rattle.model.specs.Word.{Positive}
use Rattle.model.specs.Presentation.{Presentation}
use Rattle.model.specs.Equivalence.{Entry, equal, Joined}
use Rattle.model.specs.Outcome.{Outcome, answered}
use Rattle.model.specs.Images.{chain_image, read_chain, most_size}
use Rattle.model.specs.Range.{AreBytes, ChainInRange}
use Rattle.model.specs.Services.{Passage, joins, ends_elsewhere, read_forward, followed, passage, check}
use Rattle.model.specs.Areas.{Compares, workspace_after}
use Rattle.model.specs.Stated.{checked}
use Rattle.model.specs.declared.answers.Checked.{Checked}
use Rattle.model.specs.declared.answers.Refusal.{Refusal}
use Rattle.theory.specs.Passages.{Passes}
use Rattle.images.specs.Chains.{ChainOf}
use Rattle.images.specs.Programs.{ForwardOf}
use Rattle.swaps.specs.Held.{held_at, Placed}
use Rattle.cells.specs.Stands.{Of}
use Rattle.loading.specs.Loading.{Forward}

-- a word with a gap, and an accepted forward program
pub record Arrives (bytes : List ℕ) (left right : ℕ) (second : List ℕ) (size count : ℕ) : Type 0 where
  pub some : 1 ≤ size
  pub few : size ≤ most_size
  pub placed : Placed bytes left right
  pub forward : ForwardOf second size count

-- whether the word is the program's
abbrev pub ArrivalMeans : List ℕ → ℕ → ℕ → List ℕ → ℕ → Checked → Type 0
ArrivalMeans bytes left right second size r =
    (v : Positive) → read_forward size second ≡ answered v → checked (Ok r) ≡ answered (cond (equal (held_at bytes left right) v) joins ends_elsewhere)

-- where the entries lead from the word that stands at the area's end
abbrev pub LoadedMeans : List ℕ → ℕ → List ℕ → List ℕ → List ℕ → ℕ → Result Checked Refusal → Type 0
LoadedMeans cells size second entries bytes right r =
    (T : Presentation) → Of cells size T → (v : Positive) → read_forward size second ≡ answered v → (es : List Entry)
    → read_chain size entries ≡ answered es → checked r ≡ followed T (length bytes) 0 (held_at bytes 0 right) es v

pub record ForwardChain (cells : List ℕ) (size : ℕ) (first : List ℕ) (firsts : ℕ) (second : List ℕ) (seconds : ℕ) (entries : List ℕ)
    (entry_count : ℕ) : Type 0 where
  pub forward : Forward cells size first firsts second seconds
  pub chain : ChainOf entries size entry_count

abbrev pub PassageMeans : List ℕ → ℕ → List ℕ → List ℕ → List ℕ → ℕ → Result Checked Refusal → Type 0
PassageMeans cells size first second entries room r =
    (T : Presentation) → Of cells size T → (u v : Positive) → read_forward size first ≡ answered u → read_forward size second ≡ answered v → (es : List Entry)
    → read_chain size entries ≡ answered es → checked r ≡ passage T room u es v

pub record Checks (cells : List ℕ) (size : ℕ) (first second entries before after : List ℕ) (r : Result Checked Refusal) : Type 0 where
  pub wiped : after ≡ workspace_after (checked r) before
  pub passes : PassageMeans cells size first second entries (length before) r

-- what the outcome says of the programs and the chain in the images
pub record CheckSays (table first second entries : List ℕ) (room : ℕ) (outcome : Outcome Passage) : Type 0 where
  -- `joins` only for programs that a chain of swaps joins
  pub joins_joined : outcome ≡ answered joins → (T : Presentation) (u v : Positive) → Compares table first second T u v → Joined T u v
  -- each outcome exactly where the entries lead as it says
  pub exactly : (T : Presentation) (u v : Positive) → Compares table first second T u v → (es : List Entry) → read_chain T.size entries ≡ answered es
      → (o : Outcome Passage) → (outcome ≡ o) ↔ Passes T room u es v o
  -- the image is the only one of its entries, and these are in range
  pub one_image : (T : Presentation) (u v : Positive) → Compares table first second T u v → AreBytes entries → (es : List Entry)
      → read_chain T.size entries ≡ answered es → (entries ≡ chain_image T.size es) × ChainInRange T.size es

-- THE SERVICE'S PROMISE (6.7): the outcome that is told, the workspace after the call, and what the outcome means
pub record CheckPromise (table first second entries workspace workspace' : List ℕ) (outcome : Outcome Passage) : Type 0 where
  pub stated : outcome ≡ check table first second entries (length workspace)
  pub workspace_is : workspace' ≡ workspace_after (check table first second entries (length workspace)) workspace
  pub meaning : CheckSays table first second entries (length workspace) outcome
