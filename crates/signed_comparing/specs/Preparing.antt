-- What comes before the two reversings, of a table that was loaded.
use Rattle.std.specs.Prelude.{List, ◌≡◌, ℕ, length, replicate, Result, Ok, Err}
use Rattle.model.specs.Presentation.{Presentation}
use Rattle.model.specs.Enumeration.{triples}
use Rattle.model.specs.Outcome.{Outcome, answered, ◌>>=◌, mapped}
use Rattle.model.specs.Checks.{cube_check, cleared}
use Rattle.model.specs.Mirror.{mirror, mirror_check}
use Rattle.model.specs.Services.{of_mirror}
use Rattle.model.specs.Signed.{grown_set}
use Rattle.model.specs.Areas.{workspace_after}
use Rattle.model.specs.Stated.{cleared_as}
use Rattle.model.specs.declared.answers.Stop.TheVariants.{Budget, Room}
use Rattle.model.specs.declared.answers.Place.TheVariants.{Set}
use Rattle.model.specs.declared.answers.Refusal.{Refusal}
use Rattle.model.specs.declared.answers.Refusal.TheVariants.{AllowanceUsed, WorkspaceShort, SetOpenPair, SetTooLarge}
use Rattle.cells.specs.Stands.{Of}
use Rattle.sets.specs.declared.growing.SetFault.{SetFault}
use Rattle.sets.specs.declared.growing.SetFault.TheVariants.{OpenPair, TooLarge, Stopped}

-- the refusal that each fault is: 21, 22, and 11 and 12 of the set
abbrev pub set_refusal : SetFault → Refusal
set_refusal (OpenPair p) = SetOpenPair p
set_refusal TooLarge = SetTooLarge
set_refusal (Stopped Budget) = AllowanceUsed Set
set_refusal (Stopped Room) = WorkspaceShort Set

abbrev pub grown_refusal : Result (Unit {0}) SetFault → Result (Unit {0}) Refusal
grown_refusal (Ok closed) = Ok closed
grown_refusal (Err f) = Err (set_refusal f)

module _ (T : Presentation) (budget room : ℕ) where
  -- the cube check of the mirror, then the set, of which only is used that it closes
  abbrev pub mirror_then_set : Outcome (Unit {0})
  mirror_then_set = of_mirror (cube_check (mirror T) budget room (triples T.size)) >>= λ ok. mapped (λ vs. tt) (grown_set T budget room)

  -- all that comes before the two reversings
  unfoldable pub prepared : Outcome (Unit {0})
  prepared = mirror_check T >>= λ ok. cleared T budget room >>= λ ok. mirror_then_set

-- under every table that has a mirror, where the cells stand for the table and the others for its mirror; a refusal comes after the work has begun
pub record MirrorThenSet (cells mirrored : List ℕ) (size budget room : ℕ) (r : Result (Unit {0}) Refusal) : Type 0 where
  pub states : (T : Presentation) → Of cells size T → Of mirrored size (mirror T) → cleared_as r ≡ mirror_then_set T budget room
  pub late : (area : List ℕ) → workspace_after (cleared_as r) area ≡ replicate (length area) 0

abbrev pub BothPrepare : List ℕ → List ℕ → ℕ → ℕ → ℕ → Result (Unit {0}) Refusal → Type 0
BothPrepare cells mirrored size budget room r =
    (T : Presentation) → Of cells size T → mirror_check T ≡ answered tt → Of mirrored size (mirror T) → cleared_as r ≡ prepared T budget room

-- under every table that the cells stand for
abbrev pub Prepares : List ℕ → ℕ → ℕ → ℕ → Result (Unit {0}) Refusal → Type 0
Prepares cells size budget room r = (T : Presentation) → Of cells size T → cleared_as r ≡ prepared T budget room
