-- What following a chain comes to, for every table that the cells stand for and every second word.
use Rattle.std.specs.Prelude.{List, cond, ◌≡◌, ℕ, ◌≤◌, length, Result, Ok, Err}
use Rattle.model.specs.Word.{Positive}
use Rattle.model.specs.Presentation.{Presentation}
use Rattle.model.specs.Equivalence.{Entry, equal}
use Rattle.model.specs.Outcome.{unplaced, Outcome, answered, refused}
use Rattle.model.specs.Images.{read_chain, most_size}
use Rattle.model.specs.Services.{Passage, joins, breaks, ends_elsewhere, followed}
use Rattle.images.specs.Chains.{ChainOf}
use Rattle.images.specs.Programs.{ForwardOf}
use Rattle.cells.specs.Stands.{Of, Sized}
use Rattle.swaps.specs.Held.{held_at, Placed}
use Rattle.engine.specs.declared.gap.Gap.{Gap}
use Rattle.swaps.specs.declared.follow.Unfollowed.{Unfollowed}
use Rattle.swaps.specs.declared.follow.Unfollowed.TheVariants.{Breaks, Short}

pub record Follows (cells : List ℕ) (size : ℕ) (chain : List ℕ) (count : ℕ) (bytes : List ℕ) (left right : ℕ) : Type 0 where
  pub placed : Placed bytes left right
  pub sized : Sized cells size
  pub entries : ChainOf chain size count

-- what is left after following: only the comparison with the second word, or nothing
abbrev pub FollowedAs : List ℕ → (Positive → Outcome Passage) → Result Gap Unfollowed → Type 0
FollowedAs after outcome (Ok g) = Placed after g.left g.right
    × ((v : Positive) → outcome v ≡ answered (cond (equal (held_at after g.left g.right) v) joins ends_elsewhere))
FollowedAs after outcome (Err (Breaks k)) = (v : Positive) → outcome v ≡ answered (breaks k)
FollowedAs after outcome (Err Short) = (v : Positive) → outcome v ≡ refused 12 unplaced

abbrev pub FollowMeans : List ℕ → ℕ → List ℕ → List ℕ → ℕ → ℕ → List ℕ → Result Gap Unfollowed → Type 0
FollowMeans cells size chain before left right after r =
    (T : Presentation) → Of cells size T → (es : List Entry) → read_chain size chain ≡ answered es
    → FollowedAs after (λ v. followed T (length before) 0 (held_at before left right) es v) r

pub record Spells (program : List ℕ) (size count : ℕ) : Type 0 where
  pub some : 1 ≤ size
  pub few : size ≤ most_size
  pub forward : ForwardOf program size count
