-- Specification 6.14, as statements: what the listing of all words joined to a program says, and that nothing else says it.
-- The promise of ways cites them. Proved as `listing_meaning` and `words_in_order` in proofs/Ways.antt, from the definitions and the norm of [D1] Lemma 1.4.
-- Main names: `Lists`, `ListingMeaning`, `WordsInOrder`.
use mathlib.Core.List.{List, [], ◌++◌, Memᴰ}
use Rattle.std.specs.Prelude.{◌⊎◌, true, ◌≡◌}
use Rattle.model.specs.Word.{Positive}
use Rattle.model.specs.Presentation.{Presentation}
use Rattle.model.specs.Equivalence.{Joined}
use Rattle.model.specs.Enumeration.{pairs}
use Rattle.model.specs.Outcome.{answered}
use Rattle.model.specs.Checks.{weight_check}
use Rattle.model.specs.Range.{All, InRange, TableInRange}
use Rattle.model.specs.Ways.{earlier, Ordered, listing}

-- the words joined to u, each once, in order
pub record Lists (T : Presentation) (u : Positive) (vs : List Positive) : Type 0 where
  pub ordered : Ordered vs
  pub joined : (w : Positive) → Memᴰ w vs → Joined T u w
  pub every : (w : Positive) → Joined T u w → Memᴰ w vs

-- a table that passes the weight check, as it is read from an image, and a program of its letters
pub record Weighed (T : Presentation) (u : Positive) : Type 0 where
  pub in_range : TableInRange T
  pub letters : All (InRange T.size) u
  pub even : weight_check T (pairs T.size) ≡ answered tt

-- the listing is such a list, and the only one
pub record ListingMeaning (T : Presentation) (u : Positive) : Type 0 where
  pub lists : Lists T u (listing T u)
  pub only : (vs : List Positive) → Lists T u vs → vs ≡ listing T u

-- after the weight check no word joined to another begins it, so that of two different ones one comes first
pub record WordsInOrder (T : Presentation) : Type 0 where
  pub no_beginning : (u v rest : Positive) → Joined T u v → v ≡ u ++ rest → rest ≡ []
  pub one_first : (u v : Positive) → Joined T u v → (u ≡ v) ⊎ ((earlier u v ≡ true) ⊎ (earlier v u ≡ true))
