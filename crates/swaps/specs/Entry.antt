-- What an entry of a chain makes of the word in the area.
use Rattle.std.specs.Prelude.{List, ◌∷◌, ◌++◌, ◌≡◌, ℕ, ◌<◌, length, take, drop, get_or, Result, Ok, Err}
use Rattle.std.proofs.Math.Option.{none, some}
use Rattle.model.specs.Word.{Positive}
use Rattle.model.specs.Presentation.{Presentation}
use Rattle.model.specs.Equivalence.{Entry, applied}
use Rattle.model.specs.Range.{InRange}
use Rattle.cells.specs.Layout.{cell_at}
use Rattle.cells.specs.Stands.{undefined_length, Stands, Of, Sized, Filled}
use Rattle.swaps.specs.Held.{held_at, Placed}
use Rattle.engine.specs.declared.gap.Gap.{Gap}
use Rattle.swaps.specs.declared.entry.Unfit.{Unfit}
use Rattle.swaps.specs.declared.entry.Unfit.TheVariants.{Breaks, Short}

-- the word is in the area
pub record WordHeld (word : Positive) (bytes : List ℕ) (left right : ℕ) : Type 0 where
  pub placed : Placed bytes left right
  pub word_is : held_at bytes left right ≡ word

-- the letters before `left`, then b and a word, then those from `end` on
abbrev pub ReplaceMeans : List ℕ → ℕ → ℕ → ℕ → Positive → List ℕ → Result Gap Unfit → Type 0
ReplaceMeans before left end b word after (Ok g) = WordHeld (take left before ++ ((b ∷ word) ++ drop end before)) after g.left g.right
ReplaceMeans before left end b word after (Err Breaks) = ⊥
ReplaceMeans before left end b word after (Err Short) = length before < length (take left before ++ ((b ∷ word) ++ drop end before))

pub record Applies (cells : List ℕ) (size : ℕ) (bytes : List ℕ) (left right : ℕ) (e : Entry) : Type 0 where
  pub placed : Placed bytes left right
  pub sized : Sized cells size
  pub a_names : InRange size e.a
  pub b_names : InRange size e.b

-- the word that the entry leads to is longer than the area
pub record Outgrows (T : Presentation) (word : Positive) (e : Entry) (width : ℕ) : Type 0 where
  pub longer : Positive
  pub leads : applied T word e ≡ some longer
  pub long : width < length longer

pub record Leads-to (T : Presentation) (word : Positive) (e : Entry) (bytes : List ℕ) (left right : ℕ) : Type 0 where
  pub placed : Placed bytes left right
  pub leads : applied T word e ≡ some (held_at bytes left right)

abbrev pub AppliedAs : Presentation → Positive → Entry → List ℕ → Result Gap Unfit → Type 0
AppliedAs T word e after (Ok g) = Leads-to T word e after g.left g.right
AppliedAs T word e after (Err Breaks) = applied T word e ≡ none
AppliedAs T word e after (Err Short) = Outgrows T word e (length after)

-- a word in the area, and two letters of a table in the cells that have a relation
pub record Exchanges (cells bytes : List ℕ) (left right a b : ℕ) : Type 0 where
  pub placed : Placed bytes left right
  pub filled : Filled cells a b
  pub apart : a ≡ b → ⊥
  pub defined : get_or cells (cell_at a b) 0 ≡ undefined_length → ⊥

-- for every such table the outcome is that of the entry of the letters at the gap
abbrev pub ExchangeMeans : List ℕ → List ℕ → ℕ → ℕ → ℕ → ℕ → List ℕ → Result Gap Unfit → Type 0
ExchangeMeans cells before left right a b after r =
    (T : Presentation) → Stands cells T → InRange T.size a → InRange T.size b
    → AppliedAs T (held_at before left right) (record { offset = left; a = a; b = b }) after r

abbrev pub ApplyMeans : List ℕ → ℕ → List ℕ → ℕ → ℕ → Entry → List ℕ → Result Gap Unfit → Type 0
ApplyMeans cells size before left right e after r = (T : Presentation) → Of cells size T → AppliedAs T (held_at before left right) e after r
