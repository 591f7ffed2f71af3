-- The mirror of a table, made in cells: what holds where the relations of some pairs are entered, and that the whole is the table's mirror.
use Rattle.std.specs.Prelude.{List, [], ◌∷◌, ◌++◌, Bool, true, false, ◌≡◌, ◌≢◌, ℕ, length, get_or, Ok, Err}
use Rattle.std.specs.declared.result.Result.{Result}
use Rattle.model.specs.Presentation.{Presentation}
use Rattle.model.specs.Range.{InRange}
use Rattle.model.specs.Enumeration.{Two, row, pairs}
use Rattle.model.specs.Outcome.{pair_of, Outcome, answered, refused}
use Rattle.model.specs.Mirror.{found, backward, mirror, mirrored, mirror_check}
use Rattle.cells.specs.Layout.{Letters, cell_at, weight_at}
use Rattle.cells.specs.Stands.{HoldsFirst, HoldsWeights, Stands, Of}
use Rattle.cells.specs.Kept.{SameCell}
use Rattle.model.specs.declared.answers.Pair.{Pair}

-- refusal 16, with the pair whose relation offends
abbrev pub offended : ℕ → ℕ → Outcome (Unit {0})
offended a b = refused 16 (pair_of a b)

-- the relations of the pairs `earlier` are entered, and none of them offends; those of the pairs `rest` are left
pub record Building (T : Presentation) (cells : List ℕ) (rest : List Two) : Type 0 where
  pub earlier : List Two
  pub split : pairs T.size ≡ earlier ++ rest
  pub checked : mirror_check T ≡ mirrored T earlier rest
  pub weights : HoldsWeights T.size cells T.excess
  pub same : (a : ℕ) → InRange T.size a → get_or cells (cell_at a a) 0 ≡ 0
  pub different : (p q : ℕ) → InRange T.size p → InRange T.size q → p ≢ q → HoldsFirst T.size cells (cell_at p q) (backward (found T p q earlier))

-- ONE PAIR, of every table that the cells stand for and that has both letters

abbrev pub EnteredOr : Presentation → ℕ → ℕ → List Two → List ℕ → Bool → Type 0
EnteredOr T a b rest after true = Building T after rest
EnteredOr T a b rest after false = mirror_check T ≡ offended a b

abbrev pub PairDone : List ℕ → ℕ → ℕ → List ℕ → List ℕ → Bool → Type 0
PairDone cells a b before after r =
    (T : Presentation) → Stands cells T → InRange T.size a → InRange T.size b
    → (rest : List Two) → Building T before (record { a = a; b = b } ∷ rest) → EnteredOr T a b rest after r

-- ROWS OF PAIRS, of every table of so many letters

abbrev pub BuiltOr : Presentation → List Two → List ℕ → Result (Unit {0}) Pair → Type 0
BuiltOr T rest after (Ok _) = Building T after rest
BuiltOr T rest after (Err p) = mirror_check T ≡ offended p.a p.b

abbrev pub RowDone : List ℕ → ℕ → ℕ → List ℕ → List ℕ → Result (Unit {0}) Pair → Type 0
RowDone cells size a before after r =
    (T : Presentation) → Of cells size T → (rest : List Two) → Building T before (row size a ++ rest) → BuiltOr T rest after r

abbrev pub RowsDone : List ℕ → ℕ → List ℕ → List ℕ → Result (Unit {0}) Pair → Type 0
RowsDone cells size before after r = (T : Presentation) → Of cells size T → Building T before (pairs size) → BuiltOr T [] after r

-- WEIGHTS: those of so many letters stand in their places, each letter's own cell is empty, and the other cells are as they were
pub record WeightsCopied (cells : List ℕ) (size : ℕ) (before after : List ℕ) : Type 0 where
  pub same_length : length after ≡ length before
  pub weights : (a : ℕ) → InRange size a → get_or after (weight_at a) 0 ≡ get_or cells (weight_at a) 0
  pub same : (a : ℕ) → InRange size a → get_or after (cell_at a a) 0 ≡ 0
  pub kept : (p q : ℕ) → Letters p q → p ≢ q → SameCell before after p q

-- THE WHOLE: the cells stand for the table's mirror, or the table has none
abbrev pub MirrorDone : List ℕ → ℕ → List ℕ → Result (Unit {0}) Pair → Type 0
MirrorDone cells size after (Ok _) = (T : Presentation) → Of cells size T → (mirror_check T ≡ answered tt) × Of after size (mirror T)
MirrorDone cells size after (Err p) = (T : Presentation) → Of cells size T → mirror_check T ≡ offended p.a p.b
