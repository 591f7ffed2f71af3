-- What the two checks of a table say of every presentation of so many letters that the cells stand for.
use Rattle.std.specs.Prelude.{List, [], ◌∷◌, map, Bool, ◌≡◌, ℕ, get_or, Result, Ok, Err}
use Rattle.model.specs.Word.{Positive}
use Rattle.model.specs.Presentation.{Presentation, complement, complete, weigh}
use Rattle.model.specs.Enumeration.{Three, row, pairs, others, triples}
use Rattle.model.specs.Outcome.{Outcome, answered}
use Rattle.model.specs.Checks.{balanced, weight_check, cube_check}
use Rattle.model.specs.Stated.{refusal}
use Rattle.model.specs.declared.answers.Stop.{Stop}
use Rattle.model.specs.declared.answers.Stop.TheVariants.{Budget, Room}
use Rattle.model.specs.declared.answers.Pair.{Pair}
use Rattle.model.specs.declared.answers.Triple.{Triple}
use Rattle.model.specs.declared.answers.Place.TheVariants.{Triple as AtTriple}
use Rattle.model.specs.declared.answers.Refusal.TheVariants.{UnequalWeights, CubeFails, AllowanceUsed, WorkspaceShort}
use Rattle.model.specs.Range.{InRange}
use Rattle.cells.specs.Layout.{cell_at}
use Rattle.cells.specs.Stands.{undefined_length, Of, Serves}
use Rattle.table_checks.specs.Residuals.{letters_of}
use Rattle.table_checks.specs.declared.table.TripleFault.{TripleFault}
use Rattle.table_checks.specs.declared.table.TripleFault.TheVariants.{Fails, Halts}

-- the outcome that each answer states
abbrev pub weights_as : Result (Unit {0}) Pair → Outcome (Unit {0})
weights_as (Ok u) = answered tt
weights_as (Err p) = refusal (UnequalWeights p)

abbrev pub stopped_as : Stop → Triple → Outcome (Unit {0})
stopped_as Budget t = refusal (AllowanceUsed (AtTriple t))
stopped_as Room t = refusal (WorkspaceShort (AtTriple t))

abbrev pub triples_as : Result (Unit {0}) TripleFault → Outcome (Unit {0})
triples_as (Ok u) = answered tt
triples_as (Err (Fails t)) = refusal (CubeFails t)
triples_as (Err (Halts s t)) = stopped_as s t

-- two letters of the table whose pair is not open, by the length in their cell
pub record Related (cells : List ℕ) (size a b : ℕ) : Type 0 where
  pub first : InRange size a
  pub second : InRange size b
  pub defined : get_or cells (cell_at a b) 0 ≡ undefined_length → ⊥

-- the weight of the side that begins with a, under every table that the cells stand for
abbrev pub SideWeighs : List ℕ → ℕ → ℕ → ℕ → ℕ → Type 0
SideWeighs cells size a b r =
    (T : Presentation) → Of cells size T → (x y : Positive) → complete T a b ≡ complement x y → r ≡ weigh T (a ∷ x)

-- whether both sides weigh the same
abbrev pub PairMeans : List ℕ → ℕ → ℕ → ℕ → Bool → Type 0
PairMeans cells size a b r = (T : Presentation) → Of cells size T → r ≡ balanced T a b (complete T a b)

abbrev pub RowMeans : List ℕ → ℕ → ℕ → Result (Unit {0}) Pair → Type 0
RowMeans cells size a r = (T : Presentation) → Of cells size T → weights_as r ≡ weight_check T (row size a)

abbrev pub WeightsMean : List ℕ → ℕ → Result (Unit {0}) Pair → Type 0
WeightsMean cells size r = (T : Presentation) → Of cells size T → weights_as r ≡ weight_check T (pairs size)

-- the triples of a pair with those of some letters that are not its own
abbrev pub triples_with : ℕ → ℕ → List ℕ → List Three
triples_with a b cs = map (λ c. record { a = a; b = b; c = c }) (others a b cs)

-- the cube rule at the triple of a pair and a letter, under every table that has the three
abbrev pub TripleMeans : List ℕ → ℕ → Triple → ℕ → Result (Unit {0}) TripleFault → Type 0
TripleMeans cells room t budget r =
    (T : Presentation) → Serves cells (letters_of t) T → triples_as r ≡ cube_check T budget room (triples_with t.a t.b (t.c ∷ []))

abbrev pub TriplesMean : List ℕ → ℕ → ℕ → ℕ → Result (Unit {0}) TripleFault → Type 0
TriplesMean cells size room budget r = (T : Presentation) → Of cells size T → triples_as r ≡ cube_check T budget room (triples size)
