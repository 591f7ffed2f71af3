-- The pairs are entered in their order: those of a row, then those of all rows.
use mathlib.Core.Path.{◌≡◌, subst}
use mathlib.Core.Bool.{Bool, true, false}
use mathlib.Core.List.{List, ◌∷◌, ◌++◌}
use Prim.Native.Nat.{ℕ, ◌+◌, ◌≤◌}
use lib.ListN.{length, replicate}
use Rattle.model.specs.Presentation.{Presentation}
use Rattle.model.specs.Range.{InRange}
use Rattle.model.specs.Enumeration.{Two, row, pairs}
use Rattle.model.proofs.Pairs.{pair, row_from, pairs_from, row_some, pairs_some}
use Rattle.cells.specs.Layout.{cell_bytes}
use Rattle.cells.specs.Stands.{undefined_length, Of}
use Rattle.cells.proofs.Rules.{of_range}
use Rattle.std.specs.declared.result.Result.{Result}
use Rattle.std.specs.declared.result.Result.TheVariants.{Ok, Err}
use Rattle.model.specs.declared.answers.Pair.{Pair}
use Rattle.mirrors.specs.Mirror.{Building, EnteredOr, PairDone, BuiltOr, RowDone, RowsDone, WeightsCopied, MirrorDone}
use Rattle.mirrors.proofs.Building.{begun, built}

-- ONE ROW

-- the pairs of a with the letters before b are entered
abbrev pub RowBuilding : List ℕ → ℕ → ℕ → List ℕ → List ℕ → ℕ → Type 0
RowBuilding cells size a before mirror b =
    (T : Presentation) → Of cells size T → (rest : List Two) → Building T before (row size a ++ rest) → Building T mirror (row_from size a b ++ rest)

module _ (cells : List ℕ) (size a : ℕ) (before : List ℕ) where
  module _ (mirror : List ℕ) (b : ℕ) (built : RowBuilding cells size a before mirror b) where
    module _ (ra : InRange size a) (rb : InRange size b) (after : List ℕ) where
      next_pair : (T : Presentation) → Of cells size T → (rest : List Two) → Building T before (row size a ++ rest)
          → Building T mirror (pair a b ∷ (row_from size a (b + 1) ++ rest))
      next_pair T o rest h = subst (λ l. Building T mirror (l ++ rest)) (row_some size a b rb.high) (built T o rest h)

      -- what comes of the pair
      row_next : (r : Bool) → PairDone cells a b mirror after r → (T : Presentation) → Of cells size T → (rest : List Two)
          → Building T before (row size a ++ rest) → EnteredOr T a b (row_from size a (b + 1) ++ rest) after r
      row_next r done T o rest h =
          done T o.stands (of_range o a ra.low ra.high) (of_range o b rb.low rb.high) (row_from size a (b + 1) ++ rest) (next_pair T o rest h)

      pub row_more : PairDone cells a b mirror after true → RowBuilding cells size a before after (b + 1)
      row_more = row_next true

      pub row_offends : PairDone cells a b mirror after false → RowDone cells size a before after (Err (record { a = a; b = b }))
      row_offends = row_next false

-- ALL ROWS

-- the rows before that of a are entered
abbrev pub RowsBuilding : List ℕ → ℕ → List ℕ → List ℕ → ℕ → Type 0
RowsBuilding cells size before mirror a = (T : Presentation) → Of cells size T → Building T before (pairs size) → Building T mirror (pairs_from size a)

module _ (cells : List ℕ) (size : ℕ) (before : List ℕ) where
  module _ (mirror : List ℕ) (a : ℕ) (built : RowsBuilding cells size before mirror a) where
    module _ (named : a ≤ size) (after : List ℕ) where
      -- what comes of the row
      rows_next : (r : Result (Unit {0}) Pair) → RowDone cells size a mirror after r → (T : Presentation) → Of cells size T
          → Building T before (pairs size) → BuiltOr T (pairs_from size (a + 1)) after r
      rows_next r done T o h = done T o (pairs_from size (a + 1)) (subst (Building T mirror) (pairs_some size a named) (built T o h))

      pub rows_more : RowDone cells size a mirror after (Ok tt) → RowsBuilding cells size before after (a + 1)
      rows_more = rows_next (Ok tt)

      pub rows_offend : (p : Pair) → RowDone cells size a mirror after (Err p) → RowsDone cells size before after (Err p)
      rows_offend p = rows_next (Err p)

-- THE WHOLE, from cells where every pair is open

pub table_done : (cells : List ℕ) (size : ℕ) (before mid after : List ℕ) → before ≡ replicate cell_bytes undefined_length → WeightsCopied cells size before mid
    → length after ≡ cell_bytes
    → (r : Result (Unit {0}) Pair) → RowsDone cells size mid after r → MirrorDone cells size after r
table_done cells size before mid after blank copied full (Ok _) done =
    λ T o. built cells size T o after full (done T o (begun cells size T o mid (subst (λ b. WeightsCopied cells size b mid) blank copied)))
table_done cells size before mid after blank copied full (Err p) done =
    λ T o. done T o (begun cells size T o mid (subst (λ b. WeightsCopied cells size b mid) blank copied))
