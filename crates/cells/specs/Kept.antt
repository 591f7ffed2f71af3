-- What stays of the cells where some of them are written, and what the two cells of a pair hold.
use Rattle.std.specs.Prelude.{List, ◌≡◌, ◌⊎◌, ℕ, ◌+◌, ◌≤◌, ◌<◌, get_or}
use Rattle.model.specs.Presentation.{Complement, swapped}
use Rattle.cells.specs.Layout.{Letters, cell_at, cell_length}
use Rattle.cells.specs.Stands.{HoldsFirst}

-- every byte outside the cell that begins at a place is as it was
abbrev pub KeptOutside : List ℕ → ℕ → List ℕ → Type 0
KeptOutside before cell after = (i : ℕ) → (i < cell) ⊎ (cell + cell_length ≤ i) → get_or after i 0 ≡ get_or before i 0

-- the cell of two letters is as it was
abbrev pub SameCell : List ℕ → List ℕ → ℕ → ℕ → Type 0
SameCell before after p q = (k : ℕ) → k < cell_length → get_or after (cell_at p q + k) 0 ≡ get_or before (cell_at p q + k) 0

-- the pair a, b stands in the cells of a, b and of b, a
pub record HoldsPair (size : ℕ) (cells : List ℕ) (a b : ℕ) (pair : Complement) : Type 0 where
  pub there : HoldsFirst size cells (cell_at a b) pair
  pub back : HoldsFirst size cells (cell_at b a) (swapped pair)

-- every cell but those of a, b and of b, a is as it was
abbrev pub KeptPair : List ℕ → ℕ → ℕ → List ℕ → Type 0
KeptPair before a b after = (p q : ℕ) → Letters p q → ((p ≡ a) × (q ≡ b) → ⊥) → ((p ≡ b) × (q ≡ a) → ⊥) → SameCell before after p q
