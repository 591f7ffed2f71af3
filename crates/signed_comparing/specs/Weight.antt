-- Two words that stand one after the other, and whether they weigh the same.
use Rattle.std.specs.Prelude.{Bool, List, ◌≡◌, ℕ, ◌-◌, ◌≤◌, ◌<◌, eqb, length, take, drop, get_or}
use Rattle.model.specs.Word.{Positive}
use Rattle.model.specs.Presentation.{Presentation, weigh}
use Rattle.model.specs.Range.{All, InRange}
use Rattle.model.specs.Images.{most_size}
use Rattle.cells.specs.Layout.{cell_bytes}
use Rattle.cells.specs.Stands.{Stands}

-- the words u and v of a table in the cells
pub record Stand (cells bytes : List ℕ) (middle end : ℕ) (T : Presentation) (u v : Positive) : Type 0 where
  pub stands : Stands cells T
  pub ordered : middle ≤ end
  pub inside : end ≤ length bytes
  pub u_is : take middle bytes ≡ u
  pub v_is : take (end - middle) (drop middle bytes) ≡ v
  pub u_named : All (InRange T.size) u
  pub v_named : All (InRange T.size) v

abbrev pub TwoWords : List ℕ → List ℕ → ℕ → ℕ → Type 0
TwoWords cells bytes middle end = (T : Presentation) × (u v : Positive) × Stand cells bytes middle end T u v

-- the cells are all there, and a letter that a table can have stands at a place
pub record NextLetter (cells bytes : List ℕ) (place : ℕ) : Type 0 where
  pub full : length cells ≡ cell_bytes
  pub inside : place < length bytes
  pub letter : InRange most_size (get_or bytes place 0)

abbrev pub SameWeight : List ℕ → List ℕ → ℕ → ℕ → Bool → Type 0
SameWeight cells bytes middle end r = (T : Presentation) (u v : Positive) → Stand cells bytes middle end T u v → r ≡ eqb (weigh T u) (weigh T v)
