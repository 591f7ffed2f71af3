-- The side of a relation that is a followed by the word of a cell: its last letter, and what stands before that, written backward into another cell.
use Rattle.std.specs.Prelude.{List, reverse, ◌≡◌, ℕ, ◌+◌, ◌≤◌, length, get_or}
use Rattle.model.specs.Word.{Positive}
use Rattle.model.specs.Range.{InRange}
use Rattle.model.specs.Mirror.{from_end}
use Rattle.model.specs.Images.{most_length}
use Rattle.cells.specs.Stands.{HoldsWord}
use Rattle.cells.specs.Kept.{KeptOutside}
use Rattle.cells.specs.Layout.{cell_length}

-- the cell has a word's length, and lies inside
pub record Short (cells : List ℕ) (cell : ℕ) : Type 0 where
  pub inside : cell + cell_length ≤ length cells
  pub few : get_or cells cell 0 ≤ most_length

-- the last letter, whatever word the cell holds
abbrev pub EndsIn : List ℕ → ℕ → ℕ → ℕ → Type 0
EndsIn cells a cell r = (size : ℕ) (x : Positive) → HoldsWord size cells cell x → r ≡ (from_end a x).last

-- what stands before it, read backward, stands in the other cell
pub record PutBackward (cells : List ℕ) (a cell : ℕ) (before : List ℕ) (to : ℕ) (after : List ℕ) : Type 0 where
  pub same_length : length after ≡ length before
  pub kept : KeptOutside before to after
  pub holds : (size : ℕ) (x : Positive) → InRange size a → HoldsWord size cells cell x → HoldsWord size after to (reverse (from_end a x).before)
