-- What cells hold when they are written out: something, under a table of so many letters.
use Rattle.std.specs.Prelude.{List, ◌≡◌, ℕ, ◌+◌, ◌≤◌, length}
use Rattle.model.specs.Word.{Positive}
use Rattle.model.specs.Presentation.{Complement}
use Rattle.model.specs.Images.{most_size}
use Rattle.cells.specs.Stands.{HoldsWord, HoldsWeights}
use Rattle.cells.specs.Kept.{HoldsPair}
use Rattle.images.specs.Tables.{HoldsRow, RowsHeld}

-- a cell holds some word
pub record HoldsSomeWord (size : ℕ) (cells : List ℕ) (cell : ℕ) : Type 0 where
  pub word : Positive
  pub holds : HoldsWord size cells cell word

-- the cells of two letters hold some pair
pub record HoldsSomePair (size : ℕ) (cells : List ℕ) (a b : ℕ) : Type 0 where
  pub pair : Complement
  pub holds : HoldsPair size cells a b pair

-- the cells of a with the letters after it hold some row
pub record HoldsSomeRow (size : ℕ) (cells : List ℕ) (a : ℕ) : Type 0 where
  pub positive : 1 ≤ a
  pub below : a ≤ size
  pub few : size ≤ most_size
  pub row : List Complement
  pub row_length : length row + a ≡ size
  pub holds : HoldsRow size cells a row

-- the cells hold some table of so many letters
pub record HoldsSomeTable (size : ℕ) (cells : List ℕ) : Type 0 where
  pub some : 1 ≤ size
  pub few : size ≤ most_size
  pub excess : List ℕ
  pub weights : HoldsWeights size cells excess
  pub rows : List (List Complement)
  pub listed : RowsHeld size cells rows
