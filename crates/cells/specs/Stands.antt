-- What cells stand for. A cell's first byte is the length of C(a,b), or 255 where the pair is undefined; the letters of C(a,b) follow it. In the cell of a
-- letter with itself the letter's weight, less 1, follows the length.
use Rattle.std.specs.Prelude.{List, ◌≡◌, ℕ, ◌+◌, ◌^◌, ◌≤◌, ◌<◌, length, get_or}
use Rattle.model.specs.Word.{Word, Positive}
use Rattle.model.specs.Presentation.{Presentation, Complement, undefined, complement, complete}
use Rattle.model.specs.Images.{weight_width, most_size}
use Rattle.model.specs.Range.{InRange, Lettered, WordInRange}
use Rattle.cells.specs.Layout.{cell_bytes, cell_at, weight_at}

-- the cell that begins at a place holds a word, whose letters are among `size`
pub record HoldsWord (size : ℕ) (cells : List ℕ) (cell : ℕ) (x : Positive) : Type 0 where
  pub count : get_or cells cell 0 ≡ length x
  pub letters : (k : ℕ) → k < length x → get_or cells (cell + 1 + k) 0 ≡ get_or x k 0
  pub in_range : WordInRange size x

-- what stands for a length in the cell of an undefined pair
abbrev pub undefined_length : ℕ
undefined_length = 255

-- .. the first word of a pair
abbrev pub HoldsFirst : ℕ → List ℕ → ℕ → Complement → Type 0
HoldsFirst size cells cell undefined = get_or cells cell 0 ≡ undefined_length
HoldsFirst size cells cell (complement x y) = HoldsWord size cells cell x

-- the weights of so many letters, each less 1, stand in their places
pub record HoldsWeights (size : ℕ) (cells excess : List ℕ) : Type 0 where
  pub many : length excess ≡ size
  pub holds : (k : ℕ) → k < length excess → get_or cells (weight_at (1 + k)) 0 ≡ get_or excess k 0
  pub light : (k : ℕ) → k < length excess → get_or excess k 0 < 2 ^ weight_width

-- the cells stand for a presentation: each cell is `complete`, also that of a letter with itself
pub record Stands (cells : List ℕ) (T : Presentation) : Type 0 where
  pub full : length cells ≡ cell_bytes
  pub some : 1 ≤ T.size
  pub few : T.size ≤ most_size
  pub weights : HoldsWeights T.size cells T.excess
  pub cell : (a b : ℕ) → InRange T.size a → InRange T.size b → HoldsFirst T.size cells (cell_at a b) (complete T a b)

-- for one of so many letters
pub record Of (cells : List ℕ) (size : ℕ) (T : Presentation) : Type 0 where
  pub stands : Stands cells T
  pub sized : T.size ≡ size

abbrev pub Sized : List ℕ → ℕ → Type 0
Sized cells size = (T : Presentation) × Of cells size T

-- for one that has every letter of a word
pub record Serves (cells : List ℕ) (word : Word) (T : Presentation) : Type 0 where
  pub stands : Stands cells T
  pub lettered : Lettered T.size word

abbrev pub Ready : List ℕ → Word → Type 0
Ready cells word = (T : Presentation) × Serves cells word T

-- for one that has both letters
pub record Filled (cells : List ℕ) (a b : ℕ) : Type 0 where
  pub table : Presentation
  pub stands : Stands cells table
  pub a_names : InRange table.size a
  pub b_names : InRange table.size b

-- cells that a table can be read into: C(a,a) is empty, and a reader writes no length into the cell of a letter with itself
pub record Blank (cells : List ℕ) : Type 0 where
  pub full : length cells ≡ cell_bytes
  pub diagonal : (a : ℕ) → InRange most_size a → get_or cells (cell_at a a) 0 ≡ 0
