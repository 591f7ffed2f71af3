-- Where the cells of a table lie, one for each two letters a, b. C(a,a) is empty, so that the cell of a letter with itself has
-- room for the letter's weight behind its length.
use Rattle.std.specs.Prelude.{ℕ, ◌+◌, ◌-◌, ◌*◌}
use Rattle.model.specs.Range.{InRange}
use Rattle.model.specs.Images.{most_size, word_lengths}

-- how many bytes a cell has: a length, and the letters of a completion
abbrev pub cell_length : ℕ
cell_length = word_lengths

-- how many bytes all cells have
abbrev pub cell_bytes : ℕ
cell_bytes = most_size * most_size * cell_length

-- two letters that a table can have
abbrev pub Letters : ℕ → ℕ → Type 0
Letters a b = InRange most_size a × InRange most_size b

-- where the cell of a, b begins
abbrev pub cell_at : ℕ → ℕ → ℕ
cell_at a b = ((a - 1) * most_size + (b - 1)) * cell_length

-- where the weight of a lies
abbrev pub weight_at : ℕ → ℕ
weight_at a = cell_at a a + 1
