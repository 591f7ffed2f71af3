-- What the functions of src/ promise: a text appended to an output area at a position.
use Rattle.std.specs.Prelude.{List, ◌++◌, ◌≡◌, ℕ, ◌+◌, ◌≤◌, length, take}

-- up to the next position the area is what it was up to the first, then the text, which has at most `most` bytes
pub record Put (most : ℕ) (before : List ℕ) (at : ℕ) (text after : List ℕ) (next : ℕ) : Type 0 where
  pub near : next ≤ at + most
  pub same_length : length after ≡ length before
  pub appended : take next after ≡ take at before ++ text
