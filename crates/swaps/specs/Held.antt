-- A positive word in an area with a gap, by the numbers of its letters.
use Rattle.std.specs.Prelude.{List, ◌++◌, ◌≡◌, ℕ, ◌≤◌, length, take, drop}
use Rattle.model.specs.Word.{Positive}

unfoldable pub held_at : List ℕ → ℕ → ℕ → Positive
held_at bytes left right = take left bytes ++ drop right bytes

pub record Placed (bytes : List ℕ) (left right : ℕ) : Type 0 where
  pub ordered : left ≤ right
  pub inside : right ≤ length bytes

-- the gap stands between `to` and `right'`, and the word is as it was
pub record Carried (before : List ℕ) (left right to : ℕ) (after : List ℕ) (right' : ℕ) : Type 0 where
  pub same_length : length after ≡ length before
  pub placed : Placed after to right'
  pub word : held_at after to right' ≡ held_at before left right
