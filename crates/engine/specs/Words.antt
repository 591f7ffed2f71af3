-- Words that are inverted or moved where they stand.
use Rattle.std.specs.Prelude.{List, ◌≡◌, ℕ, ◌-◌, length, take, drop}
use Rattle.model.specs.Word.{inverse}
use Rattle.engine.specs.Gap.{letters}

-- the first `count` letters are inverted, and no other byte has changed
pub record Inverted (before : List ℕ) (count : ℕ) (after : List ℕ) : Type 0 where
  pub same_length : length after ≡ length before
  pub inverted : letters (take count after) ≡ inverse (letters (take count before))
  pub rest : drop count after ≡ drop count before

-- the word of `count` letters from `from` on stands at the end, and no byte before `from` has changed
pub record Moved (before : List ℕ) (from count : ℕ) (after : List ℕ) : Type 0 where
  pub same_length : length after ≡ length before
  pub moved : letters (drop (length after - count) after) ≡ letters (take count (drop from before))
  pub kept : take from after ≡ take from before
