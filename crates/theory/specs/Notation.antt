-- Specification 6.17, as statements: the reader reads exactly the texts of trees in range, each as the one tree that is written so.
-- The promise of import cites it. Proved from the definitions alone as `notation_meaning` in proofs/Notation.antt. Main name: `NotationMeaning`.
use Rattle.std.specs.Prelude.{List, ◌≡◌, ℕ, length}
use Rattle.model.specs.Outcome.{Place, unplaced, answered, refused}
use Rattle.model.specs.Notation.{Pattern, most_nested, PatternInRange, meaning, moves, pattern_text, read_text}

pub record NotationMeaning : Type 0 where
  -- written, then read: the same tree
  pub reads_written : (p : Pattern) → PatternInRange p most_nested → read_text (pattern_text p) ≡ answered p
  -- read, then written: the same text, of a tree in range
  pub writes_read : (text : List ℕ) (p : Pattern) → read_text text ≡ answered p → (pattern_text p ≡ text) × PatternInRange p most_nested
  -- so two trees in range with one text are one
  pub one_tree : (p q : Pattern) → PatternInRange p most_nested → PatternInRange q most_nested → pattern_text p ≡ pattern_text q → p ≡ q
  -- every other text is refused with 19, and no tree in range is written so
  pub else_19 : (text : List ℕ) (n : ℕ) (place : Place) → read_text text ≡ refused n place
      → (n ≡ 19) × ((place ≡ unplaced) × ((p : Pattern) → PatternInRange p most_nested → pattern_text p ≡ text → ⊥))
  -- the count of the moves is their number
  pub counted : (p : Pattern) → length (meaning p) ≡ moves p
