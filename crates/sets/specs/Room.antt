-- Two words in the room behind the listed ones, and their reversing there.
use Rattle.std.specs.Prelude.{List, ◌++◌, ◌≡◌, ℕ, ◌+◌, ◌-◌, ◌≤◌, length, take, drop}
use Rattle.model.specs.Word.{Positive, positive, negative}
use Rattle.model.specs.Presentation.{Presentation}
use Rattle.model.specs.Range.{Lettered}
use Rattle.model.specs.declared.answers.Ending.{Ending as EndingAnswer}
use Rattle.engine.specs.Run.{Reverses}
use Rattle.cells.specs.Stands.{Stands}
use Rattle.sets.specs.declared.words.Span.{Span}
use Rattle.sets.specs.Words.{spanned}

-- both words stand in the listing, and fit into the room together
pub record Fit (listing room : List ℕ) (u v : Span) : Type 0 where
  pub u_before : u.at + u.letters ≤ length listing
  pub v_before : v.at + v.letters ≤ length listing
  pub fit : u.letters + v.letters ≤ length room

-- one stands at the room's start and the other at its end
pub record Loaded (listing before : List ℕ) (u v : Span) (after : List ℕ) : Type 0 where
  pub same_length : length after ≡ length before
  pub start : take u.letters after ≡ spanned u listing
  pub end : drop (length after - v.letters) after ≡ spanned v listing

-- the words u and v of a table in the cells stand at a room's start and end
pub record AtEnds (cells room : List ℕ) (left right : ℕ) (T : Presentation) (u v : Positive) : Type 0 where
  pub stands : Stands cells T
  pub fit : left + right ≤ length room
  pub u_is : take left room ≡ u
  pub v_is : drop (length room - right) room ≡ v
  pub u_named : Lettered T.size (positive u)
  pub v_named : Lettered T.size (positive v)

abbrev pub PairAtEnds : List ℕ → List ℕ → ℕ → ℕ → Type 0
PairAtEnds cells room left right = (T : Presentation) × (u v : Positive) × AtEnds cells room left right T u v

-- the inverse of u, then v, was reversed
abbrev pub PairReverses : List ℕ → List ℕ → ℕ → ℕ → ℕ → List ℕ → EndingAnswer → Type 0
PairReverses cells room left right budget after r =
    (T : Presentation) (u v : Positive) → AtEnds cells room left right T u v → Reverses T (negative u ++ positive v) budget after r
