-- Two programs of any signs, loaded and reversed.
use Rattle.std.specs.Prelude.{List, ◌++◌, ◌≡◌, ℕ, length, drop}
use Rattle.model.specs.Word.{Word, inverse}
use Rattle.model.specs.Presentation.{Presentation}
use Rattle.model.specs.Outcome.{answered}
use Rattle.model.specs.Images.{read_program}
use Rattle.model.specs.declared.answers.Ending.{Ending}
use Rattle.cells.specs.Stands.{Of}
use Rattle.engine.specs.Gap.{letters}
use Rattle.engine.specs.Run.{Reverses}

-- the inverse of the first, then the second, stand from `right` on
pub record LoadsSigned (size : ℕ) (first second : List ℕ) (right : ℕ) (before after : List ℕ) : Type 0 where
  pub same_length : length after ≡ length before
  pub word : (w v : Word) → read_program size first ≡ answered w → read_program size second ≡ answered v → letters (drop right after) ≡ inverse w ++ v

-- their reversing, under every table that the cells stand for
abbrev pub SignedReverses : List ℕ → ℕ → List ℕ → List ℕ → ℕ → List ℕ → Ending → Type 0
SignedReverses cells size first second budget workspace r =
    (T : Presentation) → Of cells size T → (w v : Word) → read_program size first ≡ answered w → read_program size second ≡ answered v
    → Reverses T (inverse w ++ v) budget workspace r
