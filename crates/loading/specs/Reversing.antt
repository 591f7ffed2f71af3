-- Programs laid into the workspace, and their reversing.
use Rattle.std.specs.Prelude.{List, ◌++◌, reverse, Bool, true, false, ◌≡◌, ℕ, ◌-◌, length}
use Rattle.model.specs.Word.{Word, Positive, positive, negative}
use Rattle.model.specs.Presentation.{Presentation}
use Rattle.model.specs.Outcome.{answered}
use Rattle.model.specs.Images.{read_program}
use Rattle.model.specs.Plain.{plain_program}
use Rattle.model.specs.Services.{read_forward}
use Rattle.model.specs.Areas.{written}
use Rattle.model.specs.declared.answers.Ending.{Ending}
use Rattle.engine.specs.Gap.{word_at, Searched}
use Rattle.cells.specs.Stands.{Serves, Of}
use Rattle.engine.specs.Run.{Reverses}

-- a word as it is run: from its end where it is read backward, each letter with its sign
abbrev pub faced : Bool → Word → Word
faced true w = reverse w
faced false w = w

-- the letters of a program stand so from a place of the area on
pub record FacedAtEnd (backward : Bool) (size : ℕ) (program before : List ℕ) (right : ℕ) (after : List ℕ) : Type 0 where
  pub same_length : length after ≡ length before
  pub bytes : (w : Word) → read_program size program ≡ answered w → after ≡ written before right (plain_program (faced backward w))

-- the reversing of a program, under every table that the cells stand for
abbrev pub ProgramReverses : Bool → List ℕ → ℕ → List ℕ → ℕ → List ℕ → Ending → Type 0
ProgramReverses backward cells size program budget workspace r =
    (T : Presentation) → Of cells size T → (w : Word) → read_program size program ≡ answered w → Reverses T (faced backward w) budget workspace r

-- a word stands in the workspace, ready to be reversed
pub record LoadedWord (cells : List ℕ) (T : Presentation) (w : Word) (bytes : List ℕ) (left right : ℕ) : Type 0 where
  pub word : word_at bytes left right ≡ w
  pub searched : Searched bytes left right
  pub serves : Serves cells (word_at bytes left right) T

-- the inverse of the first word and the second word do
abbrev pub LoadedPrograms : List ℕ → Presentation → Positive → Positive → List ℕ → ℕ → ℕ → Type 0
LoadedPrograms cells T u v bytes left right = LoadedWord cells T (negative u ++ positive v) bytes left right

pub record Loads (size : ℕ) (first : List ℕ) (firsts : ℕ) (second : List ℕ) (seconds : ℕ) (before after : List ℕ) : Type 0 where
  pub same_length : length after ≡ length before
  pub loads : (cells : List ℕ) (T : Presentation) → Of cells size T → (u v : Positive) → read_forward size first ≡ answered u
      → read_forward size second ≡ answered v
      → LoadedPrograms cells T u v after firsts (length before - seconds)

-- their reversing
abbrev pub ProgramsReverse : List ℕ → ℕ → List ℕ → List ℕ → ℕ → List ℕ → Ending → Type 0
ProgramsReverse cells size first second budget workspace r =
    (T : Presentation) → Of cells size T → (u v : Positive) → read_forward size first ≡ answered u → read_forward size second ≡ answered v
    → Reverses T (negative u ++ positive v) budget workspace r
