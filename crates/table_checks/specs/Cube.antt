-- What working out one triple of the cube check comes to.
use Rattle.std.specs.Prelude.{List, ◌++◌, Bool, true, false, cond, ◌≡◌, ℕ, ◌+◌, ◌≤◌, eqb, length, take, drop, Result, Ok, Err}
use Rattle.model.specs.Word.{Positive, positive, negative}
use Rattle.model.specs.Presentation.{Presentation}
use Rattle.model.specs.Reversing.{reversing}
use Rattle.model.specs.Checks.{CubeVerdict, holds, fails, halts, empties, side, against, cube_at}
use Rattle.model.specs.Stated.{stop_answer}
use Rattle.model.specs.declared.answers.Ending.{Ending}
use Rattle.model.specs.declared.answers.Ending.TheVariants.{Finished, Undefined, Stopped}
use Rattle.engine.specs.Gap.{letters}
use Rattle.model.specs.Range.{Lettered}
use Rattle.cells.specs.Stands.{Stands, Serves}
use Rattle.model.specs.declared.answers.Triple.{Triple}
use Rattle.table_checks.specs.Residuals.{ResidualAnswer, letters_of, SideWorks}
use Rattle.model.specs.declared.answers.Stop.{Stop}

-- whether the cube rule holds at a triple, or why a reversing was stopped there
abbrev pub CubeAnswer : Type 0
CubeAnswer = Result Bool Stop

-- whether an ending is empty
abbrev pub verdict_of : Ending → CubeAnswer
verdict_of (Finished n d k r) = cond (eqb n 0) (cond (eqb d 0) (Ok true) (Ok false)) (Ok false)
verdict_of (Undefined p k) = Ok false
verdict_of (Stopped s) = Err s

-- the answer that each case of the model's verdict has
abbrev pub cube_answer : CubeVerdict → CubeAnswer
cube_answer holds = Ok true
cube_answer fails = Ok false
cube_answer (halts s) = Err (stop_answer s)

-- L at the workspace's start and R after it
pub record Sides (cells bytes : List ℕ) (left right : ℕ) (T : Presentation) (l r : Positive) : Type 0 where
  pub stands : Stands cells T
  pub l_count : length l ≡ left
  pub r_count : length r ≡ right
  pub l_letters : letters (take left bytes) ≡ positive l
  pub r_letters : letters (take right (drop left bytes)) ≡ positive r
  pub l_named : Lettered T.size (positive l)
  pub r_named : Lettered T.size (positive r)
  pub fit : left + right ≤ length bytes

abbrev pub Ends : List ℕ → List ℕ → ℕ → ℕ → Type 0
Ends cells bytes left right = (T : Presentation) × (l r : Positive) × Sides cells bytes left right T l r

abbrev pub AgreeMeans : List ℕ → List ℕ → ℕ → ℕ → ℕ → CubeAnswer → Type 0
AgreeMeans cells bytes left right budget v =
    (T : Presentation) (l r : Positive) → Sides cells bytes left right T l r
    → v ≡ cube_answer (empties (reversing T budget (length bytes) (negative l ++ positive r)))

-- a side worked out after the first `kept` bytes
pub record RightSide (cells before : List ℕ) (kept : ℕ) (t : Triple) (budget : ℕ) (after : List ℕ) (r : ResidualAnswer) : Type 0 where
  pub same_length : length after ≡ length before
  pub front : take kept after ≡ take kept before
  pub works : SideWorks cells t budget (drop kept after) r

-- the verdict of L, which was worked out in so many bytes, with R
abbrev pub AgainstMeans : List ℕ → ℕ → Triple → ℕ → CubeAnswer → Type 0
AgainstMeans cells room t budget v =
    (T : Presentation) → Serves cells (letters_of t) T → v ≡ cube_answer (against T budget room t.a t.b t.c (side T budget room t.a t.b t.c))

abbrev pub CubeMeans : List ℕ → ℕ → Triple → ℕ → CubeAnswer → Type 0
CubeMeans cells room t budget v =
    (T : Presentation) → Serves cells (letters_of t) T → v ≡ cube_answer (cube_at T budget room (record { a = t.a; b = t.b; c = t.c }))
