-- The numerator and the denominator of a finished reversing, compared as forward programs.
use Rattle.std.specs.Prelude.{List, ◌++◌, ◌≡◌, ℕ, ◌+◌, ◌≤◌, length, take, Result}
use Rattle.model.specs.Word.{Positive, positive, negative}
use Rattle.model.specs.Presentation.{Presentation}
use Rattle.model.specs.Range.{Lettered}
use Rattle.model.specs.Services.{forward_verdict}
use Rattle.model.specs.Stated.{compared}
use Rattle.model.specs.declared.answers.Compared.{Compared}
use Rattle.model.specs.declared.answers.Refusal.{Refusal}
use Rattle.cells.specs.Stands.{Stands}
use Rattle.engine.specs.Gap.{letters}

-- N, then D's inverse, of a table in the cells, at the workspace's start
pub record Left (cells bytes : List ℕ) (numerator denominator : ℕ) (T : Presentation) (n d : Positive) : Type 0 where
  pub stands : Stands cells T
  pub inside : numerator + denominator ≤ length bytes
  pub n_long : length n ≡ numerator
  pub d_long : length d ≡ denominator
  pub word : letters (take (numerator + denominator) bytes) ≡ positive n ++ negative d
  pub named : Lettered T.size (positive n ++ negative d)

abbrev pub Leaves : List ℕ → List ℕ → ℕ → ℕ → Type 0
Leaves cells bytes numerator denominator = (T : Presentation) × (n d : Positive) × Left cells bytes numerator denominator T n d

abbrev pub FractionCompared : List ℕ → List ℕ → ℕ → ℕ → ℕ → Result Compared Refusal → Type 0
FractionCompared cells bytes numerator denominator budget r =
    (T : Presentation) (n d : Positive) → Left cells bytes numerator denominator T n d → compared r ≡ forward_verdict T n d budget (length bytes)
