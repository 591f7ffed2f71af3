-- What working out a residual u\v in the workspace comes to.
use Rattle.std.specs.Prelude.{List, [], ◌∷◌, ◌≡◌, ℕ, length, take, Option, Some, None, Result, Ok, Err}
use Rattle.model.specs.Word.{Word, Positive, positive}
use Rattle.model.specs.Presentation.{Presentation, complement, complete}
use Rattle.model.specs.Checks.{Residual, residual, missing, halted, under, side}
use Rattle.model.specs.Stated.{stop_answer}
use Rattle.model.specs.declared.answers.Ending.{Ending}
use Rattle.model.specs.declared.answers.Ending.TheVariants.{Finished, Undefined, Stopped}
use Rattle.engine.specs.Gap.{letters}
use Rattle.model.specs.Range.{Lettered}
use Rattle.cells.specs.Stands.{Serves}
use Rattle.model.specs.declared.answers.Stop.{Stop}
use Rattle.model.specs.declared.answers.Triple.{Triple}

-- the word's length, or that an undefined pair was met; or why the reversing was stopped
abbrev pub ResidualAnswer : Type 0
ResidualAnswer = Result (Option ℕ) Stop

-- the word of a triple's letters
abbrev pub letters_of : Triple → Word
letters_of t = positive (t.a ∷ t.b ∷ t.c ∷ [])

-- what an ending of a reversing says of the residual
abbrev pub from_ending : Ending → ResidualAnswer
from_ending (Finished n d k r) = Ok (Some n)
from_ending (Undefined p k) = Ok None
from_ending (Stopped s) = Err s

-- the answer that each case of the model's residual has
abbrev pub residual_answer : Residual → ResidualAnswer
residual_answer (residual n) = Ok (Some (length n))
residual_answer missing = Ok None
residual_answer (halted s) = Err (stop_answer s)

-- the workspace begins with the word, and its letters are those of the presentation
pub record Stored (size : ℕ) (n : Positive) (bytes : List ℕ) : Type 0 where
  pub letters_are : letters (take (length n) bytes) ≡ positive n
  pub lettered : Lettered size (positive n)

abbrev pub Stores : ℕ → Residual → List ℕ → Type 0
Stores size (residual n) bytes = Stored size n bytes
Stores size missing bytes = Unit {0}
Stores size (halted s) bytes = Unit {0}

pub record Works (size : ℕ) (m : Residual) (bytes : List ℕ) (r : ResidualAnswer) : Type 0 where
  pub answer : r ≡ residual_answer m
  pub stores : Stores size m bytes

-- under every presentation that the cells serve: a\b in so many bytes, and in the workspace C(a,b)\C(a,c) and (a\b)\(a\c)
abbrev pub LettersMean : List ℕ → ℕ → ℕ → ℕ → ℕ → ResidualAnswer → Type 0
LettersMean cells room a b budget r =
    (T : Presentation) → Serves cells (positive (a ∷ b ∷ [])) T → r ≡ residual_answer (under T budget room (a ∷ []) (b ∷ []))

abbrev pub WordsWork : List ℕ → Triple → ℕ → List ℕ → ResidualAnswer → Type 0
WordsWork cells t budget bytes r =
    (T : Presentation) → Serves cells (letters_of t) T → (x x' y y' : Positive) → complete T t.a t.b ≡ complement x x'
    → complete T t.a t.c ≡ complement y y' → Works T.size (under T budget (length bytes) x y) bytes r

abbrev pub SideWorks : List ℕ → Triple → ℕ → List ℕ → ResidualAnswer → Type 0
SideWorks cells t budget bytes r =
    (T : Presentation) → Serves cells (letters_of t) T → Works T.size (side T budget (length bytes) t.a t.b t.c) bytes r
