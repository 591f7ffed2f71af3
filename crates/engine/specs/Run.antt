-- What a whole reversing in the workspace comes to.
use Rattle.std.specs.Prelude.{List, ◌++◌, ◌≡◌, ℕ, ◌+◌, ◌-◌, ◌≤◌, length, take}
use Rattle.model.specs.Word.{Word, positive, negative, forwards}
use Rattle.model.specs.Presentation.{Presentation}
use Rattle.model.specs.Reversing.{Ending, finished, open_pair, stopped, reversing}
use Rattle.model.specs.Stated.{ending_answer}
use Rattle.model.specs.declared.answers.Ending.{Ending as EndingAnswer}
use Rattle.model.specs.declared.answers.Ending.TheVariants.{Finished, Undefined, Stopped}
use Rattle.engine.specs.Gap.{letters}
use Rattle.model.specs.Range.{Lettered}
use Rattle.cells.specs.Stands.{Serves}

-- the ending of a word without a site, in the first bytes of the workspace: as many letters of the numerator as are forward
abbrev pub finished_at : List ℕ → ℕ → ℕ → ℕ → EndingAnswer
finished_at bytes end steps relations =
    Finished (length (forwards (letters (take end bytes)))) (end - length (forwards (letters (take end bytes)))) steps relations

-- what the workspace begins with where a reversing finished: the numerator, then the inverse of the denominator
abbrev pub LeavesWord : Ending → List ℕ → Type 0
LeavesWord (finished n d k r) bytes = letters (take (length n + length d) bytes) ≡ positive n ++ negative d
LeavesWord (open_pair a b k) bytes = Unit {0}
LeavesWord (stopped s) bytes = Unit {0}

-- and its letters are those of the presentation
abbrev pub LeavesLetters : ℕ → Ending → Type 0
LeavesLetters size (finished n d k r) = Lettered size (positive n ++ negative d)
LeavesLetters size (open_pair a b k) = Unit {0}
LeavesLetters size (stopped s) = Unit {0}

pub record Reverses (T : Presentation) (word : Word) (budget : ℕ) (bytes : List ℕ) (r : EndingAnswer) : Type 0 where
  pub answer : r ≡ ending_answer (reversing T budget (length bytes) word)
  pub holds : LeavesWord (reversing T budget (length bytes) word) bytes
  pub named : LeavesLetters T.size (reversing T budget (length bytes) word)

-- under every presentation that the cells serve
abbrev pub RunMeans : List ℕ → Word → ℕ → List ℕ → EndingAnswer → Type 0
RunMeans cells word budget bytes r = (T : Presentation) → Serves cells word T → Reverses T word budget bytes r

-- a finished word lies within the workspace
abbrev pub Finishable : List ℕ → EndingAnswer → Type 0
Finishable workspace (Finished n d k r) = n + d ≤ length workspace
Finishable workspace (Undefined p k) = Unit {0}
Finishable workspace (Stopped s) = Unit {0}
