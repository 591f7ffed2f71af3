-- What reverse writes into the answer area.
use Rattle.std.specs.Prelude.{List, ◌++◌, ◌≡◌, ℕ, length}
use Rattle.model.specs.Word.{Positive, positive, negative}
use Rattle.model.specs.Areas.{begins}
use Rattle.engine.specs.Gap.{letters}

-- where the word is N, of so many letters, then the inverse of D, the area begins with N, then D
abbrev pub FractionWritten : List ℕ → ℕ → List ℕ → List ℕ → Type 0
FractionWritten word n before after = (N D : Positive) → length N ≡ n → letters word ≡ positive N ++ negative D → after ≡ begins (N ++ D) before
