-- Each leftmost step is a step of Dehornoy's R-reduction ([D1] section 1), which may be taken anywhere in a word.
-- So a reversing that finishes is an R-reduction from its word to the numerator, then the inverse of the denominator, in its number of steps.
-- From where the leftmost site stands (`site_split`). Main names: `reduces`, `finished_reduces`.
use mathlib.Core.Path.{◌≡◌}
use mathlib.Core.List.{◌++◌}
use Prim.Native.Nat.{ℕ}
use Rattle.model.specs.Word.{Word, Positive, positive, negative}
use Rattle.model.specs.Presentation.{Presentation}
use Rattle.model.specs.Reversing.{finished, reversing, Leftmost, Reduces}
use Rattle.model.proofs.Words.{site_split}
use Rattle.model.proofs.Endings.{reversing_finishes}

pub reduces : {T : Presentation} {w w' : Word} {k : ℕ} → Leftmost T w w' k → Reduces T w w' k
reduces Leftmost.stay = Reduces.stay
reduces (Leftmost.go {w} {p} {s} {a} {b} e c l) = Reduces.go p a b s (site_split w e) c (reduces l)

pub finished_reduces : (T : Presentation) (budget room : ℕ) (w : Word) (n d : Positive) (k r : ℕ) → reversing T budget room w ≡ finished n d k r
    → Reduces T w (positive n ++ negative d) k
finished_reduces T budget room w n d k r h = reduces (reversing_finishes T budget room w n d k r h).run
