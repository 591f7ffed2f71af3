-- What an answer of bed says of the table and the program in the images.
use Rattle.std.specs.Prelude.{List, ◌≡◌, ℕ, take, length}
use Rattle.model.specs.Word.{Word}
use Rattle.model.specs.Presentation.{Presentation}
use Rattle.model.specs.Outcome.{Outcome, answered, mapped}
use Rattle.model.specs.Images.{read_table, read_program}
use Rattle.theory.specs.Beds.{BedMeaning}
use Rattle.model.specs.Areas.{output_after}
use Rattle.model.specs.Bed.{bed}

-- of the bytes that were told to be written, as they stand in the area
abbrev pub BedSays : List ℕ → List ℕ → ℕ → Outcome ℕ → List ℕ → Type 0
BedSays table program moves told area =
    (T : Presentation) → read_table table ≡ answered T → (w : Word) → read_program T.size program ≡ answered w
    → (bytes : ℕ) → told ≡ answered bytes → BedMeaning T w moves (take bytes area)

-- THE SERVICE'S PROMISE (6.11): the outcome that is told, the answer area after the call, and what the answer says
pub record BedPromise (table program : List ℕ) (moves : ℕ) (answer answer' : List ℕ) (outcome : Outcome ℕ) : Type 0 where
  pub stated : outcome ≡ mapped length (bed table program moves (length answer))
  pub answer_is : answer' ≡ output_after (λ b. b) (bed table program moves (length answer)) answer
  pub meaning : BedSays table program moves outcome answer'
