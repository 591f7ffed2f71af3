-- Specification 6.9: packing and unpacking undo each other.
use Rattle.std.specs.Prelude.{List, ◌≡◌, ℕ, ◌≤◌, length, take}
use Rattle.model.specs.Outcome.{Outcome, answered, mapped}
use Rattle.model.specs.Areas.{output_after, ReadsBack}
use Rattle.model.specs.Range.{AreBytes}

-- what was told to be written of some bytes, as it stands in the area, `back` turns into these bytes again, in every area that has room for them
abbrev pub Undone : (List ℕ → ℕ → Outcome (List ℕ)) → List ℕ → Outcome ℕ → List ℕ → Type 0
Undone back bytes told area =
    AreBytes bytes → (written : ℕ) → told ≡ answered written → (room : ℕ) → length bytes ≤ room → back (take written area) room ≡ answered bytes

-- THE PROMISE OF PACKING AND UNPACKING (6.8, 6.9): `there` answers the bytes, `here` reads what was given and `read` what was written. The outcome that is
-- told,
-- the answer area after the call, that what was written reads back, and that `back` undoes it
pub record PackPromise {A : Type 0} (there back : List ℕ → ℕ → Outcome (List ℕ)) (here read : List ℕ → Outcome A) (given answer answer' : List ℕ)
    (outcome : Outcome ℕ) : Type 0 where
  pub stated : outcome ≡ mapped length (there given (length answer))
  pub answer_is : answer' ≡ output_after (λ b. b) (there given (length answer)) answer
  pub readable : ReadsBack (here given) read outcome answer'
  pub undone : Undone back given outcome answer'
