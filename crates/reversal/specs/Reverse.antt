-- What the outcome of reverse says.
use Rattle.std.specs.Prelude.{List, ◌≡◌, ℕ, take, drop, length}
use Rattle.model.specs.Word.{Word}
use Rattle.model.specs.Presentation.{Presentation}
use Rattle.model.specs.Outcome.{Outcome, answered, mapped}
use Rattle.model.specs.Images.{read_table, read_program}
use Rattle.model.specs.Services.{Sizes, Fraction, sizes, reverse}
use Rattle.theory.specs.Orders.{OrderMeaning}
use Rattle.model.specs.Areas.{fraction_bytes, output_after, workspace_after}

-- N and D as they stand in the answer area, by the lengths that were told, with the steps that were told
abbrev pub fraction_left : List ℕ → Sizes → Fraction
fraction_left area z =
    record { numerator = take z.numerator area; denominator = take z.denominator (drop z.numerator area); steps = z.steps }

-- what was told and written says of every order of steps, of the table and the program in the images
abbrev pub ReverseSays : List ℕ → List ℕ → Outcome Sizes → List ℕ → Type 0
ReverseSays table program told area =
    (T : Presentation) → read_table table ≡ answered T → (w : Word) → read_program T.size program ≡ answered w
    → OrderMeaning T w (mapped (fraction_left area) told)

-- THE SERVICE'S PROMISE (6.2): the outcome that is told, both areas after the call, and what the outcome means
pub record ReversePromise (table program : List ℕ) (allowance : ℕ) (workspace workspace' answer answer' : List ℕ) (outcome : Outcome Sizes) : Type 0 where
  pub stated : outcome ≡ mapped sizes (reverse table program allowance (length workspace) (length answer))
  pub answer_is : answer' ≡ output_after fraction_bytes (reverse table program allowance (length workspace) (length answer)) answer
  pub workspace_is : workspace' ≡ workspace_after (reverse table program allowance (length workspace) (length answer)) workspace
  pub meaning : ReverseSays table program outcome answer'
