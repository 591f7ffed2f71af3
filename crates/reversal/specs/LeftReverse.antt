-- What the outcome of left_reverse says of right reversing under the mirror.
use Rattle.std.specs.Prelude.{List, reverse, ◌≡◌, ℕ, length}
use Rattle.model.specs.Word.{Word}
use Rattle.model.specs.Presentation.{Presentation}
use Rattle.model.specs.Reversing.{reversing}
use Rattle.model.specs.Outcome.{Outcome, answered, mapped}
use Rattle.model.specs.Images.{read_table, read_program}
use Rattle.model.specs.Mirror.{mirror, mirror_check}
use Rattle.model.specs.Services.{Sizes, sizes, Fraction, fraction_of, left_reverse}
use Rattle.model.specs.Areas.{fraction_bytes, output_after, workspace_after}
use Rattle.theory.specs.Mirrors.{read_backward, LeftIsRight}
use Rattle.theory.specs.Orders.{OrderMeaning}
use Rattle.reversal.specs.Reverse.{fraction_left}

-- right reversing of the word read backward, under the mirror, with both words of its answer read backward again
abbrev pub under_mirror : Presentation → Word → ℕ → ℕ → ℕ → Outcome Fraction
under_mirror T w budget room area = fraction_of area (read_backward (reversing (mirror T) budget room (reverse w)))

-- a fraction with both words read backward
abbrev pub turned_fraction : Fraction → Fraction
turned_fraction f = record { numerator = reverse f.numerator; denominator = reverse f.denominator; steps = f.steps }

-- what was told and written is that, where the table in the image has a mirror
pub record MirrorSays (T : Presentation) (w : Word) (budget room : ℕ) (before after : List ℕ) (told : Outcome Sizes) : Type 0 where
  pub told_is : told ≡ mapped sizes (under_mirror T w budget room (length before))
  pub written_is : after ≡ output_after fraction_bytes (under_mirror T w budget room (length before)) before
  -- as left reversing is of every word, at every allowance and room
  pub left_is_right : LeftIsRight T
  -- of the word and both words of the answer, each read backward, it says under the mirror what reverse says of every order
  pub orders_say : OrderMeaning (mirror T) (reverse w) (mapped turned_fraction (mapped (fraction_left after) told))

abbrev pub LeftSays : List ℕ → List ℕ → ℕ → ℕ → List ℕ → List ℕ → Outcome Sizes → Type 0
LeftSays table program budget room before after told =
    (T : Presentation) → read_table table ≡ answered T → (w : Word) → read_program T.size program ≡ answered w → mirror_check T ≡ answered tt
    → MirrorSays T w budget room before after told

-- THE SERVICE'S PROMISE (6.12): the outcome that is told, both areas after the call, and what the outcome means
pub record LeftPromise (table program : List ℕ) (allowance : ℕ) (workspace workspace' answer answer' : List ℕ) (outcome : Outcome Sizes) : Type 0 where
  pub stated : outcome ≡ mapped sizes (left_reverse table program allowance (length workspace) (length answer))
  pub answer_is : answer' ≡ output_after fraction_bytes (left_reverse table program allowance (length workspace) (length answer)) answer
  pub workspace_is : workspace' ≡ workspace_after (left_reverse table program allowance (length workspace) (length answer)) workspace
  pub meaning : LeftSays table program allowance (length workspace) answer answer' outcome
