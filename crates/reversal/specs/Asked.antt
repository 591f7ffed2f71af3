-- What is made of the ending of a program.
use Rattle.std.specs.Prelude.{List, ◌≡◌, ℕ, length}
use Rattle.std.specs.declared.result.Result.{Result}
use Rattle.model.specs.Word.{Word}
use Rattle.model.specs.Presentation.{Presentation}
use Rattle.model.specs.Reversing.{Ending, reversing}
use Rattle.model.specs.Outcome.{Outcome, mapped}
use Rattle.model.specs.Services.{Sizes, sizes, Fraction, fraction_of}
use Rattle.model.specs.Areas.{fraction_bytes, output_after}
use Rattle.model.specs.Stated.{reversed}
use Rattle.model.specs.declared.answers.Ending.{Ending as EndingAnswer}
use Rattle.model.specs.declared.answers.Reversed.{Reversed}
use Rattle.model.specs.declared.answers.Refusal.{Refusal}
use Rattle.theory.specs.Mirrors.{read_backward}
use Rattle.engine.specs.Run.{Reverses}
use Rattle.reversal.specs.declared.asked.Handed.{Handed}

-- the numbers handed in
abbrev pub handed : Handed → Sizes
handed h = record { numerator = h.numerator; denominator = h.denominator; steps = h.steps }

-- the outcome that the ending of a word read backward comes to
abbrev pub backward_of : ℕ → Ending → Outcome Fraction
backward_of area e = fraction_of area (read_backward e)

-- the result and the answer area that an outcome states
pub record Answers (outcome : Outcome Fraction) (before after : List ℕ) (r : Result Reversed Refusal) : Type 0 where
  pub result : reversed r ≡ mapped sizes outcome
  pub area : after ≡ output_after fraction_bytes outcome before

-- .. of every ending that it is, by the outcome that an ending comes to
abbrev pub AnswerOf : (ℕ → Ending → Outcome Fraction) → EndingAnswer → List ℕ → List ℕ → List ℕ → Result Reversed Refusal → Type 0
AnswerOf made ending workspace before after r =
    (T : Presentation) (word : Word) (budget : ℕ) → Reverses T word budget workspace ending
    → Answers (made (length before) (reversing T budget (length workspace) word)) before after r
