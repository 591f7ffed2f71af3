-- What reading a whole text gives, what import does with it, and what its answer says.
use Rattle.std.specs.Prelude.{List, ◌≡◌, ℕ, ◌≤◌, ◌<◌, length, take, Option, Some, None}
use Rattle.std.specs.declared.result.Result.{Result}
use Rattle.model.specs.declared.answers.Refusal.{Refusal}
use Rattle.model.specs.Word.{Word}
use Rattle.model.specs.Presentation.{Presentation}
use Rattle.model.specs.Outcome.{Place, unplaced, Outcome, answered, refused, ◌>>=◌, mapped}
use Rattle.model.specs.Images.{read_table}
use Rattle.model.specs.Plain.{most_letters, plain_program}
use Rattle.model.specs.Areas.{output_after}
use Rattle.model.specs.Stated.{packed_as}
use Rattle.model.specs.Notation.{Pattern, most_nested, PatternInRange, meaning, moves, highest, pattern_text, no_pattern, read_pattern, read_text, imported}
use Rattle.model.specs.Notation.{import}
use Rattle.theory.specs.Notation.{NotationMeaning}
use Rattle.importing.specs.declared.reading.Span.{Span}
use Rattle.importing.specs.Reading.{capped}

-- the pattern that a text is, by the reader of patterns too
pub record TextOf (text : List ℕ) (s : Span) : Type 0 where
  pub pattern : Pattern
  pub behind : List ℕ
  pub pattern_read : read_pattern most_nested text ≡ answered (record { value = pattern; rest = behind })
  pub read : read_text text ≡ answered pattern
  pub moves_is : s.moves ≡ capped (moves pattern)
  pub highest_is : s.highest ≡ highest pattern

abbrev pub TextDone : List ℕ → Option Span → Type 0
TextDone text (Some s) = TextOf text s
TextDone text None = read_text text ≡ no_pattern

-- the outcome for a text under a table of n letters
abbrev pub text_outcome : List ℕ → ℕ → ℕ → Outcome Word
text_outcome text n area = read_text text >>= λ p. imported n p area

-- the result and the answer area are those of an outcome
abbrev pub Answers : Outcome Word → List ℕ → List ℕ → Result ℕ Refusal → Type 0
Answers outcome before after r = (packed_as r ≡ mapped length outcome) × (after ≡ output_after plain_program outcome before)

abbrev pub TextAnswered : List ℕ → ℕ → List ℕ → List ℕ → Result ℕ Refusal → Type 0
TextAnswered text n before after r = Answers (text_outcome text n (length before)) before after r

-- the text is that of p, a pattern in range
abbrev pub TextIs : List ℕ → Pattern → Type 0
TextIs text p = PatternInRange p most_nested × (pattern_text p ≡ text)

-- 6.17: what each result says of the table and the text, beside the answer area as it was left; there is no other result
pub data Comes (table text area : List ℕ) : Outcome ℕ → Type 0 where
  -- 1 to 3 come of the table
  no_table : (n : ℕ) (place : Place) → n ≤ 3 → read_table table ≡ refused n place → Comes table text area (refused n place)
  -- 19: the text is that of no pattern in range
  has_no_pattern : (T : Presentation) → read_table table ≡ answered T → ((p : Pattern) → TextIs text p → ⊥) → Comes table text area (refused 19 unplaced)
  -- 5: a number of the pattern, also under a count of 0, is above the table's
  above : (T : Presentation) → read_table table ≡ answered T → (p : Pattern) → TextIs text p → T.size < highest p → Comes table text area (refused 5 unplaced)
  -- 20: the pattern means more moves than a program has
  too_many : (T : Presentation) → read_table table ≡ answered T → (p : Pattern) → TextIs text p → most_letters < length (meaning p)
      → Comes table text area (refused 20 unplaced)
  -- 13: it means more moves than the area has bytes
  too_short : (T : Presentation) → read_table table ≡ answered T → (p : Pattern) → TextIs text p → length area < length (meaning p)
      → Comes table text area (refused 13 unplaced)
  -- an answer: the area begins with the moves that the pattern means, so many
  laid : (T : Presentation) → read_table table ≡ answered T → (p : Pattern) → TextIs text p → take (length (meaning p)) area ≡ plain_program (meaning p)
      → Comes table text area (answered (length (meaning p)))

pub record ImportSays (table text : List ℕ) (told : Outcome ℕ) (area : List ℕ) : Type 0 where
  pub comes : Comes table text area told
  -- a text is that of one pattern in range at the most
  pub one_pattern : (p q : Pattern) → TextIs text p → TextIs text q → p ≡ q
  -- what holds of every text that is read, and of the text of every pattern in range
  pub notation : NotationMeaning

-- THE SERVICE'S PROMISE (6.17): the outcome that is told, the answer area after the call, and what the answer says
pub record ImportPromise (table text answer answer' : List ℕ) (outcome : Outcome ℕ) : Type 0 where
  pub stated : outcome ≡ mapped length (import table text (length answer))
  pub answer_is : answer' ≡ output_after plain_program (import table text (length answer)) answer
  pub meaning : ImportSays table text outcome answer'
