-- The report, by what reading and reversing come to.
use mathlib.Core.Path.{◌≡◌, refl, sym, ap, ap₂, ◌∙◌}
use mathlib.Core.List.{List, [], ◌∷◌, ◌++◌, map, append_assoc}
use Prim.Native.Nat.{ℕ, ◌+◌, ◌-◌, ◌≤◌}
use native.Mathlib.Omega.{arith}
use lib.ListN.{length, take, drop}
use lib.Seq.{take_at, drop_at}
use Rattle.model.specs.Word.{forward, back, Word, byte}
use Rattle.model.specs.Presentation.{Presentation}
use Rattle.model.specs.Outcome.{Outcome, answered, ◌>>=◌, mapped}
use Rattle.model.specs.Images.{read_table, read_program, most_size}
use Rattle.model.specs.Services.{read_table_with, sizes, Fraction, reverse}
use Rattle.model.specs.Areas.{begins}
use Rattle.model.specs.Stated.{refusal}
use Rattle.model.specs.declared.answers.Refusal.{Refusal}
use Rattle.model.specs.Range.{All, LetterInRange}
use Rattle.model.proofs.Outcomes.{still_refused, goes_on}
use Rattle.engine.proofs.Letters.{letter_forward, letter_back}
use Rattle.loading.proofs.Reading.{program_still_refused, program_runs}
use Rattle.reversal.proofs.Told.{mapped_refused}
use Rattle.text.specs.Text.{letter_text, word_text, bytes_text, answer_text, outcome_text, reading, report}

module _ (table program : List ℕ) where
  -- the reader's reversing
  abbrev pub outcome : Outcome Fraction
  outcome = reverse table program 65535 32768 32768

  abbrev text : Presentation → Word → Fraction → Outcome (List ℕ)
  text T w f = answered (answer_text T.size (word_text w) f.numerator f.denominator f.steps)

  pub not_read : (r : Refusal) → read_table_with read_program table program ≡ refusal r → outcome_text (refusal r) ≡ report table program
  unfolding report
  not_read r e = sym (ap outcome_text (program_still_refused read_program table program (λ T w. outcome >>= text T w) r e))

  module _ (T : Presentation) (e : read_table table ≡ answered T) (w : Word) (f : read_program T.size program ≡ answered w) where
    read_both : reading table program ≡ (outcome >>= text T w)
    read_both = program_runs read_program table program (λ T w. outcome >>= text T w) T w e f

    pub no_answer : (r : Refusal) → refusal r ≡ mapped sizes outcome → outcome_text (refusal r) ≡ report table program
    unfolding report
    no_answer r g = sym (ap outcome_text (read_both ∙ still_refused outcome r (mapped_refused outcome r g) (text T w)))

    pub answer : (x : Fraction) → outcome ≡ answered x
        → answer_text T.size (word_text w) x.numerator x.denominator x.steps ≡ report table program
    unfolding report
    answer x g = sym (ap outcome_text (read_both ∙ goes_on outcome x g (text T w)))

-- the bytes of a program's letters are written as its letters
pub bytes_word : (n : ℕ) → n ≤ most_size → (w : Word) → All (LetterInRange n) w → bytes_text (map byte w) ≡ word_text w
unfolding bytes_text word_text
bytes_word n h [] p = refl
bytes_word n h (forward a ∷ w) p = ap₂ ◌++◌ (ap letter_text (letter_forward a (omega (arith, p.0.high)))) (bytes_word n h w p.1)
bytes_word n h (back a ∷ w) p =
    let e : 128 + a - 128 ≡ a = omega arith in
    ap₂ ◌++◌ (ap letter_text (letter_back (128 + a) (omega arith) ∙ ap back e)) (bytes_word n h w p.1)

-- N and D, where an area begins with them
module _ (N D area : List ℕ) where
  abbrev pub both : List ℕ
  both = begins (N ++ D) area

  split : both ≡ N ++ (D ++ drop (length (N ++ D)) area)
  split = append_assoc N D (drop (length (N ++ D)) area)

  pub numerator_part : (n : ℕ) → length N ≡ n → take n both ≡ N
  numerator_part n e = ap (take n) split ∙ take_at N (D ++ drop (length (N ++ D)) area) n e

  pub denominator_part : (n d : ℕ) → length N ≡ n → length D ≡ d → take d (drop n both) ≡ D
  denominator_part n d e f =
      ap (λ l. take d (drop n l)) split
      ∙ (ap (take d) (drop_at N (D ++ drop (length (N ++ D)) area) n e) ∙ take_at D (drop (length (N ++ D)) area) d f)
