-- What was put is the report.
use mathlib.Core.Path.{◌≡◌, sym, ap, ap₂, ◌∙◌}
use mathlib.Core.List.{List, ◌++◌, map}
use Prim.Native.Nat.{ℕ, ◌+◌, ◌≤◌}
use native.Mathlib.Omega.{arith}
use lib.ListN.{length, take, drop, length-append, length-drop, length-map}
use lib.Seq.{take_at}
use Rattle.model.specs.Word.{Word, Positive, byte}
use Rattle.model.specs.Presentation.{Presentation}
use Rattle.model.specs.Outcome.{Outcome, answered, mapped}
use Rattle.model.specs.Images.{read_program}
use Rattle.model.specs.Plain.{plain_program}
use Rattle.model.specs.Services.{sizes, Fraction, reverse}
use Rattle.model.specs.Areas.{begins, fraction_bytes, output_after, written}
use Rattle.model.specs.Stated.{refusal}
use Rattle.model.specs.declared.answers.Refusal.{Refusal}
use Rattle.images.proofs.RoundTrip.{program_in_range}
use Rattle.text.specs.Text.{word_text, bytes_text, answer_text, outcome_text, report}
use Rattle.text.specs.Put.{Put}
use Rattle.text.specs.Render.{Readable, Reported}
use Rattle.reversal.proofs.Told.{Sized, mapped_answered}
use Rattle.text.proofs.Reports.{outcome, no_answer, answer, bytes_word, numerator_part, denominator_part}

pub reported : {most : ℕ} {table program before text after : List ℕ} {r : ℕ} → Put most before 0 text after r → most ≤ length before
    → text ≡ report table program
    → Reported table program after r
reported p h e = record { inside = omega (arith, p.near, p.same_length); text = p.appended ∙ e }

module _ (table program : List ℕ) (size count : ℕ) (q : Readable table program size count) (room area : ℕ) (ew : room ≡ 32768)
    (ea : area ≡ 32768) where
  abbrev run : Outcome Fraction
  run = reverse table program 65535 room area

  run_is : run ≡ outcome table program
  run_is = ap₂ (λ i j. reverse table program 65535 i j) ew ea

  abbrev T : Presentation
  T = q.table_read.table

  abbrev word : Word
  word = q.program_read.program.word

  word_read : read_program T.size program ≡ answered word
  word_read = ap (λ n. read_program n program) q.table_read.size_is ∙ q.program_read.program.read

  pub refused_report : (r : Refusal) → refusal r ≡ mapped sizes run → outcome_text (refusal r) ≡ report table program
  refused_report r e = no_answer table program T q.table_read.read word word_read r (e ∙ ap (mapped sizes) run_is)

  module _ (n d k : ℕ) (e : answered (record { numerator = n; denominator = d; steps = k }) ≡ mapped sizes run) (before after : List ℕ)
      (a : after ≡ output_after fraction_bytes run before) where
    found : Sized run n d k
    found = mapped_answered run n d k e

    abbrev N : Positive
    N = found.fraction.numerator

    abbrev D : Positive
    D = found.fraction.denominator

    begun : after ≡ begins (N ++ D) before
    begun = a ∙ ap (λ o. output_after fraction_bytes o before) found.is

    pub fraction_fits : length after ≡ length before → n + d ≤ length after
    fraction_fits h =
        let l = ap length begun ∙ length-append (N ++ D) (drop (length (N ++ D)) before) in
        omega (arith, l, length-append N D, length-drop (length (N ++ D)) before, found.numerator_length, found.denominator_length)

    pub answer_report : (workspace bytes : List ℕ) → bytes ≡ written workspace 0 (plain_program word)
        → answer_text size (bytes_text (take count bytes)) (take n after) (take d (drop n after)) k ≡ report table program
    answer_report workspace bytes b =
        let letters : take count bytes ≡ map byte word =
        ap (take count) b ∙ take_at (map byte word) (drop (0 + length (map byte word)) workspace) count
        (length-map word byte ∙ q.program_read.program.count_is) in
        let range = program_in_range size q.program_read.few program word q.program_read.program.read in
        let spelled : bytes_text (take count bytes) ≡ word_text word = ap bytes_text letters ∙ bytes_word size q.program_read.few word range.letters in
        let numerator : take n after ≡ N = ap (take n) begun ∙ numerator_part N D before n found.numerator_length in
        let denominator : take d (drop n after) ≡ D =
        ap (λ l. take d (drop n l)) begun ∙ denominator_part N D before n d found.numerator_length found.denominator_length in
        let same : answer_text size (bytes_text (take count bytes)) (take n after) (take d (drop n after)) k ≡
        answer_text T.size (word_text word) N D found.fraction.steps = cc (q.table_read.size_is, found.steps_are) in
        same ∙ answer table program T q.table_read.read word word_read found.fraction (sym run_is ∙ found.is)
