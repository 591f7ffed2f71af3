-- A program loaded backward, and an answer read backward.
use mathlib.Core.Path.{◌≡◌, refl, sym, ap, ap₂, ◌∙◌}
use mathlib.Core.List.{List, ◌++◌, reverse}
use mathlib.Core.Bool.{Bool, true, false}
use Prim.Native.Nat.{ℕ, ◌+◌}
use lib.Dec.{ltb}
use Rattle.std.specs.Prelude.{Err}
use lib.ListN.{length, take, drop, length-reverse}
use lib.Seq.{take_at, drop_at}
use Rattle.model.specs.Word.{Word}
use Rattle.model.specs.Presentation.{Presentation}
use Rattle.model.specs.Reversing.{Ending, finished, open_pair, stopped, reversing}
use Rattle.model.specs.Outcome.{Outcome, answered, refused, unless, mapped}
use Rattle.model.specs.Services.{sizes, Fraction, fraction_of}
use Rattle.model.specs.Areas.{fraction_bytes, output_after}
use Rattle.model.specs.declared.answers.Refusal.{Refusal}
use Rattle.theory.specs.Mirrors.{read_backward}
use Rattle.reversal.specs.Asked.{Answers}
use Rattle.reversal.proofs.Told.{mapped_refused}
use Rattle.reversal.specs.Backward.{WordsTurned}

-- two words, each turned around
pub words_turned : (before front back : List ℕ) (n : ℕ) → front ≡ take n before → back ≡ drop n before
    → WordsTurned n before (reverse front ++ reverse back)
words_turned before front back n ef eb first second en e =
    ap₂ (λ l r. reverse l ++ reverse r) (ef ∙ (ap (take n) e ∙ take_at first second n en)) (eb ∙ (ap (drop n) e ∙ drop_at first second n en))

-- a fraction with both words read backward
abbrev turned_fraction : Fraction → Fraction
turned_fraction f = record { numerator = reverse f.numerator; denominator = reverse f.denominator; steps = f.steps }

unless_turned : (short : Bool) (f : Fraction) → unless short 13 (turned_fraction f) ≡ mapped turned_fraction (unless short 13 f)
unless_turned true f = refl
unless_turned false f = refl

fraction_turned : (area : ℕ) (e : Ending) → fraction_of area (read_backward e) ≡ mapped turned_fraction (fraction_of area e)
fraction_turned area (finished n d k r) =
    ap (λ i. unless (ltb area i) 13 (record { numerator = reverse n; denominator = reverse d; steps = k }))
    (ap₂ (λ i j. i + j) (length-reverse n) (length-reverse d))
    ∙ unless_turned (ltb area (length n + length d)) (record { numerator = n; denominator = d; steps = k })
fraction_turned area (open_pair a b k) = refl
fraction_turned area (stopped s) = refl

sizes_turned : (o : Outcome Fraction) → mapped sizes (mapped turned_fraction o) ≡ mapped sizes o
sizes_turned (answered f) =
    ap₂ (λ i j. answered (record { numerator = i; denominator = j; steps = f.steps })) (length-reverse f.numerator) (length-reverse f.denominator)
sizes_turned (refused n place) = refl

module _ (T : Presentation) (word : Word) (budget room : ℕ) (before mid : List ℕ) where
  abbrev outcome : Outcome Fraction
  outcome = fraction_of (length before) (reversing T budget room word)

  abbrev backward : Outcome Fraction
  backward = fraction_of (length before) (read_backward (reversing T budget room word))

  turned_outcome : backward ≡ mapped turned_fraction outcome
  turned_outcome = fraction_turned (length before) (reversing T budget room word)

  pub refused_backward : (r : Refusal) → Answers outcome before mid (Err r) → Answers backward before mid (Err r)
  refused_backward r a =
      let o = mapped_refused outcome r a.result in
      record {
        result = sym (ap (mapped sizes) turned_outcome ∙ ap (λ q. mapped sizes (mapped turned_fraction q)) o);
        area =
            a.area
            ∙ (ap (λ q. output_after fraction_bytes q before) o
            ∙ sym (ap (λ q. output_after fraction_bytes q before) (turned_outcome ∙ ap (mapped turned_fraction) o)));
      }
