-- The outcome of reverse, after each check.
use mathlib.Core.Path.{◌≡◌, refl, sym, ap, ap₂, subst, ◌∙◌}
use mathlib.Core.List.{List, ◌++◌, append_assoc}
use Prim.Native.Nat.{ℕ}
use lib.ListN.{length, take, drop, replicate}
use lib.Seq.{take-append_seam, drop-append_seam}
use Rattle.std.specs.Prelude.{Err}
use Rattle.std.specs.declared.result.Result.{Result}
use Rattle.model.specs.Reversing.{reversing}
use Rattle.model.specs.Outcome.{Outcome, answered, refused, mapped}
use Rattle.model.specs.Images.{read_program}
use Rattle.model.specs.Services.{Sizes, sizes, Fraction, fraction_of, reverse}
use Rattle.model.specs.Areas.{begins, fraction_bytes, output_after}
use Rattle.model.specs.Stated.{refusal, reversed}
use Rattle.model.specs.declared.answers.Ending.{Ending as EndingAnswer}
use Rattle.model.specs.declared.answers.Refusal.{Refusal}
use Rattle.model.specs.declared.answers.Reversed.{Reversed}
use Rattle.theory.specs.Orders.{OrderMeaning}
use Rattle.theory.proofs.Orders.{order_meaning}
use Rattle.loading.proofs.Reading.{program_runs}
use Rattle.reversal.specs.Asked.{Answers}
use Rattle.reversal.specs.Reverse.{fraction_left, ReverseSays, ReversePromise}
use Rattle.reversal.specs.Running.{Ran, NotRun}
use Rattle.reversal.proofs.Answers.{fraction_late}
use Rattle.reversal.proofs.Answered.{States, not_run, ran}

-- the area gives back the fraction that was written
left_fraction : (f : Fraction) (area : List ℕ) → fraction_left (begins (fraction_bytes f) area) (sizes f) ≡ f
left_fraction f area =
    let n = f.numerator in
    let d = f.denominator in
    let rest = drop (length (n ++ d)) area in
    let whole : (n ++ d) ++ rest ≡ n ++ (d ++ rest) = append_assoc n d rest in
    let first : take (length n) ((n ++ d) ++ rest) ≡ n = ap (take (length n)) whole ∙ take-append_seam n (d ++ rest) in
    let second : take (length d) (drop (length n) ((n ++ d) ++ rest)) ≡ d =
    ap (λ l. take (length d) (drop (length n) l)) whole ∙ (ap (take (length d)) (drop-append_seam n (d ++ rest)) ∙ take-append_seam d rest) in
    ap₂ (λ x y. record { numerator = x; denominator = y; steps = f.steps }) first second

-- and so does every outcome, of what it tells and writes
pub left_outcome : (o : Outcome Fraction) (before : List ℕ) → mapped (fraction_left (output_after fraction_bytes o before)) (mapped sizes o) ≡ o
left_outcome (answered f) before = ap answered (left_fraction f before)
left_outcome (refused i numbers) before = refl

module _ (table program : List ℕ) (budget : ℕ) (workspace before : List ℕ) where
  abbrev outcome : Outcome Fraction
  outcome = reverse table program budget (length workspace) (length before)

  says : (after : List ℕ) (told : Outcome Sizes) → told ≡ mapped sizes outcome → after ≡ output_after fraction_bytes outcome before
      → ReverseSays table program told after
  unfolding reverse
  says after told t a T e w f =
      let run = program_runs read_program table program (λ U v. fraction_of (length before) (reversing U budget (length workspace) v)) T w e f in
      let left = ap₂ (λ x y. mapped (fraction_left x) y) a t ∙ (left_outcome outcome before ∙ run) in
      subst (OrderMeaning T w) (sym left) (order_meaning T budget (length workspace) (length before) w)

  promised : (workspace' after : List ℕ) (r : Result Reversed Refusal) → States outcome workspace workspace' before after r
      → ReversePromise table program budget workspace workspace' before after (reversed r)
  promised workspace' after r s =
      record { stated = s.result; answer_is = s.area; workspace_is = s.work; meaning = says after (reversed r) s.result s.area }

  pub reverse_refused : (workspace' : List ℕ) (r : Refusal) → NotRun table program workspace workspace' r
      → ReversePromise table program budget workspace workspace' before before (refusal r)
  unfolding reverse
  reverse_refused workspace' r n = promised workspace' before (Err r) (not_run table program budget workspace before fraction_of workspace' r n)

  pub reverse_runs : (mid : List ℕ) (e : EndingAnswer) (g : Ran table program budget mid e) → length mid ≡ length workspace
      → (workspace' after : List ℕ) (r : Result Reversed Refusal) → workspace' ≡ replicate (length mid) 0
      → Answers (fraction_of (length before) (reversing g.presentation budget (length mid) g.word)) before after r
      → ReversePromise table program budget workspace workspace' before after (reversed r)
  unfolding reverse
  reverse_runs mid e g same workspace' after r z a =
      promised workspace' after r (ran table program budget workspace before fraction_of fraction_late mid e g same workspace' after r z a)
