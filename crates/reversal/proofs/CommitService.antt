-- The outcome of commit, after each check, and that what it answers is what reverse answers.
use mathlib.Core.Path.{◌≡◌, refl, sym, ap, ◌∙◌}
use mathlib.Core.List.{List}
use mathlib.Core.Bool.{Bool, true, false, cond}
use Prim.Native.Nat.{ℕ, ◌+◌, ◌≤◌}
use lib.ListN.{length, replicate}
use Rattle.std.specs.declared.result.Result.{Result}
use Rattle.model.specs.Reversing.{Ending, reversing}
use Rattle.model.specs.Outcome.{unplaced, Outcome, answered, refused, mapped}
use Rattle.model.specs.Images.{read_program}
use Rattle.model.specs.Services.{read_table_with, Fraction, fraction_of, reverse, Sizes, sizes, sizes_of, enquire, agree, committed_of, commit}
use Rattle.model.specs.Areas.{fraction_bytes, output_after, workspace_after}
use Rattle.model.specs.Stated.{refusal, reversed}
use Rattle.model.specs.declared.answers.Ending.{Ending as EndingAnswer}
use Rattle.model.specs.declared.answers.Refusal.{Refusal}
use Rattle.model.specs.declared.answers.Reversed.{Reversed}
use Rattle.model.proofs.Impossible.{impossible, answer_of}
use Rattle.model.proofs.Outcomes.{goes_on}
use Rattle.loading.proofs.Late.{Late, late_refusal, late_cond, late_then}
use Rattle.reversal.specs.Asked.{Answers}
use Rattle.reversal.specs.Commit.{CommitPromise}
use Rattle.reversal.specs.Running.{Ran, NotRun}
use Rattle.reversal.proofs.Answers.{fraction_late}
use Rattle.reversal.proofs.Answered.{not_run, ran}
use Rattle.reversal.proofs.EnquireService.{sizes_late}
use Rattle.reversal.proofs.Foretelling.{foretells}

-- any of them comes after the work has begun
pub committed_late : (z : Sizes) (area : ℕ) (e : Ending) → Late (committed_of z area e)
committed_late z area e = late_then (sizes_of e) _ (sizes_late e) (λ y. late_cond (agree z y) (fraction_late area e) (late_refusal refl))

-- THE SERVICE

module _ (table program : List ℕ) (budget room : ℕ) (z : Sizes) (area : ℕ) where
  -- AND ENQUIRE AND REVERSE

  agreed : (t : Bool) (o : Outcome Fraction) (f : Fraction) → cond t o (refused 18 unplaced) ≡ answered f → o ≡ answered f
  agreed true o f e = e
  agreed false o f e = impossible (cc)

  committed_reverses : (e : Ending) (f : Fraction) → committed_of z area e ≡ answered f → fraction_of area e ≡ answered f
  committed_reverses e f h =
      let x = answer_of (sizes_of e) (λ y. cond (agree z y) (fraction_of area e) (refused 18 unplaced)) f h in
      agreed (agree z x.0) (fraction_of area e) f x.2

  -- what commit answers, reverse answers
  pub commit_reverses : (f : Fraction) → commit table program budget room z area ≡ answered f → reverse table program budget room area ≡ answered f
  unfolding commit reverse
  commit_reverses f h =
      let l = answer_of (read_table_with read_program table program) (λ l. committed_of z area (reversing l.table budget room l.word)) f h in
      goes_on (read_table_with read_program table program) l.0 l.1 _ ∙ committed_reverses (reversing l.0.table budget room l.0.word) f l.2

module _ (table program : List ℕ) (budget : ℕ) (workspace : List ℕ) (z : Sizes) (before : List ℕ) where
  abbrev outcome : Outcome Fraction
  outcome = commit table program budget (length workspace) z (length before)

  abbrev reversal : Outcome Fraction
  reversal = reverse table program budget (length workspace) (length before)

  -- the service's promise
  promised : (workspace' after : List ℕ) (told : Outcome Sizes) → told ≡ mapped sizes outcome → after ≡ output_after fraction_bytes outcome before
      → workspace' ≡ workspace_after outcome workspace → CommitPromise table program budget z workspace workspace' before after told
  promised workspace' after told t a k = record { stated = t; answer_is = a; workspace_is = k; meaning = record { answers = answers; as_reverse = as_reverse } }
    where
      same : (f : Fraction) → outcome ≡ answered f → outcome ≡ reversal
      same f e = e ∙ sym (commit_reverses table program budget (length workspace) z (length before) f e)

      answers : enquire table program budget (length workspace) ≡ answered z → z.numerator + z.denominator ≤ length before
          → (told ≡ answered z) × (after ≡ output_after fraction_bytes reversal before)
      answers h l =
          let c = (foretells table program budget (length workspace) (length before)).answers z h l in (
            t ∙ (ap (mapped sizes) c.3 ∙ ap answered c.1),
            a ∙ ap (λ o. output_after fraction_bytes o before) (c.3 ∙ sym c.2),
          )

      answered_same : (o : Outcome Fraction) (y : Sizes) → outcome ≡ o → mapped sizes o ≡ answered y → outcome ≡ reversal
      answered_same (answered f) y e h = same f e
      answered_same (refused n place) y e h = impossible (cc)

      as_reverse : (y : Sizes) → told ≡ answered y → (mapped sizes reversal ≡ answered y) × (after ≡ output_after fraction_bytes reversal before)
      as_reverse y h =
          let s = answered_same outcome y refl (sym t ∙ h) in
          (sym (ap (mapped sizes) s) ∙ (sym t ∙ h), a ∙ ap (λ o. output_after fraction_bytes o before) s)

  pub commit_refused : (workspace' : List ℕ) (r : Refusal) → NotRun table program workspace workspace' r
      → CommitPromise table program budget z workspace workspace' before before (refusal r)
  unfolding commit
  commit_refused workspace' r n =
      let s = not_run table program budget workspace before (committed_of z) workspace' r n in
      promised workspace' before (refusal r) s.result s.area s.work

  pub commit_runs : (mid : List ℕ) (e : EndingAnswer) (g : Ran table program budget mid e) → length mid ≡ length workspace
      → (workspace' after : List ℕ) (r : Result Reversed Refusal) → workspace' ≡ replicate (length mid) 0
      → Answers (committed_of z (length before) (reversing g.presentation budget (length mid) g.word)) before after r
      → CommitPromise table program budget z workspace workspace' before after (reversed r)
  unfolding commit
  commit_runs mid e g same workspace' after r y a =
      let s = ran table program budget workspace before (committed_of z) (committed_late z) mid e g same workspace' after r y a in
      promised workspace' after (reversed r) s.result s.area s.work
