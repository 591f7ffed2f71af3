-- What a comparison makes of each ending, and the outcome of compare after its reading.
use mathlib.Core.Path.{◌≡◌, refl, sym, ap, ap₂, subst, ◌∙◌}
use mathlib.Core.List.{List, [], ◌∷◌, ◌++◌}
use mathlib.Core.Bool.{Bool, true, false, cond}
use Prim.Native.Nat.{ℕ, suc}
use native.Mathlib.Omega.{arith}
use borrow.Author.Tests.{eq-eqb, ne_eqb, eqb-true}
use lib.Dec.{eqb}
use lib.ListN.{length}
use Rattle.model.specs.Word.{Positive, positive, negative}
use Rattle.model.specs.Presentation.{Presentation, weigh}
use Rattle.model.specs.Reversing.{Ending, finished, open_pair, stopped, no_budget, no_room, reversing}
use Rattle.model.specs.Outcome.{Outcome, answered}
use Rattle.model.specs.Checks.{cleared}
use Rattle.model.specs.Services.{Verdict, same_after, different_after, read_forward, verdict_of, forward_verdict, comparison, compare, Images, read_images}
use Rattle.model.specs.Areas.{Compares, workspace_after}
use Rattle.model.specs.Stated.{refusal, verdict_stated, compared, ending_answer}
use Rattle.model.specs.declared.answers.Ending.{Ending as EndingAnswer}
use Rattle.model.specs.declared.answers.Refusal.{Refusal}
use Rattle.model.proofs.Impossible.{impossible}
use Rattle.theory.specs.Verdicts.{VerdictMeaning}
use Rattle.theory.proofs.Verdicts.{verdict_meaning}
use Rattle.engine.specs.Run.{Reverses}
use Rattle.comparing.specs.Compare.{judgement, Ended, EndedIf, Judged, CompareSays, ComparePromise}
use Rattle.std.specs.Prelude.{Ok, Err}
use Rattle.std.specs.declared.result.Result.{Result}
use Rattle.model.specs.declared.answers.Compared.{Compared}
use Rattle.model.specs.declared.answers.Compared.TheVariants.{Same, Different}
use Rattle.model.proofs.Outcomes.{still_refused, goes_on}
use Rattle.loading.proofs.Late.{Late, late_answer, late_cond, late_stop}
use Rattle.loading.proofs.Outcomes.{AsFound}
use Rattle.loading.proofs.Reading.{programs_refused, programs_run}

-- JUDGING AN ENDING

some_letters : (n : ℕ) → eqb (suc n) 0 ≡ false
some_letters n = ne_eqb (suc n) 0 (λ e. omega arith)

-- what is judged of each ending: a verdict `same` is that of an empty word, and any other is `different` or a stop
judgement_states : (e : Ending) → compared (judgement (ending_answer e)) ≡ verdict_of e
judgement_states (finished [] [] k r) = refl
judgement_states (finished [] (x ∷ d) k r) = ap (λ t. answered (verdict_stated (cond t (Same k r) (Different k)))) (some_letters (length d))
judgement_states (finished (x ∷ n) d k r) =
    ap (λ t. answered (verdict_stated (cond t (cond (eqb (length d) 0) (Same k r) (Different k)) (Different k)))) (some_letters (length n))
judgement_states (open_pair a b k) = refl
judgement_states (stopped no_budget) = refl
judgement_states (stopped no_room) = refl

verdict_empty : (e : Ending) (k r : ℕ) → verdict_of e ≡ answered (same_after k r) → e ≡ finished [] [] k r
verdict_empty (finished [] [] i j) k r h =
    let a : i ≡ k = cc in
    let b : j ≡ r = cc in
    ap₂ (finished [] []) a b
verdict_empty (finished [] (x ∷ d) i j) k r h = impossible (cc)
verdict_empty (finished (x ∷ n) d i j) k r h = impossible (cc)
verdict_empty (open_pair a b i) k r h = impossible (cc)
verdict_empty (stopped no_budget) k r h = impossible (cc)
verdict_empty (stopped no_room) k r h = impossible (cc)

-- THE VERDICT

-- what an ending comes to comes after the work has begun
verdict_late : (e : Ending) → Late (verdict_of e)
verdict_late (finished n d k r) = late_answer
verdict_late (open_pair a b k) = late_answer
verdict_late (stopped s) = late_stop s

module _ (T : Presentation) (u v : Positive) (budget room : ℕ) where
  -- by the weights
  weighed : Bool → Outcome Verdict
  weighed b = cond b (verdict_of (reversing T budget room (negative u ++ positive v))) (answered (different_after 0))

  pub unequal_verdict : (weigh T u ≡ weigh T v → ⊥) → compared (Ok (Different 0)) ≡ forward_verdict T u v budget room
  unfolding weighed
  unequal_verdict h = sym (ap weighed (ne_eqb (weigh T u) (weigh T v) h))

  pub equal_verdict : weigh T u ≡ weigh T v → (area : List ℕ) → length area ≡ room → (e : EndingAnswer) → Reverses T (negative u ++ positive v) budget area e
      → compared (judgement e) ≡ forward_verdict T u v budget room
  unfolding weighed
  equal_verdict h area n e p =
      let a : e ≡ ending_answer (reversing T budget room (negative u ++ positive v)) =
      p.answer ∙ ap (λ i. ending_answer (reversing T budget i (negative u ++ positive v))) n in
      ap (λ x. compared (judgement x)) a
      ∙ (judgement_states (reversing T budget room (negative u ++ positive v)) ∙ sym (ap weighed (eq-eqb (weigh T u) (weigh T v) h)))

  -- a table that does not clear
  pub comparison_refused : (r : Refusal) → refusal r ≡ cleared T budget room → Judged T u v budget room (Err r)
  unfolding comparison
  comparison_refused r e = record { verdict = sym (still_refused (cleared T budget room) r (sym e) _); ended = tt }

  -- a table that clears
  pub comparison_decided : answered tt ≡ cleared T budget room → (r : Result Compared Refusal) → compared r ≡ forward_verdict T u v budget room
      → Judged T u v budget room r
  unfolding comparison weighed
  comparison_decided clear r e =
      record { verdict = e ∙ sym (goes_on (cleared T budget room) tt (sym clear) _); ended = if_same r e }
    where
      by_weight : (b : Bool) → eqb (weigh T u) (weigh T v) ≡ b → (k i : ℕ) → compared (Ok (Same k i)) ≡ weighed b → Ended T u v budget room k i
      by_weight true h k i q =
          record {
            clear = sym clear;
            same_weight = eqb-true (weigh T u) (weigh T v) h;
            empty =
                verdict_empty (reversing T budget room (negative u ++ positive v)) k i (sym q);
          }
      by_weight false h k i q = impossible (cc)

      if_same : (j : Result Compared Refusal) → compared j ≡ forward_verdict T u v budget room → EndedIf T u v budget room j
      if_same (Ok (Same k i)) q = by_weight (eqb (weigh T u) (weigh T v)) refl k i q
      if_same (Ok (Different k)) q = tt
      if_same (Err r) q = tt

  -- any verdict of a table that cleared comes after the work has begun
  pub forward_late : Late (forward_verdict T u v budget room)
  forward_late = late_cond (eqb (weigh T u) (weigh T v)) (verdict_late (reversing T budget room (negative u ++ positive v))) late_answer

-- THE SERVICE

module _ (table first second : List ℕ) (budget room : ℕ) where
  abbrev judges : Images Positive → Outcome Verdict
  judges p = comparison p.table p.first p.second budget room

  compare_refused : (r : Refusal) → read_images read_forward table first second ≡ refusal r → AsFound (compare table first second budget room) r
  unfolding compare
  compare_refused = programs_refused table first second judges

  compare_runs : (T : Presentation) (u v : Positive) → Compares table first second T u v
      → compare table first second budget room ≡ comparison T u v budget room
  unfolding compare
  compare_runs = programs_run table first second judges

  -- what a verdict means, of the outcome
  compare_means : (o : Outcome Verdict) → o ≡ compare table first second budget room → CompareSays table first second budget room (λ T v. answered v) o
  compare_means o e T u v c = subst (VerdictMeaning T u v budget room answered) (sym (e ∙ compare_runs T u v c)) (verdict_meaning T u v budget room)

-- THE PROMISE

module _ (table first second : List ℕ) (budget : ℕ) (area : List ℕ) where
  pub promised_refused : (r : Refusal) → read_images read_forward table first second ≡ refusal r
      → ComparePromise table first second budget area area (refusal r)
  promised_refused r e =
      let o = compare_refused table first second budget (length area) r e in
      record { stated = o.stated; workspace_is = o.workspace area; meaning = compare_means table first second budget (length area) _ o.stated }

  pub promised_judged : (T : Presentation) (u v : Positive) → Compares table first second T u v → (after : List ℕ) (r : Result Compared Refusal)
      → after ≡ workspace_after (compared r) area → Judged T u v budget (length area) r
      → ComparePromise table first second budget area after (compared r)
  promised_judged T u v c after r w j =
      let o = j.verdict ∙ sym (compare_runs table first second budget (length area) T u v c) in
      record {
        stated = o;
        workspace_is = w ∙ ap (λ x. workspace_after x area) o;
        meaning = compare_means table first second budget (length area) _ o;
      }
