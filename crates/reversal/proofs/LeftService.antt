-- The outcome of left_reverse, after each check.
use mathlib.Core.Path.{◌≡◌, refl, sym, ap, ap₂, subst, ◌∙◌}
use mathlib.Core.List.{List, reverse, reverse-reverse}
use mathlib.Core.Bool.{Bool, true, false, cond}
use Prim.Native.Nat.{ℕ, ◌+◌}
use lib.Dec.{ltb}
use Rattle.std.specs.declared.result.Result.{Result}
use lib.ListN.{length, replicate, length-reverse}
use Rattle.model.specs.Word.{Word}
use Rattle.model.specs.Presentation.{Presentation}
use Rattle.model.specs.Reversing.{Ending, finished, open_pair, stopped, no_budget, no_room, reversing}
use Rattle.model.specs.Outcome.{Outcome, answered, refused, ◌>>=◌, unless, mapped}
use Rattle.model.specs.Mirror.{mirror, mirror_check, left_reversing}
use Rattle.model.specs.Images.{read_table, read_program}
use Rattle.model.specs.Services.{read_table_with, Sizes, sizes, Fraction, fraction_of, left_fraction, left_reverse}
use Rattle.model.specs.Areas.{fraction_bytes, output_after, workspace_after}
use Rattle.model.specs.Stated.{refusal, reversed}
use Rattle.model.specs.declared.answers.Ending.{Ending as EndingAnswer}
use Rattle.model.specs.declared.answers.Refusal.{Refusal}
use Rattle.model.specs.declared.answers.Reversed.{Reversed}
use Rattle.model.proofs.Impossible.{impossible}
use Rattle.model.proofs.Outcomes.{still_refused, goes_on}
use Rattle.theory.specs.Mirrors.{read_backward}
use Rattle.theory.specs.Orders.{OrderMeaning}
use Rattle.theory.proofs.Orders.{order_meaning}
use Rattle.theory.proofs.Mirroring.{left_is_right}
use Rattle.reversal.specs.Reverse.{fraction_left}
use Rattle.reversal.proofs.ReverseService.{left_outcome}
use Rattle.reversal.proofs.Answers.{fraction_late}
use Rattle.loading.proofs.Outcomes.{refused_stated, refused_output}
use Rattle.reversal.specs.Running.{MirrorRan, NotMirrored}
use Rattle.reversal.proofs.Answered.{answered_states}
use Rattle.reversal.specs.Asked.{backward_of, Answers}
use Rattle.loading.proofs.Reading.{program_runs}
use Rattle.reversal.specs.LeftReverse.{under_mirror, turned_fraction, LeftSays, LeftPromise}

-- what refuses a table refuses what comes after
refused_then : {A B C : Type 0} (o : Outcome A) (f : A → Outcome B) (g : A → B → Outcome C) (r : Refusal) → (o >>= f) ≡ refusal r
    → (o >>= λ x. f x >>= g x) ≡ refusal r
refused_then (answered x) f g r e = still_refused (f x) r e (g x)
refused_then (refused n place) f g r e = cc

under_mirror_lem : (T : Presentation) (w : Word) (budget room area : ℕ) → mirror_check T ≡ answered tt
    → left_fraction T w budget room area ≡ under_mirror T w budget room area
unfolding left_fraction
under_mirror_lem T w budget room area e =
    goes_on (mirror_check T) tt e (λ ok. fraction_of area (left_reversing T budget room w)) ∙ ap (fraction_of area) (left_is_right T budget room w)

-- THE ANSWER READ BACKWARD AGAIN

module _ (area : ℕ) where
  turned_unless : (short short' : Bool) → short ≡ short' → (f g : Fraction) → turned_fraction f ≡ g
      → mapped turned_fraction (unless short 13 f) ≡ unless short' 13 g
  turned_unless true true e f g h = refl
  turned_unless true false e f g h = impossible (cc)
  turned_unless false true e f g h = impossible (cc)
  turned_unless false false e f g h = ap answered h

  turned_ending : (e : Ending) → mapped turned_fraction (fraction_of area (read_backward e)) ≡ fraction_of area e
  turned_ending (finished n d k r) =
      turned_unless (ltb area (length (reverse n) + length (reverse d))) (ltb area (length n + length d))
      (ap₂ (λ i j. ltb area (i + j)) (length-reverse n) (length-reverse d))
      (record { numerator = reverse n; denominator = reverse d; steps = k })
      (record { numerator = n; denominator = d; steps = k })
      (ap₂ (λ x y. record { numerator = x; denominator = y; steps = k }) (reverse-reverse n) (reverse-reverse d))
  turned_ending (open_pair a b k) = refl
  turned_ending (stopped no_budget) = refl
  turned_ending (stopped no_room) = refl

-- THE SERVICE

module _ (table program : List ℕ) (budget : ℕ) (workspace before : List ℕ) where
  abbrev outcome : Outcome Fraction
  outcome = left_reverse table program budget (length workspace) (length before)

  abbrev rest : Presentation → Word → Outcome Fraction
  rest T w = left_fraction T w budget (length workspace) (length before)

  runs : (T : Presentation) (w : Word) → read_table table ≡ answered T → read_program T.size program ≡ answered w → outcome ≡ rest T w
  unfolding left_reverse
  runs = program_runs read_program table program rest

  -- the service's promise
  promised : (workspace' after : List ℕ) (told : Outcome Sizes) → told ≡ mapped sizes outcome → after ≡ output_after fraction_bytes outcome before
      → workspace' ≡ workspace_after outcome workspace → LeftPromise table program budget workspace workspace' before after told
  promised workspace' after told t a k = record { stated = t; answer_is = a; workspace_is = k; meaning = says }
    where
      says : LeftSays table program budget (length workspace) before after told
      says T e w f m =
          let o = runs T w e f
          ∙ under_mirror_lem T w budget (length workspace) (length before) m in
          let told_is = t ∙ ap (mapped sizes) o in
          let written_is = a ∙ ap (λ q. output_after fraction_bytes q before) o in
          let right = reversing (mirror T) budget (length workspace) (reverse w) in
          let left : mapped turned_fraction (mapped (fraction_left after) told) ≡ fraction_of (length before) right =
          ap (mapped turned_fraction)
          (ap₂ (λ x y. mapped (fraction_left x) y) written_is told_is ∙ left_outcome (fraction_of (length before) (read_backward right)) before)
          ∙ turned_ending (length before) right in
          record {
            told_is = told_is;
            written_is = written_is;
            left_is_right = left_is_right T;
            orders_say = subst (OrderMeaning (mirror T) (reverse w)) (sym left)
                (order_meaning (mirror T) budget (length workspace) (length before) (reverse w));
          }

  pub left_refused : (workspace' : List ℕ) (r : Refusal) → NotMirrored table program workspace workspace' r
      → LeftPromise table program budget workspace workspace' before before (refusal r)
  unfolding left_reverse left_fraction
  left_refused workspace' r n =
      let e : outcome ≡ refusal r =
      refused_then (read_table_with read_program table program) (λ l. mirror_check l.table)
      (λ l ok. fraction_of (length before) (left_reversing l.table budget (length workspace) l.word)) r n.refused in
      promised workspace' before (refusal r) (refused_stated outcome r e sizes) (refused_output outcome r e fraction_bytes before)
      (n.as_found
      ∙ sym (ap (λ q. workspace_after q workspace) e ∙ ap (λ b. cond b workspace (replicate (length workspace) 0)) n.early))

  pub left_runs : (mid : List ℕ) (e : EndingAnswer) (g : MirrorRan table program budget mid e) → length mid ≡ length workspace
      → (workspace' after : List ℕ) (r : Result Reversed Refusal) → workspace' ≡ replicate (length mid) 0
      → Answers (backward_of (length before) (reversing (mirror g.presentation) budget (length mid) (reverse g.word))) before after r
      → LeftPromise table program budget workspace workspace' before after (reversed r)
  left_runs mid e g same workspace' after r z a =
      let end = reversing (mirror g.presentation) budget (length workspace) (reverse g.word) in
      let s = answered_states outcome (under_mirror g.presentation g.word budget (length workspace) (length before))
      (runs g.presentation g.word g.table_read g.program_read
      ∙ under_mirror_lem g.presentation g.word budget (length workspace) (length before) g.has_mirror)
      (fraction_late (length before) (read_backward end)) (z ∙ ap (λ n. replicate n 0) same)
      (subst (λ n. Answers (backward_of (length before) (reversing (mirror g.presentation) budget n (reverse g.word))) before after r) same a) in
      promised workspace' after (reversed r) s.result s.area s.work
