-- The outcome of remainder after each check, and what it means.
use mathlib.Core.Path.{◌≡◌, refl, sym, ap, ap₂, subst, ◌∙◌}
use mathlib.Core.List.{List, ◌++◌}
use Prim.Native.Nat.{ℕ, ◌≤◌, ◌<◌}
use lib.ListN.{length, drop}
use lib.Seq.{take-append_seam}
use Rattle.model.specs.Word.{Positive, positive, negative}
use Rattle.model.specs.Presentation.{Presentation, weigh}
use Rattle.model.specs.Reversing.{reversing}
use Rattle.model.specs.Outcome.{Outcome, answered, refused, mapped}
use Rattle.model.specs.Checks.{cleared}
use Rattle.model.specs.Services.{read_forward, Remainder, moves_after, none_after, remainder_of, finishing, remainder, Images, read_images}
use Rattle.model.specs.Areas.{Compares, remainder_bytes, output_after, workspace_after}
use Rattle.model.specs.Stated.{refusal, counted, remaining}
use Rattle.model.specs.declared.answers.Refusal.{Refusal}
use Rattle.model.specs.declared.answers.Remaining.{Remaining}
use Rattle.std.specs.Prelude.{Ok, Err}
use Rattle.std.specs.declared.result.Result.{Result}
use Rattle.model.specs.declared.answers.Remaining.TheVariants.{Nothing}
use Rattle.model.proofs.Outcomes.{still_refused}
use Rattle.theory.specs.Remainders.{RemainderMeaning}
use Rattle.theory.proofs.Remainders.{lighter, as_heavy, remainder_meaning}
use Rattle.loading.proofs.Outcomes.{AsFound, refused_stated, refused_output}
use Rattle.loading.proofs.Reading.{programs_refused, programs_run}
use Rattle.remainders.specs.Remainder.{States, moves_left, RemainderSays, RemainderPromise}

-- TWO PROGRAMS UNDER A LOADED TABLE

module _ (T : Presentation) (u v : Positive) (budget room : ℕ) (before : List ℕ) where
  -- a table that does not clear
  pub no_clear : (r : Refusal) → refusal r ≡ cleared T budget room → States (finishing T u v budget room (length before)) before before (Err r)
  unfolding finishing
  no_clear r e =
      subst (λ o. States o before before (Err r)) (sym (still_refused (cleared T budget room) r (sym e) _)) (record { result = refl; area = refl })

  module _ (clear : answered tt ≡ cleared T budget room) where
    pub pattern_light : weigh T v < weigh T u → States (finishing T u v budget room (length before)) before before (Ok (Nothing 0))
    pattern_light h =
        subst (λ o. States o before before (Ok (Nothing 0))) (sym (lighter T u v budget room (length before) (sym clear) h))
        (record { result = refl; area = refl })

    pub pattern_heavy : weigh T u ≤ weigh T v → {after : List ℕ} {r : Result Remaining Refusal}
        → States (remainder_of (length before) (reversing T budget room (negative u ++ positive v))) before after r
        → States (finishing T u v budget room (length before)) before after r
    pattern_heavy h {after} {r} = subst (λ o. States o before after r) (sym (as_heavy T u v budget room (length before) (sym clear) h))

-- THE SERVICE

counted_workspace : (o : Outcome (Remainder Positive)) (area : List ℕ) → workspace_after (mapped counted o) area ≡ workspace_after o area
counted_workspace (answered x) area = refl
counted_workspace (refused n ps) area = refl

-- the area gives back the moves that were written
left_outcome : (o : Outcome (Remainder Positive)) (before : List ℕ) → mapped (moves_left (output_after remainder_bytes o before)) (mapped counted o) ≡ o
left_outcome (answered (moves_after m k)) before = ap (λ l. answered (moves_after l k)) (take-append_seam m (drop (length m) before))
left_outcome (answered (none_after k)) before = refl
left_outcome (refused n ps) before = refl

module _ (table done pattern : List ℕ) (budget room area : ℕ) where
  abbrev concludes : Images Positive → Outcome (Remainder Positive)
  concludes p = finishing p.table p.first p.second budget room area

  remainder_refused : (r : Refusal) → read_images read_forward table done pattern ≡ refusal r → AsFound (remainder table done pattern budget room area) r
  unfolding remainder
  remainder_refused = programs_refused table done pattern concludes

  remainder_runs : (T : Presentation) (u v : Positive) → Compares table done pattern T u v
      → remainder table done pattern budget room area ≡ finishing T u v budget room area
  unfolding remainder
  remainder_runs = programs_run table done pattern concludes

  remainder_says : (told : Outcome (Remainder ℕ)) (before after : List ℕ) → told ≡ mapped counted (remainder table done pattern budget room area)
      → after ≡ output_after remainder_bytes (remainder table done pattern budget room area) before
      → RemainderSays table done pattern budget room area told after
  remainder_says told before after t a T u v c =
      let left = ap₂ (λ x y. mapped (moves_left x) y) a t ∙ (left_outcome (remainder table done pattern budget room area) before ∙ remainder_runs T u v c) in
      subst (RemainderMeaning T u v budget room area) (sym left) (remainder_meaning T u v budget room area)

-- THE PROMISE

module _ (table done pattern : List ℕ) (budget : ℕ) (area before : List ℕ) where
  pub promised_refused : (r : Refusal) → read_images read_forward table done pattern ≡ refusal r
      → RemainderPromise table done pattern budget area area before before (refusal r)
  promised_refused r e =
      let o = remainder_refused table done pattern budget (length area) (length before) r e in
      let told = refused_stated _ r (sym o.stated) counted in
      let written = refused_output _ r (sym o.stated) remainder_bytes before in
      record {
        stated = told;
        answer_is = written;
        workspace_is = o.workspace area;
        meaning = remainder_says table done pattern budget (length area) (length before) _ before _ told written;
      }

  pub promised_states : (T : Presentation) (u v : Positive) → Compares table done pattern T u v → (area' after : List ℕ) (r : Result Remaining Refusal)
      → area' ≡ workspace_after (remaining r) area → States (finishing T u v budget (length area) (length before)) before after r
      → RemainderPromise table done pattern budget area area' before after (remaining r)
  promised_states T u v c area' after r w q =
      let o = sym (remainder_runs table done pattern budget (length area) (length before) T u v c) in
      let told = q.result ∙ ap (mapped counted) o in
      let written = q.area ∙ ap (λ x. output_after remainder_bytes x before) o in
      record {
        stated = told;
        answer_is = written;
        workspace_is =
            w
            ∙ (ap (λ x. workspace_after x area) told
            ∙ counted_workspace (remainder table done pattern budget (length area) (length before)) area);
        meaning = remainder_says table done pattern budget (length area) (length before) _ before _ told written;
      }
