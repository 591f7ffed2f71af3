-- Specification 6.18 of the model's `signed_comparison`, for every table in range, words of its letters, budget and room: what its outcome says of the two
-- words. Once the set is closed the first reversing meets no open pair and comes to N and D, which are joined exactly if the words are; that is what the
-- comparison of N and D as positive words decides.
-- From `set_closed`, `signed_meaning`, and of N and D `comparison_means`. Main name: `comparison_signed`.
use mathlib.Core.Path.{◌≡◌, refl, sym, ap, subst, ◌∙◌}
use mathlib.Core.List.{List, [], ◌++◌}
use Prim.Native.Nat.{ℕ}
use Rattle.model.specs.Word.{Word, Positive, inverse, positive, negative}
use Rattle.model.specs.Presentation.{Presentation}
use Rattle.model.specs.Reversing.{Stop, no_budget, no_room, Ending, finished, open_pair, stopped, reversing, differing, Finishes, EndsEmpty, CoversSteps}
use Rattle.model.specs.Reversing.{CoversRoom}
use Rattle.model.specs.Equivalence.{Joined}
use Rattle.model.specs.Enumeration.{pairs, triples}
use Rattle.model.specs.Outcome.{unplaced, Outcome, answered, refused, ◌>>=◌, mapped}
use Rattle.model.specs.Range.{LetterInRange, Lettered, TableInRange}
use Rattle.model.specs.Checks.{weight_check, stop_number, cube_check, cleared}
use Rattle.model.specs.Mirror.{mirror, mirror_check}
use Rattle.model.specs.Services.{of_mirror, mirror_cleared, Verdict}
use Rattle.model.specs.Signed.{GroupJoined, grown_set, SignedVerdict, same_after_both, different_after_both, after_first, signed_of, signed_comparison}
use Rattle.model.proofs.Impossible.{impossible}
use Rattle.model.proofs.Endings.{ends_reversing}
use Rattle.theory.specs.Signed.{Settles, SignedReversings, Prepared, VerdictOrStop, a_verdict, by_allowance, by_memory, ComparisonSigned}
use Rattle.theory.proofs.Letters.{all_append, inverse_lettered}
use Rattle.theory.proofs.Orders.{any_order}
use Rattle.theory.proofs.Checked.{went_on, clear_weights}
use Rattle.theory.proofs.Comparison.{Meaning, same, different, out_of_budget, out_of_room, compared_forward, joined_empties, joined_same_after}
use Rattle.theory.proofs.Comparison.{empties_joined, comparison_means}
use Rattle.theory.proofs.GrownSet.{set_closed}
use Rattle.theory.proofs.Signed.{finished_by_some, ends_are_joined, signed_meaning}

-- an outcome of comparing two words of either sign, and what it says of them
data SignedMeans (T : Presentation) (w v : Word) : Outcome SignedVerdict → Type 0 where
  same_signed : (k j : ℕ) → GroupJoined T w v → SignedMeans T w v (answered (same_after_both k j))
  different_signed : (k j : ℕ) → (GroupJoined T w v → ⊥) → SignedMeans T w v (answered (different_after_both k j))
  out_of_steps : SignedMeans T w v (refused 11 unplaced)
  out_of_bytes : SignedMeans T w v (refused 12 unplaced)

-- WHAT COMES BEFORE THE REVERSINGS

module _ (T : Presentation) (inside : TableInRange T) (budget room : ℕ) where
  -- the mirror's clearing is its cube check, once there is a mirror and the table's weights are right
  prepared_settles : (S : List Positive) → Prepared T budget room S → Settles T S
  unfolding mirror_cleared
  prepared_settles S p =
      let cube = of_mirror (cube_check (mirror T) budget room (triples T.size)) in
      record {
        in_range = inside;
        clears = (budget, room, p.clears);
        mirror_clears = (
          budget,
          room,
          ap (λ o. o >>= λ ok. weight_check T (pairs T.size) >>= λ ok. cube) p.has_mirror
              ∙ (ap (λ o. o >>= λ ok. cube) (clear_weights T budget room p.clears) ∙ p.mirror_clears),
        );
        closed = set_closed T inside budget room S p.grown;
      }

  module _ (w v : Word) where
    -- then the outcome is that of the first reversing,
    prepared_outcome : (S : List Positive) → Prepared T budget room S
        → signed_comparison T w v budget room ≡ signed_of T budget room (reversing T budget room (inverse w ++ v))
    unfolding signed_comparison
    prepared_outcome S p =
        let cube = of_mirror (cube_check (mirror T) budget room (triples T.size)) in
        let last = signed_of T budget room (reversing T budget room (inverse w ++ v)) in
        ap (λ o. o >>= λ ok. cleared T budget room >>= λ ok. cube >>= λ ok. grown_set T budget room >>= λ vs. last) p.has_mirror
        ∙ (ap (λ o. o >>= λ ok. cube >>= λ ok. grown_set T budget room >>= λ vs. last) p.clears
        ∙ (ap (λ o. o >>= λ ok. grown_set T budget room >>= λ vs. last) p.mirror_clears
        ∙ ap (λ o. o >>= λ vs. last) p.grown))

    -- and there is no answer without all of it
    answered_prepared : {x : SignedVerdict} → signed_comparison T w v budget room ≡ answered x → (S : List Positive) × Prepared T budget room S
    unfolding signed_comparison
    answered_prepared h =
        let cube = of_mirror (cube_check (mirror T) budget room (triples T.size)) in
        let last = signed_of T budget room (reversing T budget room (inverse w ++ v)) in
        let first = went_on (mirror_check T) (λ ok. cleared T budget room >>= λ ok. cube >>= λ ok. grown_set T budget room >>= λ vs. last) h in
        let second = went_on (cleared T budget room) (λ ok. cube >>= λ ok. grown_set T budget room >>= λ vs. last) first.2 in
        let third = went_on cube (λ ok. grown_set T budget room >>= λ vs. last) second.2 in
        let fourth = went_on (grown_set T budget room) (λ vs. last) third.2 in
        (fourth.0, record { has_mirror = first.1; clears = second.1; mirror_clears = third.1; grown = fourth.1 })

-- THE MEANING

module _ (T : Presentation) (inside : TableInRange T) (budget room : ℕ) (w v : Word) (in_w : Lettered T.size w) (in_v : Lettered T.size v) where
  -- a stop of either reversing
  stop_means : (s : Stop) → SignedMeans T w v (refused (stop_number s) unplaced)
  stop_means no_budget = out_of_steps
  stop_means no_room = out_of_bytes

  -- where N and D are joined exactly if the words are, what an outcome says of N and D
  after_first_lem : (n d : Positive) (k : ℕ) {o : Outcome Verdict} → (GroupJoined T w v → Joined T n d) → (Joined T n d → GroupJoined T w v) → Meaning T n d o
      → SignedMeans T w v (mapped (after_first k) o)
  after_first_lem n d k to from (same j r joined) = same_signed k j (from joined)
  after_first_lem n d k to from (different j apart) = different_signed k j (λ g. apart (to g))
  after_first_lem n d k to from out_of_budget = out_of_steps
  after_first_lem n d k to from out_of_room = out_of_bytes

  module _ (S : List Positive) (p : Prepared T budget room S) where
    -- so the reversings say what they say under such a table
    settles : Settles T S
    settles = prepared_settles T inside budget room S p

    says : SignedReversings T w v
    says = signed_meaning T S settles w v in_w in_v

    -- what each ending of the first reversing comes to
    ending_means : (end : Ending) → reversing T budget room (inverse w ++ v) ≡ end → SignedMeans T w v (signed_of T budget room end)
    ending_means (finished n d k r) e =
        after_first_lem n d k (says.joined_ends budget room n d k r e) (says.ends_joined budget room n d k r e)
        (subst (Meaning T n d) (compared_forward T n d budget room p.clears) (comparison_means T n d budget room p.clears))
    ending_means (open_pair a b k) e = absurd (says.never_open budget room a b k e)
    ending_means (stopped s) e = stop_means s

    comparison_says : SignedMeans T w v (signed_comparison T w v budget room)
    comparison_says =
        subst (SignedMeans T w v) (sym (prepared_outcome T inside budget room w v S p))
        (ending_means (reversing T budget room (inverse w ++ v)) refl)

    -- some order finishes the first reversing, so the leftmost one does; N and D of joined words are joined
    both_end : GroupJoined T w v → (n : Positive) × (d : Positive) × (k : ℕ) × Finishes T (inverse w ++ v) n d k × EndsEmpty T (negative n ++ positive d)
    both_end g =
        let f = finished_by_some T S settles.closed (inverse w ++ v)
        (all_append (LetterInRange T.size) (inverse w) v (inverse_lettered T.size w in_w) in_v) in
        let joined = ends_are_joined T S settles w v in_w in_v f.n f.d f.k f.run g in
        (f.n, f.d, f.k, (any_order T (inverse w ++ v)).same_end f.n f.d f.k f.run, joined_empties T f.n f.d budget room p.clears joined)

    -- both reversings are covered
    both_covered : (n d : Positive) (k j : ℕ) (first : Finishes T (inverse w ++ v) n d k) (second : Finishes T (negative n ++ positive d) [] [] j)
        → CoversSteps budget first → CoversRoom room first → CoversSteps budget second → CoversRoom room second
        → signed_comparison T w v budget room ≡ answered (same_after_both k j)
    both_covered n d k j first second within fits within' fits' =
        let clear = p.clears in
        let ended = ends_reversing T budget room (inverse w ++ v) (finished n d k (differing first))
        (record { run = first; within = within; fits = fits; differ = refl }) in
        let compared = joined_same_after T n d budget room clear (empties_joined T n d budget room clear second) j second within' fits' in
        prepared_outcome T inside budget room w v S p
        ∙ (ap (signed_of T budget room) ended
        ∙ ap (mapped (after_first k)) (sym (compared_forward T n d budget room clear) ∙ compared))

  -- AND WHAT THE OUTCOME TELLS

  means_joined : {o : Outcome SignedVerdict} (k j : ℕ) → SignedMeans T w v o → o ≡ answered (same_after_both k j) → GroupJoined T w v
  means_joined k j (same_signed k' j' g) e = g
  means_joined k j (different_signed k' j' a) e = impossible (cc)
  means_joined k j out_of_steps e = impossible (cc)
  means_joined k j out_of_bytes e = impossible (cc)

  means_apart : {o : Outcome SignedVerdict} (k j : ℕ) → SignedMeans T w v o → o ≡ answered (different_after_both k j) → GroupJoined T w v → ⊥
  means_apart k j (same_signed k' j' g) e = impossible (cc)
  means_apart k j (different_signed k' j' a) e = a
  means_apart k j out_of_steps e = impossible (cc)
  means_apart k j out_of_bytes e = impossible (cc)

  as_verdict_or_stop : {o : Outcome SignedVerdict} → SignedMeans T w v o → VerdictOrStop o
  as_verdict_or_stop (same_signed k j g) = a_verdict (same_after_both k j)
  as_verdict_or_stop (different_signed k j a) = a_verdict (different_after_both k j)
  as_verdict_or_stop out_of_steps = by_allowance
  as_verdict_or_stop out_of_bytes = by_memory

  pub comparison_signed : ComparisonSigned T w v budget room (signed_comparison T w v budget room)
  comparison_signed =
      record {
        same_joined = λ k j e. let s = answered_prepared T inside budget room w v e in means_joined k j (comparison_says s.0 s.1) e;
        different_apart = λ k j e. let s = answered_prepared T inside budget room w v e in means_apart k j (comparison_says s.0 s.1) e;
        closed = set_closed T inside budget room;
        verdict_or_stop = λ S p. as_verdict_or_stop (comparison_says S p);
        settled = signed_meaning T;
        reversings = says;
        ends_empty = both_end;
        answers_same = both_covered;
      }
