-- What a comparison's outcome means once the table clears: joined words reverse to the empty word and no others do, so each verdict is right
-- and every other outcome is a stop ([D3] Prop. 4.4 and [D2] Prop. 6.1, for the tables that the two checks pass).
-- From `clear_complete` for joined words, and from `derives_empty` for those that reverse to the empty word.
-- Main names: `joined_empties`, `empties_joined`, `comparison_means`, `same_joined`, `different_apart`.
use mathlib.Core.Path.{◌≡◌, refl, sym, ap, subst, ◌∙◌}
use mathlib.Core.Logic.{◌≢◌}
use mathlib.Core.List.{[], ◌∷◌, ◌++◌}
use mathlib.Core.Bool.{cond}
use Prim.Native.Nat.{ℕ}
use native.Mathlib.Decide.{ℕ_discrete}
use borrow.Author.Tests.{eq-eqb, ne_eqb}
use Rattle.model.specs.Word.{Positive, positive, negative}
use Rattle.model.specs.Presentation.{Presentation, weight_of, weigh}
use Rattle.model.specs.Reversing.{Stop, no_budget, no_room, Ending, finished, open_pair, stopped, reversing, Finishes, EndsEmpty, CoversSteps, CoversRoom}
use Rattle.model.specs.Reversing.{differing}
use Rattle.model.specs.Equivalence.{Joined}
use Rattle.model.specs.Outcome.{unplaced, Outcome, answered, refused, ◌>>=◌}
use Rattle.model.specs.Checks.{stop_number, cleared}
use Rattle.model.specs.Services.{Verdict, same_after, different_after, judged, verdict_of, forward_verdict, comparison}
use Rattle.model.proofs.Impossible.{impossible}
use Rattle.model.proofs.Leftmost.{open_unfinished}
use Rattle.model.proofs.Endings.{Ends, reversing_ends, ends_reversing}
use Rattle.model.proofs.Joining.{equiv_joined, joined_equiv, joined_weight}
use Rattle.theory.proofs.Grid.{derives_empty, same_grid}
use Rattle.theory.proofs.Diagram.{finishes, draw}
use Rattle.theory.proofs.Clearing.{clear_homogeneous, clear_complete}

-- an outcome of a comparison of u and v, and what it says of them
pub data Meaning (T : Presentation) (u v : Positive) : Outcome Verdict → Type 0 where
  same : (k r : ℕ) → Joined T u v → Meaning T u v (answered (same_after k r))
  different : (k : ℕ) → (Joined T u v → ⊥) → Meaning T u v (answered (different_after k))
  out_of_budget : Meaning T u v (refused 11 unplaced)
  out_of_room : Meaning T u v (refused 12 unplaced)

-- THE CASES OF A COMPARISON

module _ (T : Presentation) (u v : Positive) (budget room : ℕ) where
  -- only a table that clears leads to an answer
  pub answered_clear : {verdict : Verdict} → comparison T u v budget room ≡ answered verdict → cleared T budget room ≡ answered tt
  unfolding comparison
  answered_clear {verdict} h = go (cleared T budget room) h
    where
      go : (o : Outcome (Unit {0})) → (o >>= λ ok. forward_verdict T u v budget room) ≡ answered verdict → o ≡ answered tt
      go (answered x) e = refl
      go (refused n ps) e = impossible (cc)

  module _ (clear : cleared T budget room ≡ answered tt) where
    -- what is left of it
    pub compared_forward : comparison T u v budget room ≡ forward_verdict T u v budget room
    unfolding comparison
    compared_forward = ap (λ o. o >>= λ ok. forward_verdict T u v budget room) clear

    compared_equal : weigh T u ≡ weigh T v → comparison T u v budget room ≡ verdict_of (reversing T budget room (negative u ++ positive v))
    compared_equal h =
        let after = verdict_of (reversing T budget room (negative u ++ positive v)) in
        compared_forward ∙ ap (λ t. cond t after (answered (different_after 0))) (eq-eqb (weigh T u) (weigh T v) h)

    compared_unequal : weigh T u ≢ weigh T v → comparison T u v budget room ≡ answered (different_after 0)
    compared_unequal h =
        let after = verdict_of (reversing T budget room (negative u ++ positive v)) in
        compared_forward ∙ ap (λ t. cond t after (answered (different_after 0))) (ne_eqb (weigh T u) (weigh T v) h)

    -- JOINED WORDS AND THE EMPTY WORD

    pub joined_empties : Joined T u v → EndsEmpty T (negative u ++ positive v)
    joined_empties j =
        let g = clear_complete T budget room clear u v (joined_equiv T u v j) in
        (g.0, finishes g.1)

    pub joined_same_after : Joined T u v → (k : ℕ) (run : Finishes T (negative u ++ positive v) [] [] k) → CoversSteps budget run → CoversRoom room run
        → comparison T u v budget room ≡ answered (same_after k (differing run))
    joined_same_after j k run within fits =
        compared_equal (joined_weight T (weight_of T) (clear_homogeneous T budget room clear) u v j)
        ∙ ap verdict_of
        (ends_reversing T budget room (negative u ++ positive v) (finished [] [] k (differing run))
        (record { run = run; within = within; fits = fits; differ = refl }))

    pub empties_joined : {k : ℕ} → Finishes T (negative u ++ positive v) [] [] k → Joined T u v
    empties_joined f = equiv_joined T (derives_empty (draw u v [] [] f)).path

    not_empty : (n d : Positive) {k : ℕ} → Finishes T (negative u ++ positive v) n d k → Joined T u v → (n ≡ []) × (d ≡ [])
    not_empty n d f j =
        let e = joined_empties j in
        let same = same_grid (draw u v n d f) (draw u v [] [] e.1) in
        (same.0, same.1)

    -- WHAT EACH ENDING MEANS

    judged_means : (n d : Positive) {k : ℕ} (r : ℕ) → Finishes T (negative u ++ positive v) n d k → Meaning T u v (answered (judged n d k r))
    judged_means [] [] {k} r f = same k r (empties_joined f)
    judged_means [] (x ∷ d) {k} r f =
        different k (λ j. let e = (not_empty [] (x ∷ d) f j).1 in impossible (cc))
    judged_means (x ∷ n) d {k} r f =
        different k (λ j. let e = (not_empty (x ∷ n) d f j).0 in impossible (cc))

    stop_means : (s : Stop) → Meaning T u v (refused (stop_number s) unplaced)
    stop_means no_budget = out_of_budget
    stop_means no_room = out_of_room

    ending_means : (end : Ending) → Ends T budget room (negative u ++ positive v) end → Meaning T u v (verdict_of end)
    ending_means (finished n d k r) t = judged_means n d r t.run
    ending_means (open_pair a b k) t =
        different k (λ j. open_unfinished T t.reached.run t.here t.undefined_there [] [] (joined_empties j).1)
    ending_means (stopped s) t = stop_means s

    pub comparison_means : Meaning T u v (comparison T u v budget room)
    comparison_means = go (ℕ_discrete (weigh T u) (weigh T v))
      where
        go : Dec (weigh T u ≡ weigh T v) → Meaning T u v (comparison T u v budget room)
        go (yes h) =
            subst (Meaning T u v) (sym (compared_equal h))
            (ending_means (reversing T budget room (negative u ++ positive v)) (reversing_ends T budget room (negative u ++ positive v)))
        go (no h) =
            subst (Meaning T u v) (sym (compared_unequal h))
            (different 0 (λ j. h (joined_weight T (weight_of T) (clear_homogeneous T budget room clear) u v j)))

  -- AND WHAT THE OUTCOME TELLS

  means_joined : {o : Outcome Verdict} (k r : ℕ) → Meaning T u v o → o ≡ answered (same_after k r) → Joined T u v
  means_joined k r (same k' r' j) e = j
  means_joined k r (different k' a) e = impossible (cc)
  means_joined k r out_of_budget e = impossible (cc)
  means_joined k r out_of_room e = impossible (cc)

  means_apart : {o : Outcome Verdict} (k : ℕ) → Meaning T u v o → o ≡ answered (different_after k) → Joined T u v → ⊥
  means_apart k (same k' r' j) e i = impossible (cc)
  means_apart k (different k' a) e i = a i
  means_apart k out_of_budget e i = impossible (cc)
  means_apart k out_of_room e i = impossible (cc)

  pub same_joined : (k r : ℕ) → comparison T u v budget room ≡ answered (same_after k r) → Joined T u v
  same_joined k r e = means_joined k r (comparison_means (answered_clear e)) e

  pub different_apart : (k : ℕ) → comparison T u v budget room ≡ answered (different_after k) → Joined T u v → ⊥
  different_apart k e = means_apart k (comparison_means (answered_clear e)) e
