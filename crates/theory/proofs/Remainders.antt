-- What the outcome of remainder means once the table clears: u divides v on the left exactly if the reversing of u's inverse, then v, finishes
-- with an empty denominator, and then the numerator is the residual, up to equivalence ([D1] section 1, for the tables that the checks pass).
-- From `clear_complete` and the laws of Cancelling.antt, after [D1] Lemmas 1.3 and 1.4. Main names: `remainder_meaning`, `left_cancelling`.
use mathlib.Core.Path.{◌≡◌, refl, sym, ap, subst, ◌∙◌}
use mathlib.Core.List.{[], ◌∷◌, ◌++◌}
use mathlib.Core.Bool.{Bool, true, false, cond}
use Prim.Native.Nat.{ℕ, ◌≤◌, ◌<◌}
use native.Mathlib.Omega.{arith}
use native.Mathlib.Decide.{dec_lt}
use lib.Dec.{ltb}
use lib.ListN.{length}
use borrow.Author.Tests.{lt-ltb, le-ltb, ltb-true}
use Rattle.model.specs.Word.{Positive, positive, negative}
use Rattle.model.specs.Presentation.{Presentation, complete, weight_of, weigh}
use Rattle.model.specs.Reversing.{Stop, no_budget, no_room, Ending, finished, open_pair, stopped, reversing, Finishes, Residuals, CoversSteps, CoversRoom}
use Rattle.model.specs.Reversing.{differing}
use Rattle.model.specs.Equivalence.{Joined}
use Rattle.model.specs.Outcome.{unplaced, Outcome, answered, refused, ◌>>=◌, unless}
use Rattle.model.specs.Checks.{stop_number, cleared}
use Rattle.model.specs.Services.{Remainder, moves_after, none_after, remainder_of, finishing}
use Rattle.model.proofs.Impossible.{impossible}
use Rattle.model.proofs.Complete.{complete_turn}
use Rattle.model.proofs.Leftmost.{open_unfinished}
use Rattle.model.proofs.Endings.{Ends, reversing_ends, ends_reversing}
use Rattle.model.proofs.Equiv.{total_append}
use Rattle.model.proofs.Joining.{equiv_joined, joined_equiv, joined_weight}
use Rattle.theory.specs.Remainders.{Completes, Concluded, concluded, by_allowance, by_workspace, by_area, RemainderMeaning}
use Rattle.theory.proofs.Grid.{same_grid}
use Rattle.theory.proofs.Diagram.{finishes, draw}
use Rattle.theory.proofs.Clearing.{clear_homogeneous, clear_complete}
use Rattle.theory.proofs.Cancelling.{Divides, multiple, divides, quotients_agree, cancel_left}

-- an outcome for u and v, and what it says of them
pub data Meaning (T : Presentation) (u v : Positive) (area : ℕ) : Outcome (Remainder Positive) → Type 0 where
  moves : (m : Positive) (k : ℕ) → Finishes T (negative u ++ positive v) m [] k → Completes T u v m → Meaning T u v area (answered (moves_after m k))
  none : (k : ℕ) → ((m : Positive) → Completes T u v m → ⊥) → Meaning T u v area (answered (none_after k))
  out_of_budget : Meaning T u v area (refused 11 unplaced)
  out_of_room : Meaning T u v area (refused 12 unplaced)
  out_of_area : (m : Positive) → Completes T u v m → area < length m → Meaning T u v area (refused 13 unplaced)

module _ (T : Presentation) (u v : Positive) (budget room area : ℕ) where
  abbrev after : Outcome (Remainder Positive)
  after = cond (ltb (weigh T v) (weigh T u)) (answered (none_after 0)) (remainder_of area (reversing T budget room (negative u ++ positive v)))

  -- only a table that clears leads to an answer
  answered_clear : {r : Remainder Positive} → finishing T u v budget room area ≡ answered r → cleared T budget room ≡ answered tt
  unfolding finishing
  answered_clear {r} h = go (cleared T budget room) h
    where
      go : (o : Outcome (Unit {0})) → (o >>= λ ok. after) ≡ answered r → o ≡ answered tt
      go (answered x) e = refl
      go (refused n ps) e = impossible (cc)

  module _ (clear : cleared T budget room ≡ answered tt) where
    -- THE CASES OF A REMAINDER

    pub lighter : weigh T v < weigh T u → finishing T u v budget room area ≡ answered (none_after 0)
    unfolding finishing
    lighter h =
        ap (λ o. o >>= λ ok. after) clear
        ∙ ap (λ t. cond t (answered (none_after 0)) (remainder_of area (reversing T budget room (negative u ++ positive v)))) (lt-ltb (weigh T v) (weigh T u) h)

    pub as_heavy : weigh T u ≤ weigh T v → finishing T u v budget room area ≡ remainder_of area (reversing T budget room (negative u ++ positive v))
    unfolding finishing
    as_heavy h =
        ap (λ o. o >>= λ ok. after) clear
        ∙ ap (λ t. cond t (answered (none_after 0)) (remainder_of area (reversing T budget room (negative u ++ positive v)))) (le-ltb (weigh T v) (weigh T u) h)

    -- WORDS THAT FINISH THE PATTERN

    quotient_of : (m : Positive) → Completes T u v m → Divides (complete T) u v m
    quotient_of m c = divides (complete_turn T) (clear_complete T budget room clear) u (joined_equiv T (u ++ m) v c)

    completes_heavy : (m : Positive) → Completes T u v m → weigh T u ≤ weigh T v
    completes_heavy m c =
        omega (arith, joined_weight T (weight_of T) (clear_homogeneous T budget room clear) (u ++ m) v c, total_append (weight_of T) u m)

    defined : (m : Positive) → Completes T u v m → (n : Positive) × Residuals T u v n []
    defined m c = let q = quotient_of m c in (q.n, (q.k, finishes q.grid))

    finishes_completes : (n : Positive) {k : ℕ} → Finishes T (negative u ++ positive v) n [] k → Completes T u v n
    finishes_completes n f = equiv_joined T (multiple (draw u v n [] f))

    -- a reversing with another denominator leaves no word that finishes the pattern
    no_divisor : (n d : Positive) {k : ℕ} → Finishes T (negative u ++ positive v) n d k → (m : Positive) → Completes T u v m → d ≡ []
    no_divisor n d f m c = (same_grid (draw u v n d f) (quotient_of m c).grid).1

    joined_completions : (m m' : Positive) → Completes T u v m → Completes T u v m' → Joined T m m'
    joined_completions m m' c c' =
        equiv_joined T
        (quotients_agree (complete_turn T) (clear_complete T budget room clear) u (joined_equiv T (u ++ m) v c) (joined_equiv T (u ++ m') v c'))

    -- WHAT EACH ENDING MEANS

    area_means : (n : Positive) (k : ℕ) → Finishes T (negative u ++ positive v) n [] k → (t : Bool) → ltb area (length n) ≡ t
        → Meaning T u v area (unless t 13 (moves_after n k))
    area_means n k f true e = out_of_area n (finishes_completes n f) (ltb-true area (length n) e)
    area_means n k f false e = moves n k f (finishes_completes n f)

    stop_means : (s : Stop) → Meaning T u v area (refused (stop_number s) unplaced)
    stop_means no_budget = out_of_budget
    stop_means no_room = out_of_room

    ending_means : (end : Ending) → Ends T budget room (negative u ++ positive v) end → Meaning T u v area (remainder_of area end)
    ending_means (finished n [] k r) t = area_means n k t.run (ltb area (length n)) refl
    ending_means (finished n (x ∷ d) k r) t =
        none k (λ m c. let e = no_divisor n (x ∷ d) t.run m c in impossible (cc))
    ending_means (open_pair a b k) t =
        none k (λ m c. let q = quotient_of m c in open_unfinished T t.reached.run t.here t.undefined_there q.n [] (finishes q.grid))
    ending_means (stopped s) t = stop_means s

    remainder_means : Meaning T u v area (finishing T u v budget room area)
    remainder_means = go (dec_lt (weigh T v) (weigh T u))
      where
        go : Dec (weigh T v < weigh T u) → Meaning T u v area (finishing T u v budget room area)
        go (yes h) = subst (Meaning T u v area) (sym (lighter h)) (none 0 (λ m c. omega (arith, completes_heavy m c)))
        go (no h) =
            subst (Meaning T u v area) (sym (as_heavy (omega arith)))
            (ending_means (reversing T budget room (negative u ++ positive v)) (reversing_ends T budget room (negative u ++ positive v)))

    covered : (m : Positive) → Completes T u v m → (n : Positive) (k : ℕ) (run : Finishes T (negative u ++ positive v) n [] k) → CoversSteps budget run
        → CoversRoom room run → finishing T u v budget room area ≡ unless (ltb area (length n)) 13 (moves_after n k)
    covered m c n k run within fits =
        as_heavy (completes_heavy m c)
        ∙ ap (remainder_of area)
        (ends_reversing T budget room (negative u ++ positive v) (finished n [] k (differing run))
        (record { run = run; within = within; fits = fits; differ = refl }))

  -- AND WHAT THE OUTCOME TELLS

  means_moves : {o : Outcome (Remainder Positive)} (m : Positive) (k : ℕ) → Meaning T u v area o → o ≡ answered (moves_after m k)
      → Completes T u v m × Finishes T (negative u ++ positive v) m [] k
  means_moves m k (moves m' k' f c) e =
      let em : m' ≡ m = cc in
      let ek : k' ≡ k = cc in (
        subst (Completes T u v) em c,
        subst (λ i. Finishes T (negative u ++ positive v) m [] i) ek
            (subst (λ x. Finishes T (negative u ++ positive v) x [] k') em f),
      )
  means_moves m k (none k' a) e = impossible (cc)
  means_moves m k out_of_budget e = impossible (cc)
  means_moves m k out_of_room e = impossible (cc)
  means_moves m k (out_of_area m' c h) e = impossible (cc)

  means_none : {o : Outcome (Remainder Positive)} (k : ℕ) → Meaning T u v area o → o ≡ answered (none_after k) → (m : Positive) → Completes T u v m → ⊥
  means_none k (moves m' k' f c) e = impossible (cc)
  means_none k (none k' a) e = a
  means_none k out_of_budget e = impossible (cc)
  means_none k out_of_room e = impossible (cc)
  means_none k (out_of_area m' c h) e = impossible (cc)

  means_short : {o : Outcome (Remainder Positive)} → Meaning T u v area o → o ≡ refused 13 unplaced → (m : Positive) × Completes T u v m × (area < length m)
  means_short (moves m k f c) e = impossible (cc)
  means_short (none k a) e = impossible (cc)
  means_short out_of_budget e = impossible (cc)
  means_short out_of_room e = impossible (cc)
  means_short (out_of_area m c h) e = (m, c, h)

  as_concluded : {o : Outcome (Remainder Positive)} → Meaning T u v area o → Concluded o
  as_concluded (moves m k f c) = concluded (moves_after m k)
  as_concluded (none k a) = concluded (none_after k)
  as_concluded out_of_budget = by_allowance
  as_concluded out_of_room = by_workspace
  as_concluded (out_of_area m c h) = by_area

  pub remainder_meaning : RemainderMeaning T u v budget room area (finishing T u v budget room area)
  remainder_meaning =
      record {
        moves_complete = λ m k e. (means_moves m k (remainder_means (answered_clear e)) e).0;
        moves_residual = λ m k e. (means_moves m k (remainder_means (answered_clear e)) e).1;
        none_completes = λ k e. means_none k (remainder_means (answered_clear e)) e;
        moves_none_or_stop = λ clear. as_concluded (remainder_means clear);
        short_area = λ clear e. means_short (remainder_means clear) e;
        complement_defined = defined;
        answers_moves = covered;
        completions_joined = joined_completions;
      }

-- under a table that clears, what two joined words begin with can be taken off both
pub left_cancelling : (T : Presentation) (budget room : ℕ) → cleared T budget room ≡ answered tt → (u m m' : Positive) → Joined T (u ++ m) (u ++ m')
    → Joined T m m'
left_cancelling T budget room clear u m m' j =
    equiv_joined T
    (cancel_left (complete_turn T) (clear_complete T budget room clear) u (joined_equiv T (u ++ m) (u ++ m') j))
