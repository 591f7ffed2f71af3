-- The invariant of the whole loop: the reversing from the start is the run from here. What it is at the start, after a step, and at each end.
use mathlib.Core.Path.{◌≡◌, refl, sym, ap, ap₂, subst, ◌∙◌}
use mathlib.Core.List.{List, reverse}
use mathlib.Core.Bool.{Bool, true, false, cond}
use Prim.Native.Nat.{ℕ, suc, ◌+◌, ◌-◌, ◌≤◌, ◌<◌}
use native.Mathlib.Omega.{arith}
use native.Mathlib.Numerals.{add-one}
use lib.Dec.{eqb}
use borrow.Author.Tests.{eq-eqb, ne_eqb}
use lib.ListN.{length, take, length-append, length-take, length-drop}
use Rattle.model.specs.Word.{Word, forwards, backs}
use Rattle.model.specs.Presentation.{Presentation}
use Rattle.model.specs.Reversing.{Ending, open_pair, stopped, no_budget, no_room, ended, count, run, reversing}
use Rattle.model.specs.Stated.{ending_answer}
use Rattle.model.specs.declared.answers.Ending.{Ending as EndingAnswer}
use Rattle.model.specs.declared.answers.Ending.TheVariants.{Finished, Undefined, Stopped}
use Rattle.model.specs.declared.answers.Stop.{Stop}
use Rattle.model.specs.declared.answers.Stop.TheVariants.{Budget, Room}
use Rattle.model.specs.declared.answers.Pair.{Pair}
use Rattle.engine.specs.declared.gap.Gap.{Gap}
use Rattle.engine.specs.declared.step.Turn.TheVariants.{Final, Stepped, Undefined as Turn-as-Undefined, Stopped as Turn-as-Stopped}
use Rattle.engine.specs.Gap.{letters, word_at, Searched}
use Rattle.model.specs.Range.{Lettered}
use Rattle.cells.specs.Stands.{Serves}
use Rattle.engine.specs.Turn.{TurnMeans}
use Rattle.engine.specs.Run.{LeavesWord, LeavesLetters, Reverses}
use Rattle.engine.proofs.Letters.{length_letters}
use Rattle.engine.proofs.Runs.{run_none, run_open, run_spent, run_room, run_step, run_begun}
use Rattle.engine.proofs.AtGap.{end_word}
use Rattle.engine.proofs.Counting.{denominator_length, end_fraction, end_holds}

pub record Progress (cells : List ℕ) (word : Word) (budget room : ℕ) (bytes : List ℕ) (left right steps relations : ℕ) : Type 0 where
  pub kept : length bytes ≡ room
  pub searched : Searched bytes left right
  pub within : steps ≤ budget
  pub few : relations ≤ steps
  pub lettered : (T : Presentation) → Serves cells word T → Lettered T.size (word_at bytes left right)
  pub same : (T : Presentation) → Serves cells word T
      → reversing T budget room word ≡ run T room (budget - steps) steps relations (word_at bytes left right)

-- a word with a gap is no longer than the workspace
pub word_fits : (bytes : List ℕ) (left right : ℕ) → Searched bytes left right → length (word_at bytes left right) ≤ length bytes
unfolding word_at
word_fits bytes left right s =
    simp (length_letters, length-append, length-take, length-drop) (omega (arith, s.ordered, s.inside))

pub begun : (cells bytes : List ℕ) (left right budget : ℕ) → Searched bytes left right
    → Progress cells (word_at bytes left right) budget (length bytes) bytes left right 0 0
begun cells bytes left right budget s =
    let e : budget ≡ budget - 0 = omega arith in
    record {
      kept = refl;
      searched = s;
      within = omega arith;
      few = omega arith;
      lettered = λ T t. t.lettered;
      same = λ T t.
          run_begun T budget (length bytes) (word_at bytes left right) (word_fits bytes left right s)
          ∙ ap (λ i. run T (length bytes) i 0 0 (word_at bytes left right)) e;
    }

-- steps on two different letters
pub count_equal : (a b r : ℕ) → a ≡ b → count a b r ≡ r
count_equal a b r e = ap (λ t. cond t r (suc r)) (eq-eqb a b e)

pub count_different : (a b r : ℕ) → (a ≡ b → ⊥) → count a b r ≡ r + 1
count_different a b r e = ap (λ t. cond t r (suc r)) (ne_eqb a b e) ∙ sym (add-one r)

pub count_within : (a b r : ℕ) → count a b r ≤ r + 1
count_within a b r = go (eqb a b)
  where
    go : (t : Bool) → cond t r (suc r) ≤ r + 1
    go true = omega arith
    go false = omega arith

module _ {cells : List ℕ} {word : Word} {budget room : ℕ} {bytes : List ℕ} {left right steps relations : ℕ}
    (p : Progress cells word budget room bytes left right steps relations) where
  abbrev now : Word
  now = word_at bytes left right

  pub serves_now : (T : Presentation) → Serves cells word T → Serves cells now T
  serves_now T t = record { stands = t.stands; lettered = p.lettered T t }

  module _ (after : List ℕ) (n : length after ≡ length bytes) where
    after_room : length after ≡ room
    after_room = n ∙ p.kept

    -- what an answer needs: the run from here
    answers : (T : Presentation) → Serves cells word T → (e : Ending) → run T room (budget - steps) steps relations now ≡ e
        → (r : EndingAnswer) → r ≡ ending_answer e → LeavesWord e after → LeavesLetters T.size e → Reverses T word budget after r
    answers T t e h r f held names =
        let g : reversing T budget (length after) word ≡ e = ap (λ i. reversing T budget i word) after_room ∙ (p.same T t ∙ h) in
        record {
          answer = f ∙ sym (ap ending_answer g);
          holds = subst (λ d. LeavesWord d after) (sym g) held;
          named =
              subst (LeavesLetters T.size) (sym g) names;
        }

    pub final_inside : (g : Gap) → TurnMeans cells now (budget - steps) after (Final g) → (T : Presentation) → Serves cells word T → g.left ≤ length after
    final_inside g m T t = let d = m T (serves_now T t) in omega (arith, d.1.ordered, d.1.all)

    pub finishes : (g : Gap) (k : ℕ) → k ≡ length (forwards (letters (take g.left after))) → TurnMeans cells now (budget - steps) after (Final g)
        → (T : Presentation) → Serves cells word T → Reverses T word budget after (Finished k (g.left - k) steps relations)
    finishes g k e m T t =
        let d = m T (serves_now T t) in
        let numerator : k ≡ length (forwards now) = e ∙ ap (λ w. length (forwards w)) (sym (end_word d.1)) in
        let denominator : g.left - k ≡ length (reverse (backs now)) = ap (λ i. g.left - i) numerator ∙ sym (denominator_length d.1) in
        answers T t (ended now steps relations) (run_none T room (budget - steps) steps relations now d.0)
        (Finished k (g.left - k) steps relations)
        (ap₂ (λ i j. Finished i j steps relations) numerator denominator)
        (end_holds d.1 steps relations)
        (subst (Lettered T.size) (end_fraction d.1) (p.lettered T t))

    pub meets : (q : Pair) → TurnMeans cells now (budget - steps) after (Turn-as-Undefined q)
        → (T : Presentation) → Serves cells word T → Reverses T word budget after (Undefined q steps)
    meets q m T t =
        answers T t (open_pair q.a q.b steps) (run_open T room (budget - steps) steps relations now (m T (serves_now T t))) (Undefined q steps) refl tt
        tt

    pub stops : (s : Stop) → TurnMeans cells now (budget - steps) after (Turn-as-Stopped s)
        → (T : Presentation) → Serves cells word T → Reverses T word budget after (Stopped s)
    stops Budget m T t =
        let d = m T (serves_now T t) in
        answers T t (stopped no_budget) (run_spent T room (budget - steps) steps relations now d.0 d.1.taken) (Stopped Budget) refl tt tt
    stops Room m T t =
        let d = m T (serves_now T t) in
        answers T t (stopped no_room)
        (run_room T room (budget - steps) steps relations now d.1.taken d.0 (omega (arith, d.1.long, after_room)))
        (Stopped Room)
        refl
        tt
        tt

    module _ (g : Gap) (q : Pair) (m : TurnMeans cells now (budget - steps) after (Stepped g q)) where
      -- a step was left
      pub left_over : (T : Presentation) → Serves cells word T → steps < budget
      left_over T t = omega (arith, (m T (serves_now T t)).0)

      pub advances : (T₀ : Presentation) → Serves cells word T₀ → (more : ℕ) → count q.a q.b relations ≡ more → more ≤ steps + 1
          → Progress cells word budget room after g.left g.right (steps + 1) more
      advances T₀ t₀ more e few =
          record {
            kept = after_room;
            searched = (m T₀ (serves_now T₀ t₀)).1.searched;
            within = omega (arith, left_over T₀ t₀);
            few = few;
            lettered = λ T t. (m T (serves_now T t)).1.lettered;
            same = λ T t. onward T t;
          }
        where
          onward : (T : Presentation) → Serves cells word T
              → reversing T budget room word ≡ run T room (budget - (steps + 1)) (steps + 1) more (word_at after g.left g.right)
          onward T t =
              let d = m T (serves_now T t) in
              let f : budget - steps ≡ suc (budget - (steps + 1)) = omega (arith, left_over T t) in
              let fits : length (word_at after g.left g.right) ≤ room =
              omega (arith, word_fits after g.left g.right d.1.searched, after_room) in
              p.same T t
              ∙ (run_step T room (budget - steps) steps relations now d.1.taken (budget - (steps + 1)) f fits
              ∙ ap₂ (λ i j. run T room (budget - (steps + 1)) i j (word_at after g.left g.right)) (sym (add-one steps)) e)
