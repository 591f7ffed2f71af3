-- The laws of the model's `run`, one for each case of the next word, and what the invariant of the whole loop is after each turn.
use mathlib.Core.Path.{◌≡◌, ap, ◌∙◌}
use mathlib.Core.Bool.{cond}
use Prim.Native.Nat.{ℕ, zero, suc, ◌-◌, ◌≤◌, ◌<◌}
use native.Mathlib.Omega.{arith}
use lib.ListN.{length}
use borrow.Author.Tests.{lt-ltb, le-ltb}
use Rattle.model.specs.Word.{Word}
use Rattle.model.specs.Presentation.{Presentation}
use Rattle.model.specs.Reversing.{no_site, blocked, step, next, no_budget, no_room, open_pair, stopped, ended, count, spent, onward, run, reversing}

module _ (T : Presentation) where
  pub run_none : (room left k r : ℕ) (w : Word) → next T w ≡ no_site → run T room left k r w ≡ ended w k r
  unfolding run
  run_none room zero k r w e = ap (spent w k r) e
  run_none room (suc left) k r w e = ap (onward room w k r (run T room left)) e

  pub run_open : (room left k r : ℕ) (w : Word) {a b : ℕ} → next T w ≡ blocked a b → run T room left k r w ≡ open_pair a b k
  unfolding run
  run_open room zero k r w e = ap (spent w k r) e
  run_open room (suc left) k r w e = ap (onward room w k r (run T room left)) e

  pub run_spent : (room left k r : ℕ) (w : Word) {a b : ℕ} {w' : Word} → left ≡ 0 → next T w ≡ step a b w' → run T room left k r w ≡ stopped no_budget
  unfolding run
  run_spent room left k r w z e = ap (λ i. run T room i k r w) z ∙ ap (spent w k r) e

  module _ (room left k r : ℕ) (w : Word) {a b : ℕ} {w' : Word} (e : next T w ≡ step a b w') where
    taken : (left' : ℕ) → left ≡ suc left' → run T room left k r w ≡ onward room w k r (run T room left') (step a b w')
    unfolding run
    taken left' f = ap (λ i. run T room i k r w) f ∙ ap (onward room w k r (run T room left')) e

    pub run_room : 1 ≤ left → room < length w' → run T room left k r w ≡ stopped no_room
    run_room some long =
        taken (left - 1) (omega arith)
        ∙ ap (λ t. cond t (stopped no_room) (run T room (left - 1) (suc k) (count a b r) w')) (lt-ltb room (length w') long)

    pub run_step : (left' : ℕ) → left ≡ suc left' → length w' ≤ room → run T room left k r w ≡ run T room left' (suc k) (count a b r) w'
    run_step left' f fits =
        taken left' f ∙ ap (λ t. cond t (stopped no_room) (run T room left' (suc k) (count a b r) w')) (le-ltb room (length w') fits)

  pub run_begun : (budget room : ℕ) (w : Word) → length w ≤ room → reversing T budget room w ≡ run T room budget 0 0 w
  unfolding reversing
  run_begun budget room w h = ap (λ t. cond t (stopped no_room) (run T room budget 0 0 w)) (le-ltb room (length w) h)
