-- The laws of the function `reversing`, one for each case: a word too long, one without a site, one at an undefined pair, one with no step left,
-- and one that takes a step. The rest is told by these five; they restate specification 3.2, (i) to (iv).
use mathlib.Core.Path.{◌≡◌, refl, ap, ◌∙◌}
use mathlib.Core.Bool.{Bool, true, false, cond}
use Prim.Native.Nat.{ℕ, zero, suc, ◌≤◌, ◌<◌}
use lib.Dec.{ltb}
use lib.ListN.{length}
use borrow.Author.Tests.{lt-ltb, le-ltb}
use Rattle.model.specs.Word.{Word, Positive}
use Rattle.model.specs.Presentation.{Presentation, undefined, complement, complete}
use Rattle.model.specs.Reversing.{nowhere, at, site, replaced, Next, no_site, blocked, step, by_complement, by_site, next, no_budget, no_room, Ending}
use Rattle.model.specs.Reversing.{finished, open_pair, stopped, ended, count, spent, onward, run, reversing}
use Rattle.model.proofs.Count.{count_past}

-- the ending with one more step, on a and b, in front
abbrev pub prepended : ℕ → ℕ → Ending → Ending
prepended a b (finished n d k r) = finished n d (suc k) (count a b r)
prepended a b (open_pair c e k) = open_pair c e (suc k)
prepended a b (stopped s) = stopped s

-- COUNTING FROM 0 OR FROM 1

spent_prepended : (w : Word) (k r a b : ℕ) (x : Next) → spent w (suc k) (count a b r) x ≡ prepended a b (spent w k r x)
spent_prepended w k r a b no_site = refl
spent_prepended w k r a b (blocked c e) = refl
spent_prepended w k r a b (step c e w') = refl

module _ (room a b : ℕ) (on : ℕ → ℕ → Word → Ending)
    (later : (k r : ℕ) (w : Word) → on (suc k) (count a b r) w ≡ prepended a b (on k r w)) where
  taken_prepended : (k r c e : ℕ) (w : Word) (t : Bool)
      → cond t (stopped no_room) (on (suc (suc k)) (count c e (count a b r)) w) ≡ prepended a b (cond t (stopped no_room) (on (suc k) (count c e r) w))
  taken_prepended k r c e w true = refl
  taken_prepended k r c e w false =
      ap (λ m. on (suc (suc k)) m w) (count_past c e a b r) ∙ later (suc k) (count c e r) w

  onward_prepended : (w : Word) (k r : ℕ) (x : Next) → onward room w (suc k) (count a b r) on x ≡ prepended a b (onward room w k r on x)
  onward_prepended w k r no_site = refl
  onward_prepended w k r (blocked c e) = refl
  onward_prepended w k r (step c e w') = taken_prepended k r c e w' (ltb room (length w'))

module _ (T : Presentation) (room : ℕ) where
  run_prepended : (left a b k r : ℕ) (w : Word) → run T room left (suc k) (count a b r) w ≡ prepended a b (run T room left k r w)
  unfolding run
  run_prepended zero a b k r w = spent_prepended w k r a b (next T w)
  run_prepended (suc left) a b k r w = onward_prepended room a b (run T room left) (run_prepended left a b) w k r (next T w)

-- THE FIVE LAWS

module _ (T : Presentation) where
  next_none : (w : Word) → site w ≡ nowhere → next T w ≡ no_site
  unfolding next
  next_none w e = ap (by_site T) e

  next_open : (w : Word) {p s : Word} {a b : ℕ} → site w ≡ at p a b s → complete T a b ≡ undefined → next T w ≡ blocked a b
  unfolding next
  next_open w {p} {s} {a} {b} e c = ap (by_site T) e ∙ ap (by_complement p a b s) c

  next_step : (w : Word) {p s : Word} {a b : ℕ} {x y : Positive} → site w ≡ at p a b s → complete T a b ≡ complement x y
      → next T w ≡ step a b (replaced p x y s)
  unfolding next
  next_step w {p} {s} {a} {b} e c = ap (by_site T) e ∙ ap (by_complement p a b s) c

  module _ (budget room : ℕ) (w : Word) where
    pub reversing_long : room < length w → reversing T budget room w ≡ stopped no_room
    unfolding reversing
    reversing_long h = ap (λ t. cond t (stopped no_room) (run T room budget 0 0 w)) (lt-ltb room (length w) h)

    begun : length w ≤ room → reversing T budget room w ≡ run T room budget 0 0 w
    unfolding reversing
    begun h = ap (λ t. cond t (stopped no_room) (run T room budget 0 0 w)) (le-ltb room (length w) h)

  run_none : (budget room : ℕ) (w : Word) → next T w ≡ no_site → run T room budget 0 0 w ≡ ended w 0 0
  unfolding run
  run_none zero room w e = ap (spent w 0 0) e
  run_none (suc left) room w e = ap (onward room w 0 0 (run T room left)) e

  run_open : (budget room : ℕ) (w : Word) {a b : ℕ} → next T w ≡ blocked a b → run T room budget 0 0 w ≡ open_pair a b 0
  unfolding run
  run_open zero room w e = ap (spent w 0 0) e
  run_open (suc left) room w e = ap (onward room w 0 0 (run T room left)) e

  run_spent : (room : ℕ) (w : Word) {a b : ℕ} {w' : Word} → next T w ≡ step a b w' → run T room 0 0 0 w ≡ stopped no_budget
  unfolding run
  run_spent room w e = ap (spent w 0 0) e

  run_step : (left room : ℕ) (w : Word) {a b : ℕ} {w' : Word} → next T w ≡ step a b w'
      → run T room (suc left) 0 0 w ≡ cond (ltb room (length w')) (stopped no_room) (run T room left 1 (count a b 0) w')
  unfolding run
  run_step left room w e = ap (onward room w 0 0 (run T room left)) e

  fits_prepended : (left room a b : ℕ) (w : Word) (t : Bool)
      → cond t (stopped no_room) (run T room left 1 (count a b 0) w) ≡ prepended a b (cond t (stopped no_room) (run T room left 0 0 w))
  fits_prepended left room a b w true = refl
  fits_prepended left room a b w false = run_prepended T room left a b 0 0 w

  pub reversing_none : (budget room : ℕ) (w : Word) → length w ≤ room → site w ≡ nowhere → reversing T budget room w ≡ ended w 0 0
  reversing_none budget room w h e = begun budget room w h ∙ run_none budget room w (next_none w e)

  pub reversing_open : (budget room : ℕ) (w : Word) {p s : Word} {a b : ℕ} → length w ≤ room → site w ≡ at p a b s → complete T a b ≡ undefined
      → reversing T budget room w ≡ open_pair a b 0
  reversing_open budget room w h e c = begun budget room w h ∙ run_open budget room w (next_open w e c)

  pub reversing_spent : (room : ℕ) (w : Word) {p s : Word} {a b : ℕ} {x y : Positive} → length w ≤ room → site w ≡ at p a b s
      → complete T a b ≡ complement x y → reversing T 0 room w ≡ stopped no_budget
  reversing_spent room w h e c = begun 0 room w h ∙ run_spent room w (next_step w e c)

  pub reversing_step : (left room : ℕ) (w : Word) {p s : Word} {a b : ℕ} {x y : Positive} → length w ≤ room → site w ≡ at p a b s
      → complete T a b ≡ complement x y → reversing T (suc left) room w ≡ prepended a b (reversing T left room (replaced p x y s))
  unfolding reversing
  reversing_step left room w {p} {s} {a} {b} {x} {y} h e c =
      begun (suc left) room w h
      ∙ (run_step left room w (next_step w e c) ∙ fits_prepended left room a b (replaced p x y s) (ltb room (length (replaced p x y s))))
