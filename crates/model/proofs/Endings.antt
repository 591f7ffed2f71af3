-- How `reversing` ends, told by leftmost steps: each ending of specification 3.2, (i) to (iv), is met exactly where `Ends` puts it, and exactly
-- one is met. So more budget and more room change no ending but a stop: with [D1] Lemma 1.1 what a finished word gives is its own.
use mathlib.Core.Path.{◌≡◌, refl, sym, ap, ap₂, subst, ◌∙◌}
use mathlib.Core.Logic.{◌≢◌, ◌↔◌}
use mathlib.Core.List.{◌++◌}
use Prim.Native.Nat.{ℕ, zero, suc, ◌+◌, ◌-◌, ◌≤◌, ◌<◌}
use native.Mathlib.Omega.{arith}
use native.Mathlib.Decide.{dec_lt}
use lib.ListN.{length}
use Rattle.model.specs.Word.{Word, Positive, positive, negative}
use Rattle.model.specs.Presentation.{Presentation, Complement, undefined, complement, complete}
use Rattle.model.specs.Reversing.{Site, nowhere, at, site, replaced, Stop, no_budget, no_room, Ending, finished, open_pair, stopped, ended, count}
use Rattle.model.specs.Reversing.{reversing, Leftmost, CoversRoom, differing}
use Rattle.model.proofs.Words.{fraction_nowhere, numerator_of, denominator_of, site_fraction}
use Rattle.model.proofs.Leftmost.{Counted}
use Rattle.model.proofs.Reversal.{prepended, reversing_long, reversing_none, reversing_open, reversing_spent, reversing_step}

-- WHAT EACH ENDING SAYS

-- k leftmost steps lead from w to w', r of them on two different letters; the budget has that many steps, and every word on the way fits
pub record Reaches (T : Presentation) (budget room : ℕ) (w w' : Word) (k r : ℕ) : Type 0 where
  pub run : Leftmost T w w' k
  pub within : k ≤ budget
  pub fits : CoversRoom room run
  pub differ : differing run ≡ r

-- (ii): k steps lead to a word whose leftmost site is an undefined pair
pub record MeetsOpen (T : Presentation) (budget room : ℕ) (w : Word) (a b k : ℕ) : Type 0 where
  pub last : Word
  pub r : ℕ
  pub reached : Reaches T budget room w last k r
  pub before : Word
  pub after : Word
  pub here : site last ≡ at before a b after
  pub undefined_there : complete T a b ≡ undefined

-- (iii): the whole budget leads to a word from which one more step could be taken
pub record Exhausts (T : Presentation) (budget room : ℕ) (w : Word) : Type 0 where
  pub last : Word
  pub further : Word
  pub r : ℕ
  pub reached : Reaches T budget room w last budget r
  pub more : Leftmost T last further 1

-- (iv): the starting word is too long, or steps are left and the next word is
pub data Overflows (T : Presentation) (budget room : ℕ) (w : Word) : Type 0 where
  at_start : room < length w → Overflows T budget room w
  on_the_way : {last further : Word} {k r : ℕ} → Reaches T budget room w last k r → k < budget → Leftmost T last further 1 → room < length further
      → Overflows T budget room w

-- (i) is that the steps lead to the numerator, then the inverse of the denominator: such words are those without a site
abbrev pub Ends : Presentation → ℕ → ℕ → Word → Ending → Type 0
Ends T budget room w (finished n d k r) = Reaches T budget room w (positive n ++ negative d) k r
Ends T budget room w (open_pair a b k) = MeetsOpen T budget room w a b k
Ends T budget room w (stopped no_budget) = Exhausts T budget room w
Ends T budget room w (stopped no_room) = Overflows T budget room w

-- WHERE A WORD LEADS

data Looks (T : Presentation) (w : Word) : Type 0 where
  finds_none : site w ≡ nowhere → Looks T w
  finds_open : {p s : Word} {a b : ℕ} → site w ≡ at p a b s → complete T a b ≡ undefined → Looks T w
  finds_step : {p s : Word} {a b : ℕ} {x y : Positive} → site w ≡ at p a b s → complete T a b ≡ complement x y → Looks T w

look : (T : Presentation) (w : Word) → Looks T w
look T w = go (site w) refl
  where
    by : {p s : Word} {a b : ℕ} → site w ≡ at p a b s → (c : Complement) → complete T a b ≡ c → Looks T w
    by e undefined h = finds_open e h
    by e (complement x y) h = finds_step e h

    go : (t : Site) → site w ≡ t → Looks T w
    go nowhere e = finds_none e
    go (at p a b s) e = by e (complete T a b) refl

-- THE FUNCTION ENDS SO

module _ {T : Presentation} where
  here : (budget room : ℕ) (w : Word) → length w ≤ room → Reaches T budget room w w 0 0
  here budget room w h = record { run = Leftmost.stay; within = omega arith; fits = h; differ = refl }

  one_step : {w p s : Word} {a b : ℕ} {x y : Positive} → site w ≡ at p a b s → complete T a b ≡ complement x y → Leftmost T w (replaced p x y s) 1
  one_step e c = Leftmost.go e c Leftmost.stay

module _ (T : Presentation) (budget room : ℕ) (w : Word) {p s : Word} {a b : ℕ} {x y : Positive} (h : length w ≤ room)
    (e : site w ≡ at p a b s) (c : complete T a b ≡ complement x y) where
  reach_on : {w' : Word} {k r : ℕ} → Reaches T budget room (replaced p x y s) w' k r → Reaches T (suc budget) room w w' (suc k) (count a b r)
  reach_on t =
      record { run = Leftmost.go e c t.run; within = omega (arith, t.within); fits = (h, t.fits); differ = ap (count a b) t.differ }

  overflow_on : Overflows T budget room (replaced p x y s) → Overflows T (suc budget) room w
  overflow_on (at_start l) = on_the_way (here (suc budget) room w h) (omega arith) (one_step e c) l
  overflow_on (on_the_way t j m l) = on_the_way (reach_on t) (omega arith) m l

  ends_on : (end : Ending) → Ends T budget room (replaced p x y s) end → Ends T (suc budget) room w (prepended a b end)
  ends_on (finished n d k r) t = reach_on t
  ends_on (open_pair a' b' k) t =
      record {
        last = t.last;
        r = _;
        reached = reach_on t.reached;
        before = t.before;
        after = t.after;
        here = t.here;
        undefined_there = t.undefined_there;
      }
  ends_on (stopped no_budget) t = record { last = t.last; further = t.further; r = _; reached = reach_on t.reached; more = t.more }
  ends_on (stopped no_room) t = overflow_on t

module _ (T : Presentation) where
  ends_none : (budget room : ℕ) (w : Word) → length w ≤ room → site w ≡ nowhere → Ends T budget room w (ended w 0 0)
  ends_none budget room w h e = subst (λ w'. Reaches T budget room w w' 0 0) (site_fraction w e) (here budget room w h)

  ends_short : (budget room : ℕ) (w : Word) → length w ≤ room → Looks T w
      → ((left : ℕ) (w' : Word) → suc left ≡ budget → Ends T left room w' (reversing T left room w')) → Ends T budget room w (reversing T budget room w)
  ends_short budget room w h (finds_none e) rest = subst (Ends T budget room w) (sym (reversing_none T budget room w h e)) (ends_none budget room w h e)
  ends_short budget room w h (finds_open {p} {s} e c) rest =
      subst (Ends T budget room w) (sym (reversing_open T budget room w h e c))
      (record { last = w; r = 0; reached = here budget room w h; before = p; after = s; here = e; undefined_there = c })
  ends_short zero room w h (finds_step {p} {s} {x} {y} e c) rest =
      subst (Ends T 0 room w) (sym (reversing_spent T room w h e c))
      (record { last = w; further = replaced p x y s; r = 0; reached = here 0 room w h; more = one_step e c })
  ends_short (suc left) room w h (finds_step {p} {s} {a} {b} {x} {y} e c) rest =
      subst (Ends T (suc left) room w) (sym (reversing_step T left room w h e c))
      (ends_on T left room w h e c (reversing T left room (replaced p x y s)) (rest left (replaced p x y s) refl))

  ends_by : (budget room : ℕ) (w : Word) → ((left : ℕ) (w' : Word) → suc left ≡ budget → Ends T left room w' (reversing T left room w'))
      → Ends T budget room w (reversing T budget room w)
  ends_by budget room w rest = go (dec_lt room (length w))
    where
      go : Dec (room < length w) → Ends T budget room w (reversing T budget room w)
      go (yes h) = subst (Ends T budget room w) (sym (reversing_long T budget room w h)) (at_start h)
      go (no h) = ends_short budget room w (omega arith) (look T w) rest

  pub reversing_ends : (budget room : ℕ) (w : Word) → Ends T budget room w (reversing T budget room w)
  reversing_ends zero room w = ends_by zero room w (λ left w' e. absurd (omega arith))
  reversing_ends (suc budget) room w =
      ends_by (suc budget) room w (λ left w' e. let same : budget ≡ left = omega arith in rw (← same) (reversing_ends budget room w'))

-- AND NOWHERE ELSE

-- the ending with the steps of a run in front
abbrev after_run : {T : Presentation} {w w' : Word} {k : ℕ} → Leftmost T w w' k → Ending → Ending
after_run Leftmost.stay end = end
after_run (Leftmost.go {a} {b} e c l) end = prepended a b (after_run l end)

module _ {T : Presentation} where
  after_finished : {w w' : Word} {k : ℕ} (l : Leftmost T w w' k) (n d : Positive) → after_run l (finished n d 0 0) ≡ finished n d k (differing l)
  after_finished Leftmost.stay n d = refl
  after_finished (Leftmost.go {a} {b} e c l) n d = ap (prepended a b) (after_finished l n d)

  after_open : {w w' : Word} {k : ℕ} (l : Leftmost T w w' k) (a b : ℕ) → after_run l (open_pair a b 0) ≡ open_pair a b k
  after_open Leftmost.stay a b = refl
  after_open (Leftmost.go {a = c} {b = d} e h l) a b = ap (prepended c d) (after_open l a b)

  after_stopped : {w w' : Word} {k : ℕ} (l : Leftmost T w w' k) (s : Stop) → after_run l (stopped s) ≡ stopped s
  after_stopped Leftmost.stay s = refl
  after_stopped (Leftmost.go {a} {b} e c l) s = ap (prepended a b) (after_stopped l s)

  last_fits : (room : ℕ) {w w' : Word} {k : ℕ} (l : Leftmost T w w' k) → CoversRoom room l → length w' ≤ room
  last_fits room Leftmost.stay h = h
  last_fits room (Leftmost.go e c l) h = last_fits room l h.1

  -- a covered run is what the function does first
  goes_by : (left room : ℕ) {w w' : Word} {k : ℕ} (l : Leftmost T w w' k) → CoversRoom room l
      → reversing T (k + left) room w ≡ after_run l (reversing T left room w')
  goes_by left room {w} Leftmost.stay h = ap (λ m. reversing T m room w) (omega arith)
  goes_by left room {w} {k = suc k} (Leftmost.go {a} {b} e c l) h =
      let sum : suc k + left ≡ suc (k + left) = omega arith in
      ap (λ m. reversing T m room w) sum ∙ (reversing_step T (k + left) room w h.0 e c ∙ ap (prepended a b) (goes_by left room l h.1))

-- a step by its site
data OneStep (T : Presentation) (w w' : Word) : Type 0 where
  steps_to : {p s : Word} {a b : ℕ} {x y : Positive} → site w ≡ at p a b s → complete T a b ≡ complement x y → replaced p x y s ≡ w'
      → OneStep T w w'

module _ {T : Presentation} where
  stays : {w w' : Word} {k : ℕ} → Leftmost T w w' k → k ≡ 0 → w ≡ w'
  stays Leftmost.stay h = refl
  stays (Leftmost.go e c l) h = absurd (omega arith)

  by_site_lem : {w w' : Word} {k : ℕ} → Leftmost T w w' k → k ≡ 1 → OneStep T w w'
  by_site_lem Leftmost.stay h = absurd (omega arith)
  by_site_lem (Leftmost.go e c l) h = steps_to e c (stays l (omega arith))

module _ (T : Presentation) (budget room : ℕ) (w : Word) where
  -- the function's ending is that of the last word, with the run in front
  ended_after : {w' : Word} {k r : ℕ} (t : Reaches T budget room w w' k r) (end : Ending)
      → reversing T (budget - k) room w' ≡ end → reversing T budget room w ≡ after_run t.run end
  ended_after {w'} {k} t end h =
      let sum : budget ≡ k + (budget - k) = omega (arith, t.within) in
      ap (λ m. reversing T m room w) sum ∙ (goes_by (budget - k) room t.run t.fits ∙ ap (after_run t.run) h)

  over_budget : (t : Exhausts T budget room w) → OneStep T t.last t.further → reversing T budget room w ≡ stopped no_budget
  over_budget t (steps_to e c q) =
      let used : budget - budget ≡ 0 = omega arith in
      ended_after t.reached (stopped no_budget)
      (ap (λ m. reversing T m room t.last) used ∙ reversing_spent T room t.last (last_fits room t.reached.run t.reached.fits) e c)
      ∙ after_stopped t.reached.run no_budget

  over_room : {last further : Word} {k r : ℕ} (t : Reaches T budget room w last k r) → k < budget → OneStep T last further → room < length further
      → reversing T budget room w ≡ stopped no_room
  over_room {last} {further} {k} t h (steps_to {a} {b} e c q) l =
      let left : budget - k ≡ suc (budget - suc k) = omega arith in
      ended_after t (stopped no_room)
      (ap (λ m. reversing T m room last) left
      ∙ (reversing_step T (budget - suc k) room last (last_fits room t.run t.fits) e c
      ∙ ap (prepended a b) (ap (reversing T (budget - suc k) room) q ∙ reversing_long T (budget - suc k) room further l)))
      ∙ after_stopped t.run no_room

  overflowing : Overflows T budget room w → reversing T budget room w ≡ stopped no_room
  overflowing (at_start h) = reversing_long T budget room w h
  overflowing (on_the_way t h m l) = over_room t h (by_site_lem m refl) l

  pub ends_reversing : (end : Ending) → Ends T budget room w end → reversing T budget room w ≡ end
  ends_reversing (finished n d k r) t =
      ended_after t (finished n d 0 0)
      (reversing_none T (budget - k) room (positive n ++ negative d) (last_fits room t.run t.fits) (fraction_nowhere n d)
      ∙ ap₂ (λ n d. finished n d 0 0) (numerator_of n d) (denominator_of n d))
      ∙ (after_finished t.run n d ∙ ap (finished n d k) t.differ)
  ends_reversing (open_pair a b k) t =
      ended_after t.reached (open_pair a b 0)
      (reversing_open T (budget - k) room t.last (last_fits room t.reached.run t.reached.fits) t.here t.undefined_there)
      ∙ after_open t.reached.run a b
  ends_reversing (stopped no_budget) t = over_budget t (by_site_lem t.more refl)
  ends_reversing (stopped no_room) t = overflowing t

  -- each ending is the function's exactly where it holds
  pub ends_exactly : (end : Ending) → (reversing T budget room w ≡ end) ↔ Ends T budget room w end
  ends_exactly end = (λ h. subst (Ends T budget room w) h (reversing_ends T budget room w), ends_reversing end)

  -- a finished one by its run
  pub reversing_finishes : (n d : Positive) (k r : ℕ) → reversing T budget room w ≡ finished n d k r → Counted T w (positive n ++ negative d) k r
  reversing_finishes n d k r h = let t = (ends_exactly (finished n d k r)).0 h in record { run = t.run; differ = t.differ }

  -- exactly one ending holds
  pub ends_once : (end end' : Ending) → Ends T budget room w end → Ends T budget room w end' → end ≡ end'
  ends_once end end' h h' = sym (ends_reversing end h) ∙ ends_reversing end' h'

-- MORE BUDGET AND MORE ROOM

module _ (T : Presentation) {budget more_budget room more_Room : ℕ} (longer : budget ≤ more_budget) (wider : room ≤ more_Room) where
  room_grows : {w w' : Word} {k : ℕ} (l : Leftmost T w w' k) → CoversRoom room l → CoversRoom more_Room l
  room_grows Leftmost.stay h = omega arith
  room_grows (Leftmost.go e c l) h = (omega arith, room_grows l h.1)

  reach_grows : {w w' : Word} {k r : ℕ} → Reaches T budget room w w' k r → Reaches T more_budget more_Room w w' k r
  reach_grows t = record { run = t.run; within = omega (arith, t.within); fits = room_grows t.run t.fits; differ = t.differ }

  ends_grow : (w : Word) (end : Ending) → ((s : Stop) → end ≢ stopped s) → Ends T budget room w end → Ends T more_budget more_Room w end
  ends_grow w (finished n d k r) unstopped t = reach_grows t
  ends_grow w (open_pair a b k) unstopped t =
      record {
        last = t.last;
        r = t.r;
        reached = reach_grows t.reached;
        before = t.before;
        after = t.after;
        here = t.here;
        undefined_there = t.undefined_there;
      }
  ends_grow w (stopped s) unstopped t = absurd (unstopped s refl)

  -- they change no ending that is not a stop
  pub ending_kept : (w : Word) (end : Ending) → ((s : Stop) → end ≢ stopped s) → reversing T budget room w ≡ end → reversing T more_budget more_Room w ≡ end
  ending_kept w end unstopped h =
      ends_reversing T more_budget more_Room w end
      (ends_grow w end unstopped ((ends_exactly T budget room w end).0 h))
