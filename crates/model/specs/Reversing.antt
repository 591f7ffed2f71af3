-- Specification 3, right reversing after Dehornoy ([D1], with the arguments in the order of [D2]).
use Rattle.std.specs.Prelude.{[], ◌∷◌, ◌++◌, reverse, cond, ◌≡◌, ℕ, zero, suc, ◌≤◌, ltb, eqb, length}
use Rattle.model.specs.Word.{Letter, forward, back, Word, Positive, positive, negative, forwards, backs}
use Rattle.model.specs.Presentation.{Presentation, Complement, undefined, complement, complete}

-- 3.1: a site, where a back letter a stands directly before a forward letter b, with what is before and after the two
pub data Site : Type 0 where
  nowhere : Site
  at : Word → ℕ → ℕ → Word → Site

abbrev pub beyond : Letter → Site → Site
beyond x nowhere = nowhere
beyond x (at p a b s) = at (x ∷ p) a b s

-- 3.1: the leftmost site of `back a` and then the word
abbrev pub site_after : ℕ → Word → Site
site_after a [] = nowhere
site_after a (forward b ∷ w) = at [] a b w
site_after a (back b ∷ w) = beyond (back a) (site_after b w)

-- 3.1: the leftmost site of a word
abbrev pub site : Word → Site
site [] = nowhere
site (forward a ∷ w) = beyond (forward a) (site w)
site (back a ∷ w) = site_after a w

-- 3.1: the word after a step: where the site was, x = C(a,b), followed by the undoing of y = C(b,a)
abbrev pub replaced : Word → Positive → Positive → Word → Word
replaced p x y s = p ++ (positive x ++ (negative y ++ s))

-- 3.1: what a word allows: no site is left; its leftmost site is an undefined pair; or a step there leads to the next word
pub data Next : Type 0 where
  no_site : Next
  blocked : ℕ → ℕ → Next
  step : ℕ → ℕ → Word → Next

abbrev pub by_complement : Word → ℕ → ℕ → Word → Complement → Next
by_complement p a b s undefined = blocked a b
by_complement p a b s (complement x y) = step a b (replaced p x y s)

abbrev pub by_site : Presentation → Site → Next
by_site T nowhere = no_site
by_site T (at p a b s) = by_complement p a b s (complete T a b)

unfoldable pub next : Presentation → Word → Next
next T w = by_site T (site w)

-- 3.2: the stops, (iii) and (iv)
pub data Stop : Type 0 where
  no_budget : Stop
  no_room : Stop

-- 3.2: the four endings: (i) finished, with the numerator, the denominator, the steps (3.3) and how many of those were on two different
-- letters; (ii) an undefined pair, with the steps before it; (iii) and (iv) a stop
pub data Ending : Type 0 where
  finished : Positive → Positive → ℕ → ℕ → Ending
  open_pair : ℕ → ℕ → ℕ → Ending
  stopped : Stop → Ending

-- 3.3: of a finished word N is the forward part, and D the back part read from its end, without signs
abbrev pub ended : Word → ℕ → ℕ → Ending
ended w k r = finished (forwards w) (reverse (backs w)) k r

-- 6.6: one more step on two different letters; a step on two equal ones adds nothing
abbrev pub count : ℕ → ℕ → ℕ → ℕ
count a b r = cond (eqb a b) r (suc r)

-- 3.2, where no step of the budget is left: (i), (ii), then (iii)
abbrev pub spent : Word → ℕ → ℕ → Next → Ending
spent w k r no_site = ended w k r
spent w k r (blocked a b) = open_pair a b k
spent w k r (step a b w') = stopped no_budget

-- 3.2, where steps are left: (i), (ii), then (iv), else the step is taken and `go` is what comes after it
abbrev pub onward : ℕ → Word → ℕ → ℕ → (ℕ → ℕ → Word → Ending) → Next → Ending
onward room w k r go no_site = ended w k r
onward room w k r go (blocked a b) = open_pair a b k
onward room w k r go (step a b w') = cond (ltb room (length w')) (stopped no_room) (go (suc k) (count a b r) w')

-- 3.2: from a word that fits, with k steps done, r of them on two different letters, and `left` steps of the budget left
unfoldable pub run : Presentation → ℕ → ℕ → ℕ → ℕ → Word → Ending
run T room zero k r w = spent w k r (next T w)
run T room (suc left) k r w = onward room w k r (run T room left) (next T w)

-- 3.2: the reversing of a word; where it has more letters than the room has bytes it is (iv), and nothing else is tested
unfoldable pub reversing : Presentation → ℕ → ℕ → Word → Ending
reversing T budget room w = cond (ltb room (length w)) (stopped no_room) (run T room budget 0 0 w)

-- 3.1: k steps, each at the leftmost site
pub data Leftmost (T : Presentation) : Word → Word → ℕ → Type 0 where
  stay : {w : Word} → Leftmost T w w 0
  go : {w p s w' : Word} {a b k : ℕ} {x y : Positive} → site w ≡ at p a b s → complete T a b ≡ complement x y
      → Leftmost T (replaced p x y s) w' k → Leftmost T w w' (suc k)

-- 6.6: how many of them are on two different letters
abbrev pub differing : {T : Presentation} {w w' : Word} {k : ℕ} → Leftmost T w w' k → ℕ
differing Leftmost.stay = 0
differing (Leftmost.go {a} {b} e c l) = count a b (differing l)

-- 3.7: k steps, each at any site: Dehornoy's R-reduction ([D1] section 1)
pub data Reduces (T : Presentation) : Word → Word → ℕ → Type 0 where
  stay : {w : Word} → Reduces T w w 0
  go : (p : Word) (a b : ℕ) (s : Word) {w w' : Word} {k : ℕ} {x y : Positive} → w ≡ p ++ (back a ∷ forward b ∷ s)
      → complete T a b ≡ complement x y → Reduces T (replaced p x y s) w' k → Reduces T w w' (suc k)

-- 3.6: with no limit on steps and lengths, the reversing of the word finishes with numerator n and denominator d in k steps
abbrev pub Finishes : Presentation → Word → Positive → Positive → ℕ → Type 0
Finishes T w n d k = Leftmost T w (positive n ++ negative d) k

-- 3.6: it ends empty: without a limit it finishes, and neither N nor D has a letter
abbrev pub EndsEmpty : Presentation → Word → Type 0
EndsEmpty T w = (k : ℕ) × Finishes T w [] [] k

-- 3.6: a budget covers it if it is not below the steps
abbrev pub CoversSteps : {T : Presentation} {w w' : Word} {k : ℕ} → ℕ → Leftmost T w w' k → Type 0
CoversSteps {k} budget r = k ≤ budget

-- 3.6: a room covers it if each of its words fits, from the first to the last
abbrev pub CoversRoom : {T : Presentation} {w w' : Word} {k : ℕ} → ℕ → Leftmost T w w' k → Type 0
CoversRoom room (stay {w}) = length w ≤ room
CoversRoom room (go {w} e c r) = (length w ≤ room) × CoversRoom room r

-- 3.5: n is u\v, and d is v\u: the undoing of u, followed by v, finishes with them
abbrev pub Residuals : Presentation → Positive → Positive → Positive → Positive → Type 0
Residuals T u v n d = (k : ℕ) × Finishes T (negative u ++ positive v) n d k
