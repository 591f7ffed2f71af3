-- Checking a chain answers just what `Passes` says (specification 6.7); and of a table that clears, a chain whose first word weighs no more
-- than the workspace has bytes is followed to its end.
-- From the definitions alone, the second from joined words' equal weights (`joined_weight`). Main names: `passage_exactly`, `lead_joins`.
use mathlib.Core.Path.{◌≡◌, refl, sym, ap, ap₂, subst, ◌∙◌}
use mathlib.Core.Logic.{◌≢◌, ◌↔◌}
use mathlib.Core.List.{List, [], ◌∷◌, ◌++◌, append-nil}
use mathlib.Core.Bool.{Bool, true, false, cond}
use mathlib.Core.Option.{Option, none, some}
use Prim.Native.Nat.{ℕ, suc, ◌+◌, ◌≤◌, ◌<◌}
use native.Mathlib.Omega.{arith}
use native.Mathlib.Decide.{dec_lt}
use lib.ListN.{length}
use borrow.Author.Tests.{lt-ltb, le-ltb}
use Rattle.model.specs.Word.{Positive}
use Rattle.model.specs.Presentation.{Presentation, complete, weight_of, weigh}
use Rattle.model.specs.Equivalence.{Entry, equal, applied, Leads, Fits, LeadsWithin}
use Rattle.model.specs.Outcome.{unplaced, Outcome, answered, refused}
use Rattle.model.specs.Services.{Passage, joins, ends_elsewhere, followed_by, followed, passage}
use Rattle.theory.specs.Passages.{Passes, arrives, broken, elsewhere, starts_long, grows_long}
use Rattle.model.proofs.Impossible.{impossible}
use Rattle.model.proofs.Entries.{equal_same, equal_true}
use Rattle.model.proofs.Equiv.{Homogeneous, length_total}
use Rattle.model.proofs.Joining.{joined_weight}

-- WHERE THE ENTRIES LEAD

module _ (T : Presentation) (room : ℕ) where
  first_fits : (u : Positive) (es : List Entry) (v : Positive) → LeadsWithin T room u es v → length u ≤ room
  first_fits u [] v l = l.1
  first_fits u (e ∷ es) v l = l.1.0

  -- some outcome
  data Some (u : Positive) (es : List Entry) (v : Positive) : Type 0 where
    comes_to : {o : Outcome Passage} → Passes T room u es v o → Some u es v

  module _ (u w v : Positive) (e : Entry) (l : length u ≤ room) (a : applied T u e ≡ some w) where
    onward : (es : List Entry) (x : Positive) → LeadsWithin T room w es x → LeadsWithin T room u (e ∷ es) x
    onward es x t = ((w, a, t.0), (l, t.1))

    one_more : {es : List Entry} → Some w es v → Some u (e ∷ es) v
    one_more {es} (comes_to (arrives t)) = comes_to (arrives (onward es v t))
    one_more (comes_to (broken before f after x p t q)) =
        comes_to (broken (e ∷ before) f after x (ap (λ l. e ∷ l) p) (onward before x t) q)
    one_more {es} (comes_to (elsewhere x t d)) = comes_to (elsewhere x (onward es x t) d)
    one_more {es} (comes_to (starts_long h)) = comes_to (grows_long [] e es u w refl (refl, l) a h)
    one_more (comes_to (grows_long before f after x y p t q h)) =
        comes_to (grows_long (e ∷ before) f after x y (ap (λ l. e ∷ l) p) (onward before x t) q h)

  last : (u v : Positive) → length u ≤ room → (t : Bool) → equal u v ≡ t → Some u [] v
  last u v l true h = comes_to (arrives (equal_true u v h, l))
  last u v l false h =
      comes_to (elsewhere u (refl, l) (λ q. let same : equal u v ≡ true = rw (← q) (equal_same u) in impossible (cc)))

  entry_on : (u v : Positive) (e : Entry) (es : List Entry) → length u ≤ room → ((w : Positive) → Some w es v) → (o : Option Positive)
      → applied T u e ≡ o → Some u (e ∷ es) v
  entry_on u v e es l rest none a = comes_to (broken [] e es u refl (refl, l) a)
  entry_on u v e es l rest (some w) a = one_more u w v e l a (rest w)

  if_fits : (u : Positive) (es : List Entry) (v : Positive) → (length u ≤ room → Some u es v) → Some u es v
  if_fits u es v go = by (dec_lt room (length u))
    where
      by : Dec (room < length u) → Some u es v
      by (yes h) = comes_to (starts_long h)
      by (no h) = go (omega arith)

  some_outcome : (es : List Entry) (u v : Positive) → Some u es v
  some_outcome [] u v = if_fits u [] v (λ l. last u v l (equal u v) refl)
  some_outcome (e ∷ es) u v = if_fits u (e ∷ es) v (λ l. entry_on u v e es l (λ w. some_outcome es w v) (applied T u e) refl)

  -- THE OUTCOME THAT EACH CASE HAS

  past : (before : List Entry) (k : ℕ) (u w : Positive) → LeadsWithin T room u before w → (rest : List Entry) (v : Positive)
      → followed T room k u (before ++ rest) v ≡ followed T room (k + length before) w rest v
  unfolding followed
  past [] k u w l rest v = ap₂ (λ i x. followed T room i x rest v) (omega arith) l.0
  past (e ∷ before) k u w l rest v =
      let next = l.0.0 in
      let go : Positive → Outcome Passage = λ x. followed T room (suc k) x (before ++ rest) v in
      ap (followed_by room k go) l.0.1
      ∙ (ap (λ t. cond t (refused 12 unplaced) (go next)) (le-ltb room (length next) (first_fits next before w (l.0.2, l.1.1)))
      ∙ (past before (suc k) next w (l.0.2, l.1.1) rest v ∙ ap (λ i. followed T room i w rest v) (omega arith)))

  module _ (u : Positive) (es : List Entry) (v : Positive) where
    pub passage_fits : length u ≤ room → passage T room u es v ≡ followed T room 0 u es v
    passage_fits h = ap (λ t. cond t (refused 12 unplaced) (followed T room 0 u es v)) (le-ltb room (length u) h)

    goes : (before rest : List Entry) (w : Positive) → es ≡ before ++ rest → LeadsWithin T room u before w
        → passage T room u es v ≡ followed T room (length before) w rest v
    goes before rest w p l =
        passage_fits (first_fits u before w l)
        ∙ (ap (λ x. followed T room 0 u x v) p ∙ (past before 0 u w l rest v ∙ ap (λ i. followed T room i w rest v) (omega arith)))

    to_end : (w : Positive) (t : Bool) → LeadsWithin T room u es w → equal w v ≡ t → passage T room u es v ≡ answered (cond t joins ends_elsewhere)
    unfolding followed
    to_end w t l h = goes es [] w (sym (append-nil es)) l ∙ ap (λ t. answered (cond t joins ends_elsewhere)) h

    differs : (w : Positive) → w ≢ v → (t : Bool) → equal w v ≡ t → equal w v ≡ false
    differs w d true h = absurd (d (equal_true w v h))
    differs w d false h = h

    outcome_of : {o : Outcome Passage} → Passes T room u es v o → passage T room u es v ≡ o
    unfolding followed
    outcome_of (arrives l) = to_end v true l (equal_same v)
    outcome_of (broken before e after w p l a) = goes before (e ∷ after) w p l ∙ ap (followed_by room (length before) _) a
    outcome_of (elsewhere w l d) = to_end w false l (differs w d (equal w v) refl)
    outcome_of (starts_long h) = ap (λ t. cond t (refused 12 unplaced) (followed T room 0 u es v)) (lt-ltb room (length u) h)
    outcome_of (grows_long before e after w w' p l a h) =
        goes before (e ∷ after) w p l
        ∙ (ap (followed_by room (length before) (λ x. followed T room (suc (length before)) x after v)) a
        ∙ ap (λ t. cond t (refused 12 unplaced) (followed T room (suc (length before)) w' after v)) (lt-ltb room (length w') h))

    -- each outcome comes exactly where it is said to
    pub passage_exactly : (o : Outcome Passage) → (passage T room u es v ≡ o) ↔ Passes T room u es v o
    passage_exactly o = (by (some_outcome es u v), outcome_of)
      where
        by : Some u es v → passage T room u es v ≡ o → Passes T room u es v o
        by (comes_to p) h = subst (Passes T room u es v) (sym (outcome_of p) ∙ h) p

-- UNDER A TABLE THAT CLEARS

module _ (T : Presentation) (even : Homogeneous (weight_of T) (complete T)) (room : ℕ) where
  -- all words on the way weigh what the first does, and none has more letters than it weighs
  leads_fits : (u : Positive) (es : List Entry) (v : Positive) (h : Leads T u es v) → weigh T u ≤ room → Fits T room u es v h
  leads_fits u [] v h l = omega (arith, length_total (weight_of T) (λ a. omega arith) u)
  leads_fits u (e ∷ es) v h l =
      let same = joined_weight T (weight_of T) even u h.0 (e ∷ [], (h.0, h.1, refl)) in
      (omega (arith, length_total (weight_of T) (λ a. omega arith) u), leads_fits h.0 es v h.2 (omega (arith, same)))

  pub lead_joins : (u : Positive) (es : List Entry) (v : Positive) → Leads T u es v → weigh T u ≤ room → passage T room u es v ≡ answered joins
  lead_joins u es v h l = (passage_exactly T room u es v (answered joins)).1 (arrives (h, leads_fits u es v h l))
