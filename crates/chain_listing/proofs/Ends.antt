-- A run that finishes with nothing left: what its words cannot be, and what its steps come to.
use mathlib.Core.Path.{◌≡◌, refl, sym, ap, ◌∙◌}
use mathlib.Core.List.{[], ◌∷◌, ◌++◌, append_assoc}
use mathlib.Core.Bool.{Bool, true, false, cond}
use Prim.Native.Nat.{ℕ, zero, suc, ◌≤◌, ◌<◌}
use native.Mathlib.Omega.{arith}
use native.Mathlib.Decide.{dec_lt}
use lib.Dec.{eqb}
use native.Mathlib.Nat.{le_trans}
use lib.ListN.{length}
use Rattle.model.specs.Word.{Word, Positive, forward, back, positive, negative}
use Rattle.model.specs.Presentation.{Presentation, Complement, undefined, complement, complete}
use Rattle.model.specs.Reversing.{Site, nowhere, at, site, beyond, replaced, Next, no_site, blocked, step, next, by_complement, by_site, finished}
use Rattle.model.specs.Reversing.{ended, count, run}
use Rattle.model.proofs.Impossible.{impossible}
use Rattle.model.proofs.Words.{negative_cons, fraction_at, fraction_nowhere, denominator_of}
use Rattle.engine.proofs.Runs.{run_none, run_open, run_spent, run_room, run_step}
use Rattle.chain_listing.specs.Course.{Task, Running}

count_grows : (a b r : ℕ) → r ≤ count a b r
count_grows a b r = go (eqb a b)
  where
    go : (t : Bool) → r ≤ cond t r (suc r)
    go true = omega arith
    go false = omega arith

module _ (T : Presentation) (room : ℕ) {n d : Positive} {k' r' : ℕ} where
  -- a run that finishes takes the step that its word allows
  run_onward : (left k r : ℕ) (w : Word) {a b : ℕ} {w' : Word} → next T w ≡ step a b w' → run T room (suc left) k r w ≡ finished n d k' r'
      → (length w' ≤ room) × (run T room left (suc k) (count a b r) w' ≡ finished n d k' r')
  run_onward left k r w {a} {b} {w'} e f = go (dec_lt room (length w'))
    where
      go : Dec (room < length w') → (length w' ≤ room) × (run T room left (suc k) (count a b r) w' ≡ finished n d k' r')
      go (yes long) =
          let s = run_room T room (suc left) k r w e (omega arith) long in
          impossible (cc)
      go (no fits) =
          let short : length w' ≤ room = omega arith in
          (short, sym (run_step T room (suc left) k r w e left refl short) ∙ f)

  run_zero : (k r : ℕ) (w : Word) {a b : ℕ} {w' : Word} {A : Type 0} → next T w ≡ step a b w' → run T room zero k r w ≡ finished n d k' r' → A
  run_zero k r w e f =
      let s = run_spent T room zero k r w refl e in
      impossible (cc)

  run_blocked : (left k r : ℕ) (w : Word) {a b : ℕ} {A : Type 0} → next T w ≡ blocked a b → run T room left k r w ≡ finished n d k' r' → A
  run_blocked left k r w e f =
      let s = run_open T room left k r w e in
      impossible (cc)

  -- the cases of a run that finishes, but for a step
  grown : (left k r : ℕ) (w : Word) → run T room left k r w ≡ finished n d k' r' → ((a b : ℕ) (w' : Word) → next T w ≡ step a b w' → r ≤ r') → r ≤ r'
  grown left k r w f more = go (next T w) refl
    where
      go : (x : Next) → next T w ≡ x → r ≤ r'
      go no_site e =
          let s = run_none T room left k r w e in
          let g : r ≡ r' = cc in
          omega arith
      go (blocked a b) e = run_blocked left k r w e f
      go (step a b w') e = more a b w' e

  -- steps on two different letters are never taken back
  pub relations_grow : (left k r : ℕ) (w : Word) → run T room left k r w ≡ finished n d k' r' → r ≤ r'
  relations_grow zero k r w f = grown zero k r w f (λ a b w' e. run_zero k r w e f)
  relations_grow (suc i) k r w f =
      grown (suc i) k r w f
      (λ a b w' e.
      le_trans (count_grows a b r) (relations_grow i (suc k) (count a b r) w' (run_onward i k r w e f).1))

-- a forward letter at the front stays: the numerator is not empty
module _ (T : Presentation) (room : ℕ) {d : Positive} {k' r' : ℕ} where
  stays : (left k r : ℕ) (b : ℕ) (w : Word) {A : Type 0} → run T room left k r (forward b ∷ w) ≡ finished [] d k' r'
      → ((a c : ℕ) (w' : Word) → next T (forward b ∷ w) ≡ step a c (forward b ∷ w') → A) → A
  unfolding next
  stays left k r b w {A} f more = go (site w) refl
    where
      by : (p s : Word) (a c : ℕ) (m : Complement) → complete T a c ≡ m → site w ≡ at p a c s → A
      by p s a c undefined q e =
          run_blocked T room left k r (forward b ∷ w) (ap (λ t. by_site T (beyond (forward b) t)) e ∙ ap (by_complement (forward b ∷ p) a c s) q) f
      by p s a c (complement x y) q e =
          more a c (replaced p x y s) (ap (λ t. by_site T (beyond (forward b) t)) e ∙ ap (by_complement (forward b ∷ p) a c s) q)

      go : (t : Site) → site w ≡ t → A
      go nowhere e =
          let g = run_none T room left k r (forward b ∷ w) (ap (λ t. by_site T (beyond (forward b) t)) e) in
          impossible (cc)
      go (at p a c s) e = by p s a c (complete T a c) refl e

  pub forward_stays : (left k r : ℕ) (b : ℕ) (w : Word) {A : Type 0} → run T room left k r (forward b ∷ w) ≡ finished [] d k' r' → A
  forward_stays zero k r b w f = stays zero k r b w f (λ a c w' e. run_zero T room k r (forward b ∷ w) e f)
  forward_stays (suc i) k r b w f =
      stays (suc i) k r b w f (λ a c w' e. forward_stays i (suc k) (count a c r) b w' (run_onward T room i k r (forward b ∷ w) e f).1)

module _ (t : Task) (total : ℕ) where
  -- what a meeting comes to: the pair is not undefined, and the next word is the reversing's
  pub record Met (a b : ℕ) (rest : Positive) (s : Word) (relations : ℕ) : Type 0 where
    pub x : Positive
    pub y : Positive
    pub rule : complete t.table a b ≡ complement x y
    pub running : Running t total (negative rest ++ (positive x ++ (negative y ++ s))) (count a b relations)

  pub meets : (a b : ℕ) (rest : Positive) (s : Word) (relations : ℕ) → Running t total (negative (a ∷ rest) ++ (forward b ∷ s)) relations
      → Met a b rest s relations
  unfolding next
  meets a b rest s relations h = by (complete T a b) refl
    where
      T : Presentation
      T = t.table

      word : Word
      word = negative rest ++ (back a ∷ forward b ∷ s)

      same : negative (a ∷ rest) ++ (forward b ∷ s) ≡ word
      same = ap (λ w. w ++ (forward b ∷ s)) (negative_cons a rest) ∙ append_assoc (negative rest) (back a ∷ []) (forward b ∷ s)

      there : next T word ≡ by_complement (negative rest) a b s (complete T a b)
      there = ap (by_site T) (fraction_at [] rest a b s)

      finishes : run T t.room h.budget h.steps relations word ≡ finished [] [] t.steps total
      finishes = ap (run T t.room h.budget h.steps relations) (sym same) ∙ h.finishes

      by : (m : Complement) → complete T a b ≡ m → Met a b rest s relations
      by undefined e =
          run_blocked T t.room h.budget h.steps relations word (there ∙ ap (by_complement (negative rest) a b s) e) finishes
      by (complement x y) e = more h.budget refl
        where
          goes : next T word ≡ step a b (replaced (negative rest) x y s)
          goes = there ∙ ap (by_complement (negative rest) a b s) e

          more : (i : ℕ) → h.budget ≡ i → Met a b rest s relations
          more zero z =
              run_zero T t.room h.steps relations word goes (ap (λ i. run T t.room i h.steps relations word) (sym z) ∙ finishes)
          more (suc i) z =
              let o = run_onward T t.room i h.steps relations word goes (ap (λ i. run T t.room i h.steps relations word) (sym z) ∙ finishes) in
              record {
                x = x;
                y = y;
                rule = e;
                running =
                    record {
                      budget = i;
                      steps = suc h.steps;
                      fits = o.0;
                      finishes = o.1;
                    };
              }

  -- the rest is not empty where a letter is to be met
  pub some_rest : (b : ℕ) (s : Word) (relations : ℕ) {A : Type 0} → Running t total (forward b ∷ s) relations → A
  some_rest b s relations h = forward_stays t.table t.room h.budget h.steps relations b s h.finishes

  pub relations_within : {word : Word} {relations : ℕ} → Running t total word relations → relations ≤ total
  relations_within {word} {relations} h = relations_grow t.table t.room h.budget h.steps relations word h.finishes

  -- at the end nothing is left of the first word, and all relation steps are done
  pub record Finished (rest : Positive) (relations : ℕ) : Type 0 where
    pub empty : rest ≡ []
    pub all : relations ≡ total

  pub finishes : (rest : Positive) (relations : ℕ) → Running t total (negative rest) relations → Finished rest relations
  unfolding next
  finishes rest relations h =
      let e : next t.table (negative rest) ≡ no_site = ends in
      let f : ended (negative rest) h.steps relations ≡ finished [] [] t.steps total =
      sym (run_none t.table t.room h.budget h.steps relations (negative rest) e) ∙ h.finishes in
      let d = denominator_of [] rest in
      let empty : rest ≡ [] = cc in
      let all : relations ≡ total = cc in
      record { empty = empty; all = all }
    where
      ends : next t.table (negative rest) ≡ no_site
      ends = ap (by_site t.table) (fraction_nowhere [] rest)
