-- Runs of leftmost steps, with the number of their steps on two different letters: they compose, and of a run to a word without a next step
-- every other run from the same word is a beginning. That is [D1] Lemma 1.1 for the leftmost strategy.
use mathlib.Core.Path.{◌≡◌, refl, sym, ap, ◌∙◌}
use mathlib.Core.Logic.{◌≢◌}
use mathlib.Core.List.{◌++◌}
use Prim.Native.Nat.{ℕ, suc, ◌+◌, ◌≤◌}
use native.Mathlib.Omega.{arith}
use Rattle.model.specs.Word.{Word, Positive, positive, negative}
use Rattle.model.specs.Presentation.{Presentation, undefined, complement, complete}
use Rattle.model.specs.Reversing.{nowhere, at, site, replaced, count, Leftmost, differing}
use Rattle.model.proofs.Count.{count_add, count_within}
use Rattle.model.proofs.Impossible.{impossible}
use Rattle.model.proofs.Words.{fraction_nowhere}

pub record Counted (T : Presentation) (w w' : Word) (k r : ℕ) : Type 0 where
  pub run : Leftmost T w w' k
  pub differ : differing run ≡ r

-- no step leads on from the word
abbrev pub Stuck : Presentation → Word → Type 0
Stuck T w = (p s : Word) (a b : ℕ) (x y : Positive) → site w ≡ at p a b s → complete T a b ≡ complement x y → ⊥

-- a run by its first step
pub record Stepped (T : Presentation) (p : Word) (a b : ℕ) (s w' : Word) (k r : ℕ) : Type 0 where
  pub x : Positive
  pub y : Positive
  pub k' : ℕ
  pub r' : ℕ
  pub rule : complete T a b ≡ complement x y
  pub rest : Counted T (replaced p x y s) w' k' r'
  pub steps : k ≡ suc k'
  pub differ : r ≡ count a b r'

pub different_sites : {w w' : Word} {p s : Word} {a b : ℕ} → site w ≡ at p a b s → site w' ≡ nowhere → w ≢ w'
different_sites {w} {w'} e h q =
    let r : site w ≡ site w' = ap site q in
    impossible (cc)

module _ (T : Presentation) where
  pub fraction_stuck : (n d : Positive) → Stuck T (positive n ++ negative d)
  fraction_stuck n d p s a b x y e c =
      let h = fraction_nowhere n d in
      impossible (cc)

  pub open_stuck : (w : Word) {p s : Word} {a b : ℕ} → site w ≡ at p a b s → complete T a b ≡ undefined → Stuck T w
  open_stuck w {a} {b} e h p s a' b' x y e' c =
      let same : complete T a' b' ≡ complete T a b = cc in
      impossible (cc)

module _ {T : Presentation} where
  pub counted : {w w' : Word} {k : ℕ} (l : Leftmost T w w' k) → Counted T w w' k (differing l)
  counted l = record { run = l; differ = refl }

  differing_within : {w w' : Word} {k : ℕ} (l : Leftmost T w w' k) → differing l ≤ k
  differing_within Leftmost.stay = omega arith
  differing_within (Leftmost.go {a} {b} {k} e c l) = count_within a b (differing l) k (differing_within l)

  pub counted_within : {w w' : Word} {k r : ℕ} → Counted T w w' k r → r ≤ k
  counted_within c = omega (arith, differing_within c.run, c.differ)

  pub recast_run : {w v w' v' : Word} {k j r t : ℕ} → w ≡ v → w' ≡ v' → k ≡ j → r ≡ t → Counted T w w' k r → Counted T v v' j t
  recast_run p q e d c = rw (← p, ← q, ← e, ← d) c

  pub step_then : {w w' p s : Word} {a b k r : ℕ} {x y : Positive} → site w ≡ at p a b s → complete T a b ≡ complement x y
      → Counted T (replaced p x y s) w' k r → Counted T w w' (suc k) (count a b r)
  step_then {a} {b} e c rest = record { run = Leftmost.go e c rest.run; differ = ap (count a b) rest.differ }

  then_run : {w w' w'' : Word} {k k' r' : ℕ} (l : Leftmost T w w' k) → Counted T w' w'' k' r' → Counted T w w'' (k + k') (differing l + r')
  then_run Leftmost.stay c = recast_run refl refl (omega arith) (omega arith) c
  then_run {r'} (Leftmost.go {a} {b} e c l) t =
      recast_run refl refl (omega arith) (count_add a b (differing l) r') (step_then e c (then_run l t))

  pub then : {w w' w'' : Word} {k k' r r' : ℕ} → Counted T w w' k r → Counted T w' w'' k' r' → Counted T w w'' (k + k') (r + r')
  then {r'} c t = recast_run refl refl refl (ap (λ r. r + r') c.differ) (then_run c.run t)

  first_of : {w w' p s : Word} {a b k : ℕ} (l : Leftmost T w w' k) → w ≢ w' → site w ≡ at p a b s → Stepped T p a b s w' k (differing l)
  first_of Leftmost.stay moves h = absurd (moves refl)
  first_of {p} {s} {a} {b} (Leftmost.go {p = p'} {s = s'} {a = a'} {b = b'} {k = k} {x = x} {y = y} e c l) moves h =
      let same_a : a' ≡ a = cc in
      let same_b : b' ≡ b = cc in
      let same_word : replaced p' x y s' ≡ replaced p x y s = cc in
      record {
        x = x;
        y = y;
        k' = k;
        r' = differing l;
        rule = cc;
        rest = recast_run same_word refl refl refl (counted l);
        steps = refl;
        differ = cc;
      }

  -- the leftmost site decides the first step
  pub first_step : {w w' p s : Word} {a b k r : ℕ} → Counted T w w' k r → w ≢ w' → site w ≡ at p a b s → Stepped T p a b s w' k r
  first_step c moves h = rw (← c.differ) (first_of c.run moves h)

-- what is left of a run to its end after another run from the same word (Lemma 1.1)
record Rest (T : Presentation) (w w' : Word) (k r k₁ r₁ : ℕ) : Type 0 where
  k₂ : ℕ
  r₂ : ℕ
  rest : Counted T w w' k₂ r₂
  steps : k ≡ k₁ + k₂
  differ : r ≡ r₁ + r₂

module _ {T : Presentation} where
  rest_of : {w w₁ w' : Word} {k₁ k r : ℕ} (l : Leftmost T w w₁ k₁) → Counted T w w' k r → Stuck T w' → Rest T w₁ w' k r k₁ (differing l)
  rest_of Leftmost.stay c stuck = record { k₂ = _; r₂ = _; rest = c; steps = omega arith; differ = omega arith }
  rest_of {w'} (Leftmost.go {w} {p} {s} {a} {b} {x} {y} e h l) c stuck =
      let moves : w ≢ w' = λ q. stuck p s a b x y (ap site (sym q) ∙ e) h in
      let f = first_step c moves e in
      let same_word : replaced p f.x f.y s ≡ replaced p x y s = cc f.rule in
      let t = rest_of l (recast_run same_word refl refl refl f.rest) stuck in
      record {
        k₂ = t.k₂;
        r₂ = t.r₂;
        rest = t.rest;
        steps = omega (arith, f.steps, t.steps);
        differ = f.differ ∙ (ap (count a b) t.differ ∙ count_add a b (differing l) t.r₂);
      }

  rest_after : {w w₁ w' : Word} {k₁ r₁ k r : ℕ} → Counted T w w₁ k₁ r₁ → Counted T w w' k r → Stuck T w' → Rest T w₁ w' k r k₁ r₁
  rest_after c₁ c stuck = rw (← c₁.differ) (rest_of c₁.run c stuck)

  stuck_stays : {w w' : Word} {k : ℕ} (l : Leftmost T w w' k) → Stuck T w → (w ≡ w') × (k ≡ 0) × (differing l ≡ 0)
  stuck_stays Leftmost.stay stuck = (refl, refl, refl)
  stuck_stays (Leftmost.go e c l) stuck = absurd (stuck _ _ _ _ _ _ e c)

  -- two runs to words from which no step leads on are the same
  pub same_end : {w w₁ w₂ : Word} {k₁ r₁ k₂ r₂ : ℕ} → Counted T w w₁ k₁ r₁ → Stuck T w₁ → Counted T w w₂ k₂ r₂ → Stuck T w₂
      → (w₁ ≡ w₂) × (k₁ ≡ k₂) × (r₁ ≡ r₂)
  same_end c₁ stuck₁ c₂ stuck₂ =
      let t = rest_after c₁ c₂ stuck₂ in
      let z = stuck_stays t.rest.run stuck₁ in
      (z.0, omega (arith, t.steps, z.1), omega (arith, t.differ, z.2, t.rest.differ))

module _ (T : Presentation) where
  -- a run that meets an undefined pair never finishes
  pub open_unfinished : {w w' p s : Word} {a b k : ℕ} → Leftmost T w w' k → site w' ≡ at p a b s → complete T a b ≡ undefined
      → (n d : Positive) {j : ℕ} → Leftmost T w (positive n ++ negative d) j → ⊥
  open_unfinished {w'} l e c n d f =
      let same = (same_end (counted l) (open_stuck T w' e c) (counted f) (fraction_stuck T n d)).0 in
      different_sites e (fraction_nowhere n d) same
