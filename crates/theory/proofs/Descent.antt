-- Steps in any order: two sites of a word do not overlap, so steps at different sites commute, one step for one step. So every order that
-- comes to a word without a site comes to the same word in as many steps ([D1] Lemma 1.1), and an open pair stays for ever.
-- From the definitions of a site and a step alone. Main names: `apart`, `diamond`, `goes_on`, `open_unending`, `follows_too`.
use mathlib.Core.Path.{◌≡◌, refl, sym, ap, ◌∙◌, subst}
use mathlib.Core.List.{[], ◌∷◌, ◌++◌, append_assoc}
use Prim.Native.Nat.{ℕ, zero, suc, ◌+◌}
use Rattle.model.specs.Word.{forward, back, Word, Positive, positive, negative}
use Rattle.model.specs.Presentation.{Presentation, Complement, undefined, complement, complete}
use Rattle.model.specs.Reversing.{Site, nowhere, at, site_after, site, replaced, Reduces}
use Rattle.theory.specs.Orders.{HasOpenPair, Strategy, Follows}
use native.Mathlib.Omega.{arith}
use Rattle.model.proofs.Impossible.{impossible}
use Rattle.model.proofs.Words.{beyond_nowhere}

-- two sites of a word are the same, or one stands after the other with a word between
pub data Apart (p : Word) (a b : ℕ) (s : Word) (p' : Word) (a' b' : ℕ) (s' : Word) : Type 0 where
  same : p ≡ p' → a ≡ a' → b ≡ b' → s ≡ s' → Apart p a b s p' a' b' s'
  later : (m : Word) → p' ≡ p ++ (back a ∷ forward b ∷ m) → s ≡ m ++ (back a' ∷ forward b' ∷ s') → Apart p a b s p' a' b' s'
  sooner : (m : Word) → p ≡ p' ++ (back a' ∷ forward b' ∷ m) → s' ≡ m ++ (back a ∷ forward b ∷ s) → Apart p a b s p' a' b' s'

apart : (p : Word) (a b : ℕ) (s p' : Word) (a' b' : ℕ) (s' : Word) → p ++ (back a ∷ forward b ∷ s) ≡ p' ++ (back a' ∷ forward b' ∷ s')
    → Apart p a b s p' a' b' s'
apart [] a b s [] a' b' s' e = same refl (cc) (cc) (cc)
apart [] a b s (x ∷ []) a' b' s' e = impossible (cc)
apart [] a b s (x ∷ y ∷ p') a' b' s' e = later p' (cc) (cc)
apart (x ∷ []) a b s [] a' b' s' e = impossible (cc)
apart (x ∷ y ∷ p) a b s [] a' b' s' e = sooner p (cc) (cc)
apart (x ∷ p) a b s (y ∷ p') a' b' s' e =
    let head : x ≡ y = cc in
    let tail : p ++ (back a ∷ forward b ∷ s) ≡ p' ++ (back a' ∷ forward b' ∷ s') = cc in
    more head (apart p a b s p' a' b' s' tail)
  where
    more : x ≡ y → Apart p a b s p' a' b' s' → Apart (x ∷ p) a b s (y ∷ p') a' b' s'
    more h (same q r t v) = same (cc) r t v
    more h (later m q r) = later m (cc) r
    more h (sooner m q r) = sooner m (cc) r

-- TWO STEPS

-- one step at a site
pub data Step (T : Presentation) (w v : Word) : Type 0 where
  at_site : (p : Word) (a b : ℕ) (s : Word) (x y : Positive) → w ≡ p ++ (back a ∷ forward b ∷ s) → complete T a b ≡ complement x y → v ≡ replaced p x y s
      → Step T w v

-- two steps from one word lead to the same word, or to words that meet after one more step each
pub data Meets (T : Presentation) (v v' : Word) : Type 0 where
  equal : v ≡ v' → Meets T v v'
  meet : (m : Word) → Step T v m → Step T v' m → Meets T v v'

-- what stands after the first part of a replaced word
regroup : (p : Word) (x y : Positive) (m s : Word) → replaced p x y (m ++ s) ≡ replaced p x y m ++ s
regroup p x y m s =
    ap (λ w. p ++ (positive x ++ w)) (sym (append_assoc (negative y) m s))
    ∙ (ap (λ w. p ++ w) (sym (append_assoc (positive x) (negative y ++ m) s)) ∙ sym (append_assoc p (positive x ++ (negative y ++ m)) s))

module _ (T : Presentation) where
  -- steps at two sites, the second after the first, commute
  crossed : (p : Word) (a b : ℕ) (m : Word) (a' b' : ℕ) (s' : Word) (x y x' y' : Positive) → complete T a b ≡ complement x y
      → complete T a' b' ≡ complement x' y'
      → (v v' : Word) → v ≡ replaced p x y (m ++ (back a' ∷ forward b' ∷ s')) → v' ≡ replaced (p ++ (back a ∷ forward b ∷ m)) x' y' s'
      → (w : Word) × Step T v w × Step T v' w
  crossed p a b m a' b' s' x y x' y' c c' v v' h h' =
      let rest = positive x' ++ (negative y' ++ s') in (
        replaced (replaced p x y m) x' y' s',
        at_site (replaced p x y m) a' b' s' x' y' (h ∙ regroup p x y m (back a' ∷ forward b' ∷ s')) c' refl,
        at_site p a b (m ++ rest) x y (h' ∙ append_assoc p (back a ∷ forward b ∷ m) rest) c (sym (regroup p x y m rest)),
      )

  meeting : (p : Word) (a b : ℕ) (s : Word) (x y : Positive) (p' : Word) (a' b' : ℕ) (s' : Word) (x' y' : Positive) (v v' : Word)
      → complete T a b ≡ complement x y → complete T a' b' ≡ complement x' y' → v ≡ replaced p x y s → v' ≡ replaced p' x' y' s'
      → Apart p a b s p' a' b' s' → Meets T v v'
  meeting p a b s x y p' a' b' s' x' y' v v' c c' h h' (same q r t u) =
      let rules : complete T a b ≡ complete T a' b' = cc in
      equal (cc)
  meeting p a b s x y p' a' b' s' x' y' v v' c c' h h' (later m q r) =
      let t = crossed p a b m a' b' s' x y x' y' c c' v v' (h ∙ ap (replaced p x y) r) (h' ∙ ap (λ p. replaced p x' y' s') q) in
      meet t.0 t.1 t.2
  meeting p a b s x y p' a' b' s' x' y' v v' c c' h h' (sooner m q r) =
      let t = crossed p' a' b' m a b s x' y' x y c' c v' v (h' ∙ ap (replaced p' x' y') r) (h ∙ ap (λ p. replaced p x y s) q) in
      meet t.0 t.2 t.1

  pub diamond : {w v v' : Word} → Step T w v → Step T w v' → Meets T v v'
  diamond {v} {v'} (at_site p a b s x y e c h) (at_site p' a' b' s' x' y' e' c' h') =
      meeting p a b s x y p' a' b' s' x' y' v v' c c' h h' (apart p a b s p' a' b' s' (sym e ∙ e'))

-- WORDS WITHOUT A SITE

abbrev pub Free : Word → Type 0
Free w = (p : Word) (a b : ℕ) (s : Word) → w ≡ p ++ (back a ∷ forward b ∷ s) → ⊥

after_somewhere : (c : ℕ) (p : Word) (a b : ℕ) (s : Word) → site_after c (p ++ (back a ∷ forward b ∷ s)) ≡ nowhere → ⊥
after_somewhere c [] a b s e = impossible (cc)
after_somewhere c (forward x ∷ p) a b s e = impossible (cc)
after_somewhere c (back x ∷ p) a b s e = after_somewhere x p a b s (beyond_nowhere (back c) (site_after x (p ++ (back a ∷ forward b ∷ s))) e)

somewhere : (p : Word) (a b : ℕ) (s : Word) → site (p ++ (back a ∷ forward b ∷ s)) ≡ nowhere → ⊥
somewhere [] a b s e = impossible (cc)
somewhere (forward x ∷ p) a b s e = somewhere p a b s (beyond_nowhere (forward x) (site (p ++ (back a ∷ forward b ∷ s))) e)
somewhere (back x ∷ p) a b s e = after_somewhere x p a b s e

pub nowhere_free : (w : Word) → site w ≡ nowhere → Free w
nowhere_free w e p a b s h = somewhere p a b s (ap site (sym h) ∙ e)

-- ANY ORDER

-- the rest of a reduction of k steps to f, of which v is a word after j steps
pub record Rest (T : Presentation) (v f : Word) (j k : ℕ) : Type 0 where
  pub left : ℕ
  pub steps : j + left ≡ k
  pub reduces : Reduces T v f left

module _ (T : Presentation) where
  then_step : {v m f : Word} {j : ℕ} → Step T v m → Reduces T m f j → Reduces T v f (suc j)
  then_step {f} {j} (at_site p a b s x y e c h) r = Reduces.go p a b s e c (subst (λ w. Reduces T w f j) h r)

  -- whatever step is taken first, the same end is one step nearer
  nearer : {w v f : Word} {k : ℕ} → Step T w v → Reduces T w f k → Free f → Rest T v f 1 k
  nearer (at_site p a b s x y e c h) Reduces.stay free = absurd (free p a b s e)
  nearer {v} {f} st (Reduces.go p a b s {k} {x} {y} e c r) free =
      go (diamond T (at_site p a b s x y e c refl) st) (λ m first. nearer {v = m} first r free)
    where
      go : Meets T (replaced p x y s) v → ((m : Word) → Step T (replaced p x y s) m → Rest T m f 1 k) → Rest T v f 1 (suc k)
      go (equal h) again = record { left = k; steps = omega arith; reduces = subst (λ w. Reduces T w f k) h r }
      go (meet m first second) again =
          let t = again m first in
          let one_more : suc t.left ≡ k = omega (arith, t.steps) in
          record { left = k; steps = omega arith; reduces = subst (λ n. Reduces T v f n) one_more (then_step second t.reduces) }

  -- so no order is stuck and none runs on
  pub goes_on : {w v f : Word} {j k : ℕ} → Reduces T w v j → Reduces T w f k → Free f → Rest T v f j k
  goes_on {k} Reduces.stay whole free = record { left = k; steps = omega arith; reduces = whole }
  goes_on (Reduces.go p a b s {x} {y} e c r) whole free =
      let t = nearer (at_site p a b s x y e c refl) whole free in
      let u = goes_on r t.reduces free in
      record { left = u.left; steps = omega (arith, t.steps, u.steps); reduces = u.reduces }

  open_stays : {w f : Word} {k : ℕ} (p : Word) (a b : ℕ) (s : Word) → w ≡ p ++ (back a ∷ forward b ∷ s) → complete T a b ≡ undefined → Reduces T w f k → Free f
      → ⊥
  open_stays p a b s e c Reduces.stay free = free p a b s e
  open_stays {f} p a b s e c (Reduces.go p' a' b' s' {k} {x} {y} e' c' r) free =
      go (apart p a b s p' a' b' s' (sym e ∙ e')) (λ q t h. open_stays q a b t h c r free)
    where
      go : Apart p a b s p' a' b' s' → ((q t : Word) → replaced p' x y s' ≡ q ++ (back a ∷ forward b ∷ t) → ⊥) → ⊥
      go (same h₁ h₂ h₃ h₄) again =
          let both : complete T a b ≡ complete T a' b' = cc in
          impossible (cc)
      go (later m h t) again =
          again p (m ++ (positive x ++ (negative y ++ s')))
          (ap (λ q. replaced q x y s') h ∙ append_assoc p (back a ∷ forward b ∷ m) (positive x ++ (negative y ++ s')))
      go (sooner m h t) again =
          again (replaced p' x y m) s (ap (replaced p' x y) t ∙ regroup p' x y m (back a ∷ forward b ∷ s))

  -- a word with an open pair comes to none without a site
  pub open_unending : {w f : Word} {k : ℕ} → HasOpenPair T w → Reduces T w f k → Free f → ⊥
  open_unending o r free = open_stays o.before o.a o.b o.after o.word o.unrelated r free

  -- STRATEGIES

  module _ (pick : Word → Site) (strategy : Strategy pick) where
    pub follows_reduces : {w v : Word} {k : ℕ} → Follows pick T w v k → Reduces T w v k
    follows_reduces Follows.stay = Reduces.stay
    follows_reduces (Follows.go {w} {p} {s} {a} {b} e c r) = Reduces.go p a b s (strategy.picked w e) c (follows_reduces r)

    by_rule : (k : ℕ) (w : Word) {f : Word} → Reduces T w f (suc k) → Free f → ((v : Word) → Reduces T v f k → Follows pick T v f k)
        → (p : Word) (a b : ℕ) (s : Word) → pick w ≡ at p a b s → (c : Complement) → complete T a b ≡ c → Follows pick T w f (suc k)
    by_rule k w r free again p a b s e undefined c = absurd (open_stays p a b s (strategy.picked w e) c r free)
    by_rule k w {f} r free again p a b s e (complement x y) c =
        let t = nearer (at_site p a b s x y (strategy.picked w e) c refl) r free in
        let same : t.left ≡ k = omega (arith, t.steps) in
        Follows.go e c (again (replaced p x y s) (subst (λ n. Reduces T (replaced p x y s) f n) same t.reduces))

    by_site_lem : (k : ℕ) (w : Word) {f : Word} → Reduces T w f (suc k) → Free f → ((v : Word) → Reduces T v f k → Follows pick T v f k)
        → (o : Site) → pick w ≡ o → Follows pick T w f (suc k)
    by_site_lem k w (Reduces.go p a b s h c r) free again nowhere e = absurd (nowhere_free w (strategy.none_left w e) p a b s h)
    by_site_lem k w r free again (at p a b s) e = by_rule k w r free again p a b s e (complete T a b) refl

    -- what some order brings to a word without a site, the strategy brings there in as many steps
    pub follows_too : (k : ℕ) (w : Word) {f : Word} → Reduces T w f k → Free f → Follows pick T w f k
    follows_too zero w Reduces.stay free = Follows.stay
    follows_too (suc k) w r free = by_site_lem k w r free (λ v t. follows_too k v t free) (pick w) refl
