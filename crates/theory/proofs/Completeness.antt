-- Where the cube condition holds on letters and relations keep weight, equivalent words reverse to the empty word: by induction on the weight
-- of a diagram, as [D1] proves Lemma 1.4 from coherence, and [D3] (Prop. 4.4) and [D2] (Prop. 6.1) restate it.
-- From the laws of diagrams (Grid.antt): a letter against both sides of a relation, then a word against them, then one swap, then a chain of swaps.
-- Main names: `Cube`, `Changed`, `one_letter`, `middle`, `one_swap`, `follows`, `complete_for`.
use mathlib.Core.Path.{◌≡◌, refl, sym, ap, ◌∙◌}
use mathlib.Core.Logic.{◌≢◌}
use mathlib.Core.List.{[], ◌∷◌, ◌++◌, append-nil}
use Prim.Native.Nat.{ℕ, zero, suc, ◌+◌, ◌≤◌, ◌<◌}
use native.Mathlib.Omega.{arith}
use native.Mathlib.Decide.{ℕ_discrete}
use Rattle.model.specs.Word.{Positive}
use Rattle.model.specs.Presentation.{Complement, complement, swapped, total}
use Rattle.model.proofs.Equiv.{Equiv, Swap, done, step, trans, one, by_eq, prefix, suffix, symm, total_append, Homogeneous, weight_kept}
use Rattle.theory.proofs.Grid.{Grid, Split, left_nil, cell, top, recast, beside, split, below, same_grid, itself, sound, turned, unstack}

-- (b\a)\(b\c) is defined, and joined to the word n
pub record Closes (f : ℕ → ℕ → Complement) (b c : ℕ) (ba n : Positive) : Type 0 where
  pub bc : Positive
  pub cb : Positive
  pub n' : Positive
  pub d' : Positive
  pub k' : ℕ
  pub rule : f b c ≡ complement bc cb
  pub grid : Grid f ba bc n' d' k'
  pub agree : Equiv f n n'

-- the cube condition on different letters: where (a\b)\(a\c) is defined, so is (b\a)\(b\c), and the two are joined
abbrev pub Cube : (ℕ → ℕ → Complement) → Type 0
Cube f =
    (a b c : ℕ) → a ≢ b → a ≢ c → b ≢ c → (ab ba ac ca n d : Positive) (k : ℕ) → f a b ≡ complement ab ba → f a c ≡ complement ac ca
    → Grid f ab ac n d k → Closes f b c ba n

-- a diagram of u and v whose numerator and denominator are equivalent to n and d
pub record Changed (f : ℕ → ℕ → Complement) (u v n d : Positive) : Type 0 where
  pub n' : Positive
  pub d' : Positive
  pub k' : ℕ
  pub grid : Grid f u v n' d' k'
  pub over : Equiv f n n'
  pub along : Equiv f d d'

module _ (weight : ℕ → ℕ) (weighs : (a : ℕ) → 1 ≤ weight a) {f : ℕ → ℕ → Complement} (same : (a : ℕ) → f a a ≡ complement [] [])
    (turn : (a b : ℕ) → f b a ≡ swapped (f a b)) (even : Homogeneous weight f) (cube : Cube f) where
  -- one letter against the two sides of a relation, where the three cube conditions are known
  apart_closed : (a b c : ℕ) {ab ba ca ac z p e : Positive} → f a b ≡ complement ab ba → f c a ≡ complement ca ac → z ≡ ca ++ p
      → (first : Closes f b c ba e) → Closes f c b ca p → Closes f c a first.cb first.d' → Changed f (c ∷ []) (b ∷ ba) z e
  apart_closed a b c {ca} r s q first second third =
      let cb_rule : f c b ≡ complement first.cb first.bc = turn b c ∙ ap swapped first.rule in
      let cb≡ : first.cb ≡ second.bc = cc (cb_rule, second.rule) in
      let ca≡ : third.bc ≡ ca = cc (third.rule, s) in
      let face = same_grid second.grid (recast ca≡ cb≡ refl refl refl (turned turn third.grid)) in
      let ends : second.bc ++ second.d' ≡ first.cb ++ third.n' = cc (cb≡, face.1) in
      let far : Equiv f (ca ++ second.n') (first.cb ++ third.n') = trans (sound second.grid) (by_eq ends) in
      record {
        n' = first.cb ++ first.d';
        d' = first.n';
        k' = _;
        grid =
            cell cb_rule left_nil (recast (sym (append-nil first.bc)) refl refl refl refl (turned turn first.grid)) refl refl;
        over = trans (by_eq q) (trans (prefix ca second.agree) (trans far (prefix first.cb (symm turn third.agree))));
        along = first.agree;
      }

  -- one letter against the two sides of a relation
  letter_apart : (a b c : ℕ) {ab ba z e : Positive} {k : ℕ} → a ≢ b → a ≢ c → b ≢ c → f a b ≡ complement ab ba → Grid f (c ∷ []) (a ∷ ab) z e k
      → Changed f (c ∷ []) (b ∷ ba) z e
  letter_apart a b c {ab} {ba} {z} {e} a≢b a≢c b≢c r (cell {x = ca} {y = ac} {n₁ = m} {d₁ = t} {n₂ = p} s g₁ g₂ q w) =
      let m≡ca : m ≡ ca = (top g₁).0 in
      let t≡[] : t ≡ [] = (top g₁).1 in
      let ac_rule : f a c ≡ complement ac ca = turn c a ∙ ap swapped s in
      let g : Grid f ac ab p e _ = recast (ap (λ l. ac ++ l) t≡[] ∙ append-nil ac) refl refl refl refl g₂ in
      let first = cube a b c a≢b a≢c b≢c ab ba ac ca e p _ r ac_rule (turned turn g) in
      let second = cube a c b a≢c a≢b (λ h. b≢c (sym h)) ac ca ab ba p e _ ac_rule r g in
      let ba_rule : f b a ≡ complement ba ab = turn a b ∙ ap swapped r in
      let third = cube b c a b≢c (λ h. a≢b (sym h)) (λ h. a≢c (sym h)) first.bc first.cb ba ab first.d' first.n' _ first.rule ba_rule
      (turned turn first.grid) in
      apart_closed a b c r s (q ∙ ap (λ l. l ++ p) m≡ca) first second third

  -- a letter that is one of the two: a against a C(a,b) and b C(b,a)
  letter_first : (a b : ℕ) {ab ba z e : Positive} {k : ℕ} → f a b ≡ complement ab ba → Grid f (a ∷ []) (a ∷ ab) z e k
      → Changed f (a ∷ []) (b ∷ ba) z e
  letter_first a b {ab} {ba} r g =
      let self = itself same ba in
      let known : Grid f (a ∷ []) (a ∷ ab) ab [] 1 = cell (same a) left_nil left_nil refl refl in
      let eq = same_grid g known in
      record {
        n' = ab;
        d' = [];
        k' = _;
        grid = cell r left_nil (recast (sym (append-nil ba)) refl refl refl refl self.1) (sym (append-nil ab)) refl;
        over = by_eq eq.0;
        along = by_eq eq.1;
      }

  letter_second : (a b : ℕ) {ab ba z e : Positive} {k : ℕ} → f a b ≡ complement ab ba → Grid f (b ∷ []) (a ∷ ab) z e k
      → Changed f (b ∷ []) (b ∷ ba) z e
  letter_second a b {ab} {ba} r g =
      let self = itself same ab in
      let known : Grid f (b ∷ []) (a ∷ ab) ba [] _ =
      cell (turn a b ∙ ap swapped r) left_nil (recast (sym (append-nil ab)) refl refl refl refl self.1) (sym (append-nil ba)) refl in
      let eq = same_grid g known in
      record {
        n' = ba;
        d' = [];
        k' = _;
        grid = cell (same b) left_nil left_nil refl refl;
        over = by_eq eq.0;
        along = by_eq eq.1;
      }

  one_letter : (a b c : ℕ) {ab ba z e : Positive} {k : ℕ} → f a b ≡ complement ab ba → Grid f (c ∷ []) (a ∷ ab) z e k → Changed f (c ∷ []) (b ∷ ba) z e
  one_letter a b c {ab} {ba} {z} {e} {k} r g = go (ℕ_discrete a b) (ℕ_discrete a c) (ℕ_discrete b c)
    where
      go : Dec (a ≡ b) → Dec (a ≡ c) → Dec (b ≡ c) → Changed f (c ∷ []) (b ∷ ba) z e
      go (yes p) _ _ =
          let r' : f a b ≡ complement [] [] = rw (← p) (same a) in
          let ab≡ : ab ≡ [] = cc in
          let ba≡ : ba ≡ [] = cc in
          record { n' = z; d' = e; k' = k; grid = recast refl (cc) refl refl refl g; over = done; along = done }
      go (no p) (yes q) _ = rw (← q) (letter_first a b r (recast (ap (λ x. x ∷ []) (sym q)) refl refl refl refl g))
      go (no p) (no q) (yes t) = rw (← t) (letter_second a b r (recast (ap (λ x. x ∷ []) (sym t)) refl refl refl refl g))
      go (no p) (no q) (no t) = letter_apart a b c p q t r g

  -- the weight of a diagram: that of u and the numerator
  balance : {u v n d : Positive} {k : ℕ} → Grid f u v n d k → total weight u + total weight n ≡ total weight v + total weight d
  balance {u} {v} {n} {d} g = omega (arith, simp total_append at (weight_kept weight even (sound g)))

  -- a diagram lighter than m follows a change of v
  abbrev Follows : ℕ → Type 0
  Follows m =
      (u v v' n d : Positive) (k : ℕ) → Grid f u v n d k → total weight u + total weight n < m → Equiv f v v' → Changed f u v' n d

  module _ (m : ℕ) (lighter : Follows m) where
    -- and a change of u
    follows_left : {u u' v n d : Positive} {k : ℕ} → Grid f u v n d k → total weight u + total weight n < m → Equiv f u u' → Changed f u' v n d
    follows_left {u} {u'} {v} {n} {d} g h e =
        let r = lighter v u u' d n _ (turned turn g) (omega (arith, balance g)) e in
        record { n' = r.d'; d' = r.n'; k' = r.k'; grid = turned turn r.grid; over = r.along; along = r.over }

    -- the sides of a relation, against any word
    middle : (u : Positive) (a b : ℕ) {x y w u₂ : Positive} {k : ℕ} → f a b ≡ complement x y → Grid f u (a ∷ x) w u₂ k
        → total weight u + total weight w ≤ m → Changed f u (b ∷ y) w u₂
    middle [] a b {x} {y} {w} {u₂} r g h =
        let swap : Swap f (a ∷ x) (b ∷ y) =
        record {
          before = [];
          after = [];
          a = a;
          b = b;
          x = x;
          y = y;
          rule = r;
          left = ap (λ l. a ∷ l) (sym (append-nil x));
          right = ap (λ l. b ∷ l) (sym (append-nil y));
        } in
        record {
          n' = b ∷ y;
          d' = [];
          k' = 0;
          grid = left_nil;
          over = trans (by_eq (top g).0) (one swap);
          along = by_eq (top g).1;
        }
    middle (c ∷ u) a b {x} {y} {w} {u₂} r g h =
        let s = unstack turn (c ∷ []) {u₂ = u} g in
        let row = one_letter a b c r s.first in
        let rest = lighter u s.mid row.n' w s.d₂ _ s.second (omega (arith, weighs c)) row.over in
        record {
          n' = rest.n';
          d' = row.d' ++ rest.d';
          k' = _;
          grid = below row.grid rest.grid;
          over = rest.over;
          along = trans (by_eq s.joint) (trans (suffix s.d₂ row.along) (prefix row.d' rest.along));
        }

    -- one relation step in v: the diagram in three parts, of which the second changes, and then the third
    module _ {u v v' n d : Positive} {k : ℕ} (s : Swap f v v') (l : Split f u s.before ((s.a ∷ s.x) ++ s.after) n d k)
        (c : Split f l.mid (s.a ∷ s.x) s.after l.n₂ d l.k₂) where
      heavy : total weight n ≡ total weight l.n₁ + (total weight c.n₁ + total weight c.n₂)
      heavy = ap (total weight) (l.joint ∙ ap (λ w. l.n₁ ++ w) c.joint) ∙ simp total_append

      three_parts : (r : Changed f l.mid (s.b ∷ s.y) c.n₁ c.mid) → Changed f r.d' s.after c.n₂ d → Changed f u v' n d
      three_parts r t =
          record {
            n' = l.n₁ ++ (r.n' ++ t.n');
            d' = t.d';
            k' = _;
            grid = recast refl (sym s.right) refl refl refl (beside l.first (beside r.grid t.grid));
            over =
                trans (by_eq (l.joint ∙ ap (λ w. l.n₁ ++ w) c.joint))
                (prefix l.n₁ (trans (suffix c.n₂ r.over) (prefix r.n' t.over)));
            along = t.along;
          }

      second_changed : total weight u + total weight n ≤ m → Changed f l.mid (s.b ∷ s.y) c.n₁ c.mid → Changed f u v' n d
      second_changed h r =
          three_parts r
          (follows_left c.second (omega (arith, heavy, balance l.first, balance c.first, weighs s.a)) r.along)

      in_parts : total weight u + total weight n ≤ m → Changed f u v' n d
      in_parts h = second_changed h (middle l.mid s.a s.b s.rule c.first (omega (arith, heavy, balance l.first)))

    one_swap : {u v v' n d : Positive} {k : ℕ} → Grid f u v n d k → total weight u + total weight n ≤ m → Swap f v v' → Changed f u v' n d
    one_swap g h s =
        let l = split s.before (recast refl s.left refl refl refl g) in
        in_parts s l (split (s.a ∷ s.x) l.second) h

    follows_suc : (u v v' n d : Positive) (k : ℕ) → Grid f u v n d k → total weight u + total weight n ≤ m → Equiv f v v' → Changed f u v' n d
    follows_suc u v v' n d k g h done = record { n' = n; d' = d; k' = k; grid = g; over = done; along = done }
    follows_suc u v v' n d k g h (step {w = w} s e) =
        let r = one_swap g h s in
        let t = follows_suc u w v' r.n' r.d' r.k' r.grid (omega (arith, weight_kept weight even r.over)) e in
        record { n' = t.n'; d' = t.d'; k' = t.k'; grid = t.grid; over = trans r.over t.over; along = trans r.along t.along }

  follows : (m : ℕ) → Follows m
  follows zero u v v' n d k g h e = absurd (omega arith)
  follows (suc m) u v v' n d k g h e = follows_suc m (follows m) u v v' n d k g (omega arith) e

  weightless : (u : Positive) → total weight u ≡ 0 → u ≡ []
  weightless [] h = refl
  weightless (a ∷ u) h = absurd (omega (arith, weighs a))

  -- equivalent words reverse to the empty word
  pub complete_for : {u v : Positive} → Equiv f u v → (k : ℕ) × Grid f u v [] [] k
  complete_for {u} {v} e =
      let self = itself same u in
      let r = follows (suc (total weight u + 0)) u u v [] [] self.0 self.1 (omega arith) e in
      let n≡ = weightless r.n' (sym (weight_kept weight even r.over)) in
      let d≡ = weightless r.d' (sym (weight_kept weight even r.along)) in
      (r.k', recast refl refl n≡ d≡ refl r.grid)
