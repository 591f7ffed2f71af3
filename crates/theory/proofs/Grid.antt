-- Reversing diagrams: `Grid f u v n d k` says that the inverse of u, then v, is reversed to n, then the inverse of d, in k steps.
-- They compose and split ([D1] Lemma 1.3), turn, are determined by u and v (1.1), and u n is equivalent to v d (1.2).
-- For every f that gives completions; where a law asks for it, f a a is two empty words, and f b a is f a b with its words exchanged.
-- Main names: `Grid`; `beside`, `below`, `split`, `unstack`; `turned`; `same_grid`; `itself`; `sound`, `derives_empty`.
use mathlib.Core.Path.{◌≡◌, refl, sym, ap, ◌∙◌, subst₂}
use mathlib.Core.List.{[], ◌∷◌, ◌++◌, append_assoc, append-nil}
use Prim.Native.Nat.{ℕ, suc, ◌+◌}
use native.Mathlib.Omega.{arith}
use Rattle.model.specs.Reversing.{count}
use Rattle.model.specs.Word.{Positive}
use Rattle.model.specs.Presentation.{Complement, complement, swapped}
use Rattle.model.proofs.Count.{count_between}
use Rattle.model.proofs.Equiv.{Equiv, Derives, derives_swap, derives_then, derives_prefix, derives_suffix, derives_same}

pub data Grid (f : ℕ → ℕ → Complement) : Positive → Positive → Positive → Positive → ℕ → Type 0 where
  left_nil : {v : Positive} → Grid f [] v v [] 0
  right_nil : {a : ℕ} {u : Positive} → Grid f (a ∷ u) [] [] (a ∷ u) 0
  cell : {a b : ℕ} {u v x y n₁ d₁ n₂ d n : Positive} {k₁ k₂ k : ℕ} → f a b ≡ complement x y
      → Grid f u x n₁ d₁ k₁ → Grid f (y ++ d₁) v n₂ d k₂ → n ≡ n₁ ++ n₂ → k ≡ suc (k₁ + k₂)
      → Grid f (a ∷ u) (b ∷ v) n d k

-- the cells on two different letters
abbrev pub cells : {f : ℕ → ℕ → Complement} {u v n d : Positive} {k : ℕ} → Grid f u v n d k → ℕ
cells left_nil = 0
cells right_nil = 0
cells (cell {a} {b} e g₁ g₂ p q) = count a b (cells g₁ + cells g₂)

-- a diagram over v₁ v₂ as one over v₁ and one over v₂ beside it
pub record Split (f : ℕ → ℕ → Complement) (u v₁ v₂ n d : Positive) (k : ℕ) : Type 0 where
  pub n₁ : Positive
  pub n₂ : Positive
  pub mid : Positive
  pub k₁ : ℕ
  pub k₂ : ℕ
  pub first : Grid f u v₁ n₁ mid k₁
  pub second : Grid f mid v₂ n₂ d k₂
  pub joint : n ≡ n₁ ++ n₂
  pub steps : k ≡ k₁ + k₂

-- a diagram over u₁ u₂ as one over u₁ and one over u₂ below it
pub record Stack (f : ℕ → ℕ → Complement) (u₁ u₂ v n d : Positive) (k : ℕ) : Type 0 where
  pub mid : Positive
  pub d₁ : Positive
  pub d₂ : Positive
  pub k₁ : ℕ
  pub k₂ : ℕ
  pub first : Grid f u₁ v mid d₁ k₁
  pub second : Grid f u₂ mid n d₂ k₂
  pub joint : d ≡ d₁ ++ d₂
  pub steps : k ≡ k₁ + k₂

module _ {f : ℕ → ℕ → Complement} where
  -- the diagram of an empty side
  pub top : {v n d : Positive} {k : ℕ} → Grid f [] v n d k → (n ≡ v) × (d ≡ []) × (k ≡ 0)
  top left_nil = (refl, refl, refl)

  pub bottom : {u n d : Positive} {k : ℕ} → Grid f u [] n d k → (n ≡ []) × (d ≡ u) × (k ≡ 0)
  bottom left_nil = (refl, refl, refl)
  bottom right_nil = (refl, refl, refl)

  pub any_bottom : (u : Positive) → Grid f u [] [] u 0
  any_bottom [] = left_nil
  any_bottom (a ∷ u) = right_nil

  -- the same diagram under equal names of its sides
  pub recast : {u u' v v' n n' d d' : Positive} {k k' : ℕ} → u ≡ u' → v ≡ v' → n ≡ n' → d ≡ d' → k ≡ k' → Grid f u v n d k → Grid f u' v' n' d' k'
  recast p q r s t g = rw (← p, ← q, ← r, ← s, ← t) g

  -- two diagrams side by side
  pub beside : {u v₁ n₁ d₁ v₂ n₂ d₂ : Positive} {k₁ k₂ : ℕ} → Grid f u v₁ n₁ d₁ k₁ → Grid f d₁ v₂ n₂ d₂ k₂
      → Grid f u (v₁ ++ v₂) (n₁ ++ n₂) d₂ (k₁ + k₂)
  beside {v₁} left_nil h = recast refl refl (ap (λ w. v₁ ++ w) (sym (top h).0)) (sym (top h).1) (omega (arith, (top h).2)) left_nil
  beside right_nil h = recast refl refl refl refl (omega arith) h
  beside {n₂ = m} {k₂ = j} (cell {n} {k} e g₁ g₂ p q) h = cell {n = n ++ m} {k = k + j} e g₁ (beside g₂ h) (rw (p, append_assoc)) (omega (arith, q))

  pub split : (v₁ : Positive) {u v₂ n d : Positive} {k : ℕ} → Grid f u (v₁ ++ v₂) n d k → Split f u v₁ v₂ n d k
  split [] {u} {k} g =
      record { n₁ = []; n₂ = _; mid = u; k₁ = 0; k₂ = k; first = any_bottom u; second = g; joint = refl; steps = omega arith }
  split (b ∷ v₁) left_nil =
      record { n₁ = b ∷ v₁; n₂ = _; mid = []; k₁ = 0; k₂ = 0; first = left_nil; second = left_nil; joint = refl; steps = omega arith }
  split (b ∷ v₁) (cell {n₁ = m} {k₁ = j} e g₁ g₂ p q) =
      let s = split v₁ g₂ in
      record {
        n₁ = m ++ s.n₁;
        n₂ = s.n₂;
        mid = s.mid;
        k₁ = suc (j + s.k₁);
        k₂ = s.k₂;
        first = cell e g₁ s.first refl refl;
        second = s.second;
        joint = p ∙ (ap (λ w. m ++ w) s.joint ∙ sym (append_assoc m s.n₁ s.n₂));
        steps = omega (arith, q, s.steps);
      }

  -- two diagrams one below the other
  pub below : {u₁ v mid d₁ u₂ n d₂ : Positive} {k₁ k₂ : ℕ} → Grid f u₁ v mid d₁ k₁ → Grid f u₂ mid n d₂ k₂
      → Grid f (u₁ ++ u₂) v n (d₁ ++ d₂) (k₁ + k₂)
  below left_nil h = recast refl refl refl refl (omega arith) h
  below {u₂} (right_nil {a} {u}) h =
      recast refl refl (sym (bottom h).0) (ap (λ w. (a ∷ u) ++ w) (sym (bottom h).1)) (omega (arith, (bottom h).2)) (right_nil {a = a} {u = u ++ u₂})
  below {k₂ = j} (cell {y} {n₁} {d₁} {k₁} {k₂} {k} e g₁ g₂ p q) h =
      let s = split n₁ (recast refl p refl refl refl h) in
      cell {k₁ = k₁ + s.k₁} {k₂ = k₂ + s.k₂} {k = k + j} e (below g₁ s.first)
      (recast (append_assoc y d₁ s.mid) refl refl refl refl (below g₂ s.second))
      s.joint
      (omega (arith, q, s.steps))

  -- what a diagram gives is determined by u and v
  pub same_grid : {u v n d n' d' : Positive} {k k' : ℕ} → Grid f u v n d k → Grid f u v n' d' k' → (n ≡ n') × (d ≡ d') × (k ≡ k')
  same_grid left_nil h = (sym (top h).0, sym (top h).1, sym (top h).2)
  same_grid right_nil h = (sym (bottom h).0, sym (bottom h).1, sym (bottom h).2)
  same_grid (cell {x} {y} {n₁} {d₁} e g₁ g₂ p q) (cell {x = x'} {y = y'} {n₁ = n₁'} {d₁ = d₁'} e' h₁ h₂ p' q') =
      let ex : x ≡ x' = cc in
      let ey : y ≡ y' = cc in
      let r = same_grid g₁ (recast refl (sym ex) refl refl refl h₁) in
      let ed : y' ++ d₁' ≡ y ++ d₁ = cc r.1 in
      let s = same_grid g₂ (recast ed refl refl refl refl h₂) in
      (cc (r.0, s.0), s.1, omega (arith, q, q', r.2, s.2))

  -- a word against itself
  pub itself : ((a : ℕ) → f a a ≡ complement [] []) → (u : Positive) → (k : ℕ) × Grid f u u [] [] k
  itself same [] = (0, left_nil)
  itself same (a ∷ u) =
      let r = itself same u in
      (suc r.0, cell {k = suc r.0} (same a) (any_bottom u) r.1 refl (omega arith))

  -- the words beside a cell: across the first row, by the relation, then down
  derives_cell : (a b : ℕ) (u v x y n₁ d₁ n₂ d : Positive) (j k : ℕ) → f a b ≡ complement x y → Derives f (u ++ n₁) (x ++ d₁) j
      → Derives f ((y ++ d₁) ++ n₂) (v ++ d) k → Derives f (a ∷ (u ++ (n₁ ++ n₂))) (b ∷ (v ++ d)) (count a b (j + k))
  derives_cell a b u v x y n₁ d₁ n₂ d j k e first second =
      let across : Derives f (a ∷ (u ++ (n₁ ++ n₂))) (a ∷ (x ++ (d₁ ++ n₂))) j =
      rw (← append_assoc u n₁ n₂, ← append_assoc x d₁ n₂) (derives_prefix (a ∷ []) (derives_suffix n₂ first)) in
      let relation : Derives f (a ∷ (x ++ (d₁ ++ n₂))) (b ∷ (y ++ (d₁ ++ n₂))) (count a b 0) =
      derives_swap (record { before = []; after = d₁ ++ n₂; a = a; b = b; x = x; y = y; rule = e; left = refl; right = refl }) in
      let down : Derives f (b ∷ (y ++ (d₁ ++ n₂))) (b ∷ (v ++ d)) k = rw (← append_assoc y d₁ n₂) (derives_prefix (b ∷ []) second) in
      rw (← count_between a b j k) (derives_then across (derives_then relation down))

  -- what is joined, u n and v d, by as many steps on two different letters as there are such cells
  derives : {u v n d : Positive} {k : ℕ} (g : Grid f u v n d k) → Derives f (u ++ n) (v ++ d) (cells g)
  derives {v} left_nil = derives_same (sym (append-nil v))
  derives {u = a ∷ u} right_nil = derives_same (append-nil (a ∷ u))
  derives (cell {a} {b} {u} {v} {x} {y} {n₁} {d₁} {n₂} {d} e g₁ g₂ p q) =
      rw p (derives_cell a b u v x y n₁ d₁ n₂ d (cells g₁) (cells g₂) e (derives g₁) (derives g₂))

  -- where it ends empty
  pub derives_empty : {u v : Positive} {k : ℕ} (g : Grid f u v [] [] k) → Derives f u v (cells g)
  derives_empty {u} {v} g = subst₂ (λ u v. Derives f u v (cells g)) (append-nil u) (append-nil v) (derives g)

  pub sound : {u v n d : Positive} {k : ℕ} → Grid f u v n d k → Equiv f (u ++ n) (v ++ d)
  sound g = (derives g).path

  module _ (turn : (a b : ℕ) → f b a ≡ swapped (f a b)) where
    -- the diagram seen from the other side
    pub turned : {u v n d : Positive} {k : ℕ} → Grid f u v n d k → Grid f v u d n k
    turned {v} left_nil = any_bottom v
    turned right_nil = left_nil
    turned (cell {a} {b} {u} {v} {x} {y} {n₁} {d₁} {n₂} {d} {n} {k₁} {k₂} {k} e g₁ g₂ p q) =
        let s = split y (turned g₂) in
        cell {n = d} {k = k} (turn a b ∙ ap swapped e) s.first (recast refl refl refl (sym p) refl (below (turned g₁) s.second))
        s.joint
        (omega (arith, q, s.steps))

    pub unstack : (u₁ : Positive) {u₂ v n d : Positive} {k : ℕ} → Grid f (u₁ ++ u₂) v n d k → Stack f u₁ u₂ v n d k
    unstack u₁ g =
        let s = split u₁ (turned g) in
        record {
          mid = s.mid;
          d₁ = s.n₁;
          d₂ = s.n₂;
          k₁ = s.k₁;
          k₂ = s.k₂;
          first = turned s.first;
          second = turned s.second;
          joint = s.joint;
          steps = s.steps;
        }
