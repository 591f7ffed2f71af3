-- Equivalence of positive words under the relations a C(a,b) = b C(b,a), with how many of its steps are on two different letters.
-- It is a congruence ([D1] section 1), and keeps a weight of letters where relations do: the norm that [D1] Lemma 1.4 asks for.
use mathlib.Core.Path.{◌≡◌, refl, sym, ap, ◌∙◌}
use mathlib.Core.List.{[], ◌∷◌, ◌++◌, append_assoc}
use Prim.Native.Nat.{ℕ, ◌+◌, ◌≤◌, ◌<◌}
use native.Mathlib.Omega.{arith}
use native.Mathlib.Numerals.{add-one}
use lib.ListN.{length, take, get_or}
use lib.Seq.{take-suc}
use Rattle.model.specs.Word.{Positive}
use Rattle.model.specs.Presentation.{Complement, complement, swapped, total}
use Rattle.model.specs.Reversing.{count}
use Rattle.model.proofs.Count.{count_add}

-- one relation step, anywhere in a word
pub record Swap (f : ℕ → ℕ → Complement) (u v : Positive) : Type 0 where
  pub before : Positive
  pub after : Positive
  pub a : ℕ
  pub b : ℕ
  pub x : Positive
  pub y : Positive
  pub rule : f a b ≡ complement x y
  pub left : u ≡ before ++ (a ∷ x ++ after)
  pub right : v ≡ before ++ (b ∷ y ++ after)

pub data Equiv (f : ℕ → ℕ → Complement) : Positive → Positive → Type 0 where
  done : {u : Positive} → Equiv f u u
  step : {u w v : Positive} → Swap f u w → Equiv f w v → Equiv f u v

module _ {f : ℕ → ℕ → Complement} where
  pub trans : {u v w : Positive} → Equiv f u v → Equiv f v w → Equiv f u w
  trans done q = q
  trans (step s p) q = step s (trans p q)

  pub one : {u v : Positive} → Swap f u v → Equiv f u v
  one s = step s done

  pub by_eq : {u v : Positive} → u ≡ v → Equiv f u v
  by_eq e = rw e done

  prefix_swap : (p : Positive) {u v : Positive} → Swap f u v → Swap f (p ++ u) (p ++ v)
  prefix_swap p s =
      record {
        before = p ++ s.before;
        after = s.after;
        a = s.a;
        b = s.b;
        x = s.x;
        y = s.y;
        rule = s.rule;
        left = ap (λ w. p ++ w) s.left ∙ sym (append_assoc p s.before _);
        right = ap (λ w. p ++ w) s.right ∙ sym (append_assoc p s.before _);
      }

  pub prefix : (p : Positive) {u v : Positive} → Equiv f u v → Equiv f (p ++ u) (p ++ v)
  prefix p done = done
  prefix p (step s e) = step (prefix_swap p s) (prefix p e)

  suffix_swap : (t : Positive) {u v : Positive} → Swap f u v → Swap f (u ++ t) (v ++ t)
  suffix_swap t s =
      record {
        before = s.before;
        after = s.after ++ t;
        a = s.a;
        b = s.b;
        x = s.x;
        y = s.y;
        rule = s.rule;
        left = ap (λ w. w ++ t) s.left ∙ simp append_assoc;
        right = ap (λ w. w ++ t) s.right ∙ simp append_assoc;
      }

  pub suffix : (t : Positive) {u v : Positive} → Equiv f u v → Equiv f (u ++ t) (v ++ t)
  suffix t done = done
  suffix t (step s e) = step (suffix_swap t s) (suffix t e)

  module _ (turn : (a b : ℕ) → f b a ≡ swapped (f a b)) where
    turned_swap : {u v : Positive} → Swap f u v → Swap f v u
    turned_swap s =
        record {
          before = s.before;
          after = s.after;
          a = s.b;
          b = s.a;
          x = s.y;
          y = s.x;
          rule = turn s.a s.b ∙ ap swapped s.rule;
          left = s.right;
          right = s.left;
        }

    pub symm : {u v : Positive} → Equiv f u v → Equiv f v u
    symm done = done
    symm (step s e) = trans (symm e) (one (turned_swap s))

-- COUNTED

-- the steps on two different letters; one on a and a changes nothing
abbrev pub swaps : {f : ℕ → ℕ → Complement} {u v : Positive} → Equiv f u v → ℕ
swaps done = 0
swaps (step s e) = count s.a s.b (swaps e)

pub record Derives (f : ℕ → ℕ → Complement) (u v : Positive) (r : ℕ) : Type 0 where
  pub path : Equiv f u v
  pub many : swaps path ≡ r

module _ {f : ℕ → ℕ → Complement} where
  swaps_trans : {u v w : Positive} (p : Equiv f u v) (q : Equiv f v w) → swaps (trans p q) ≡ swaps p + swaps q
  unfolding trans
  swaps_trans done q = omega arith
  swaps_trans (step s p) q = ap (count s.a s.b) (swaps_trans p q) ∙ count_add s.a s.b (swaps p) (swaps q)

  swaps_prefix : (p : Positive) {u v : Positive} (e : Equiv f u v) → swaps (prefix p e) ≡ swaps e
  unfolding prefix prefix_swap
  swaps_prefix p done = refl
  swaps_prefix p (step s e) = ap (count s.a s.b) (swaps_prefix p e)

  swaps_suffix : (t : Positive) {u v : Positive} (e : Equiv f u v) → swaps (suffix t e) ≡ swaps e
  unfolding suffix suffix_swap
  swaps_suffix t done = refl
  swaps_suffix t (step s e) = ap (count s.a s.b) (swaps_suffix t e)

  pub derives_swap : {u v : Positive} (s : Swap f u v) → Derives f u v (count s.a s.b 0)
  derives_swap s = record { path = step s done; many = refl }

  pub derives_then : {u v w : Positive} {r t : ℕ} → Derives f u v r → Derives f v w t → Derives f u w (r + t)
  derives_then p q = record { path = trans p.path q.path; many = swaps_trans p.path q.path ∙ omega (arith, p.many, q.many) }

  pub derives_prefix : (p : Positive) {u v : Positive} {r : ℕ} → Derives f u v r → Derives f (p ++ u) (p ++ v) r
  derives_prefix p d = record { path = prefix p d.path; many = swaps_prefix p d.path ∙ d.many }

  pub derives_suffix : (t : Positive) {u v : Positive} {r : ℕ} → Derives f u v r → Derives f (u ++ t) (v ++ t) r
  derives_suffix t d = record { path = suffix t d.path; many = swaps_suffix t d.path ∙ d.many }

  pub derives_same : {u v : Positive} → u ≡ v → Derives f u v 0
  derives_same e = rw e (record { path = done; many = refl })

-- WEIGHT

-- where no letter weighs less than 1, a word has no more letters than it weighs
pub length_total : (weight : ℕ → ℕ) → ((a : ℕ) → 1 ≤ weight a) → (u : Positive) → length u ≤ total weight u
length_total weight weighs [] = omega arith
length_total weight weighs (a ∷ u) = omega (arith, weighs a, length_total weight weighs u)

pub total_append : (weight : ℕ → ℕ) (u v : Positive) → total weight (u ++ v) ≡ total weight u + total weight v
total_append weight [] v = omega arith
total_append weight (a ∷ u) v = omega (arith, total_append weight u v)

-- one letter more
pub total_more : (weight : ℕ → ℕ) (u : Positive) (k : ℕ) → k < length u → total weight (take (k + 1) u) ≡ total weight (take k u) + weight (get_or u k 0)
total_more weight u k h =
    let taken : take (k + 1) u ≡ take k u ++ (get_or u k 0 ∷ []) = ap (λ i. take i u) (add-one k) ∙ take-suc u k 0 h in
    omega (arith, ap (total weight) taken, total_append weight (take k u) (get_or u k 0 ∷ []))

-- both sides of every relation weigh the same
abbrev pub Homogeneous : (ℕ → ℕ) → (ℕ → ℕ → Complement) → Type 0
Homogeneous weight f = (a b : ℕ) (x y : Positive) → f a b ≡ complement x y → weight a + total weight x ≡ weight b + total weight y

module _ (weight : ℕ → ℕ) {f : ℕ → ℕ → Complement} (even : Homogeneous weight f) where
  swap_weight : {u v : Positive} → Swap f u v → total weight u ≡ total weight v
  swap_weight s =
      let p : total weight (s.before ++ (s.a ∷ s.x ++ s.after)) ≡ total weight (s.before ++ (s.b ∷ s.y ++ s.after)) =
      simp total_append (omega (arith, even s.a s.b s.x s.y s.rule)) in
      ap (total weight) s.left ∙ (p ∙ sym (ap (total weight) s.right))

  pub weight_kept : {u v : Positive} → Equiv f u v → total weight u ≡ total weight v
  weight_kept done = refl
  weight_kept (step s e) = swap_weight s ∙ weight_kept e
