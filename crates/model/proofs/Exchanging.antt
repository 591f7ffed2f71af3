-- The first bytes of an area are exchanged from both ends: what holds between the exchanges, and at the end, of the byte at each place and the one that
-- stood at the opposite place.
use mathlib.Core.Path.{◌≡◌, refl, sym, ap, subst, ◌∙◌}
use mathlib.Core.List.{List}
use Prim.Native.Nat.{ℕ, ◌+◌, ◌-◌, ◌≤◌, ◌<◌}
use native.Mathlib.Omega.{arith}
use native.Mathlib.Decide.{ℕ_discrete, dec_lt}
use lib.ListN.{length, drop, get_or, set, length-set}
use lib.Seq.{get_or-set_same, get_or-set_other, drop-set-lt}

-- `Becomes x y` says that the byte x is put where y's opposite place is
module _ (Becomes : ℕ → ℕ → Type 0) where
  -- the bytes outside low .. high are exchanged, those inside as they were
  pub record Exchanging (before : List ℕ) (count : ℕ) (bytes : List ℕ) (low high : ℕ) : Type 0 where
    pub same_length : length bytes ≡ length before
    pub meet : low + high ≡ count
    pub below : (k : ℕ) → k < low → Becomes (get_or bytes k 0) (get_or before (count - 1 - k) 0)
    pub above : (k : ℕ) → high ≤ k → k < count → Becomes (get_or bytes k 0) (get_or before (count - 1 - k) 0)
    pub between : (k : ℕ) → low ≤ k → k < high → get_or bytes k 0 ≡ get_or before k 0
    pub rest : drop count bytes ≡ drop count before

  pub exchanging_start : (before : List ℕ) (count : ℕ) → Exchanging before count before 0 count
  exchanging_start before count =
      record {
        same_length = refl;
        meet = omega arith;
        below = λ k h. absurd (omega arith);
        above = λ k h i. absurd (omega arith);
        between = λ k h i. refl;
        rest = refl;
      }

  module _ (before : List ℕ) (count : ℕ) (inside : count ≤ length before) (bytes : List ℕ) (low high : ℕ) (p : Exchanging before count bytes low high) where
    -- one exchange: `first` comes of the byte at `low`, `last` of the one at `high` - 1
    module _ (more : low < high) (first last : ℕ) (ef : Becomes first (get_or bytes low 0)) (el : Becomes last (get_or bytes (high - 1) 0)) where
      abbrev stored : List ℕ
      stored = set bytes (high - 1) first

      abbrev after : List ℕ
      after = set stored low last

      at_low : Becomes (get_or after low 0) (get_or before (count - 1 - low) 0)
      at_low =
          let e : high - 1 ≡ count - 1 - low = omega (arith, p.meet) in
          subst (λ x. Becomes x (get_or before (count - 1 - low) 0))
          (sym (get_or-set_same stored low last 0 (simp length-set (omega (arith, p.same_length, p.meet)))))
          (subst (Becomes last) (p.between (high - 1) (omega arith) (omega arith) ∙ ap (λ i. get_or before i 0) e) el)

      untouched : (k : ℕ) → (k ≡ low → ⊥) → (k ≡ high - 1 → ⊥) → get_or after k 0 ≡ get_or bytes k 0
      untouched k u v = get_or-set_other stored low k last 0 u ∙ get_or-set_other bytes (high - 1) k first 0 v

      at_high : (high - 1 ≡ low → ⊥) → Becomes (get_or after (high - 1) 0) (get_or before (count - 1 - (high - 1)) 0)
      at_high u =
          let e : low ≡ count - 1 - (high - 1) = omega (arith, p.meet) in
          subst (λ x. Becomes x (get_or before (count - 1 - (high - 1)) 0))
          (sym (get_or-set_other stored low (high - 1) last 0 u ∙ get_or-set_same bytes (high - 1) first 0 (omega (arith, p.same_length, p.meet))))
          (subst (Becomes first) (p.between low (omega arith) more ∙ ap (λ i. get_or before i 0) e) ef)

      below_next : (k : ℕ) → k < low + 1 → Becomes (get_or after k 0) (get_or before (count - 1 - k) 0)
      below_next k h = go (ℕ_discrete k low)
        where
          go : Dec (k ≡ low) → Becomes (get_or after k 0) (get_or before (count - 1 - k) 0)
          go (yes e) = subst (λ i. Becomes (get_or after i 0) (get_or before (count - 1 - i) 0)) (sym e) at_low
          go (no e) =
              subst (λ x. Becomes x (get_or before (count - 1 - k) 0)) (sym (untouched k e (λ f. omega arith))) (p.below k (omega arith))

      above_next : (k : ℕ) → high - 1 ≤ k → k < count → Becomes (get_or after k 0) (get_or before (count - 1 - k) 0)
      above_next k h i = go (ℕ_discrete k low) (ℕ_discrete k (high - 1))
        where
          go : Dec (k ≡ low) → Dec (k ≡ high - 1) → Becomes (get_or after k 0) (get_or before (count - 1 - k) 0)
          go (yes e) f = below_next k (omega arith)
          go (no e) (yes f) = subst (λ j. Becomes (get_or after j 0) (get_or before (count - 1 - j) 0)) (sym f) (at_high (λ g. e (f ∙ g)))
          go (no e) (no f) = subst (λ x. Becomes x (get_or before (count - 1 - k) 0)) (sym (untouched k e f)) (p.above k (omega arith) i)

      pub exchanging_turn : Exchanging before count after (low + 1) (high - 1)
      exchanging_turn =
          record {
            same_length = simp length-set p.same_length;
            meet = omega (arith, p.meet);
            below = below_next;
            above = above_next;
            between = λ k h i. untouched k (λ e. omega arith) (λ e. omega arith) ∙ p.between k (omega arith) (omega arith);
            rest =
                drop-set-lt count stored low last (omega (arith, p.meet))
                ∙ (drop-set-lt count bytes (high - 1) first (omega (arith, p.meet)) ∙ p.rest);
          }

    -- where low and high have met every byte is exchanged
    pub exchanged : high ≤ low → (k : ℕ) → k < count → Becomes (get_or bytes k 0) (get_or before (count - 1 - k) 0)
    exchanged met k h = go (dec_lt k low)
      where
        go : Dec (k < low) → Becomes (get_or bytes k 0) (get_or before (count - 1 - k) 0)
        go (yes i) = p.below k i
        go (no i) = p.above k (omega arith) h
