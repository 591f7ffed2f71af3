-- Laws of the bed (specification 6.11): moves keep the number of places, the bobbins in some order, and totals within the number of moves.
use mathlib.Core.Path.{◌≡◌, refl, sym, ap, subst, ◌∙◌}
use mathlib.Core.Logic.{◌≢◌}
use mathlib.Core.List.{List, [], ◌∷◌, ◌++◌}
use mathlib.Core.Bool.{Bool, true, false, cond}
use Prim.Native.Nat.{ℕ, zero, suc, ◌+◌, ◌-◌, ◌≤◌, ◌<◌}
use native.Mathlib.Omega.{arith}
use native.Mathlib.Decide.{ℕ_discrete}
use lib.Dec.{eqb, ltb}
use lib.ListN.{length, get_or, replicate, length-set, length-replicate}
use lib.IntN.{ℤ, pos, negsuc, nat_abs, sub_ℕ, ◌+ℤ◌}
use borrow.Author.Tests.{eq-eqb, ne_eqb, ltb-true}
use Rattle.model.specs.Word.{Letter, forward, back, Word}
use Rattle.model.specs.Range.{InRange}
use Rattle.model.specs.Enumeration.{range, pairs}
use Rattle.model.specs.Bed.{Bed, first_bed, exchanged, increased, crossing, crossed, moved, laid, occurrences, Rearranged, Within, Sound}

-- one word after another
pub laid_append : (u w : Word) (B : Bed) → laid (u ++ w) B ≡ laid w (laid u B)
laid_append [] w B = refl
laid_append (x ∷ u) w B = laid_append u w (moved x B)

-- LENGTHS

pub exchanged_length : (bs : List ℕ) (i : ℕ) → length (exchanged bs i) ≡ length bs
exchanged_length [] i = refl
exchanged_length (x ∷ []) zero = refl
exchanged_length (x ∷ y ∷ bs) zero = refl
exchanged_length (x ∷ bs) (suc i) = ap suc (exchanged_length bs i)

pub range_length : (from k : ℕ) → length (range from k) ≡ k
range_length from zero = refl
range_length from (suc k) = ap suc (range_length (suc from) k)

-- BOBBINS IN SOME ORDER

counted_turned : (s t : Bool) (k : ℕ) → cond t (suc (cond s (suc k) k)) (cond s (suc k) k) ≡ cond s (suc (cond t (suc k) k)) (cond t (suc k) k)
counted_turned true true k = refl
counted_turned true false k = refl
counted_turned false true k = refl
counted_turned false false k = refl

exchanged_rearranged : (bs : List ℕ) (i : ℕ) → Rearranged (exchanged bs i) bs
exchanged_rearranged [] i p = refl
exchanged_rearranged (x ∷ []) zero p = refl
exchanged_rearranged (x ∷ y ∷ bs) zero p = counted_turned (eqb x p) (eqb y p) (occurrences p bs)
exchanged_rearranged (x ∷ bs) (suc i) p = ap (λ k. cond (eqb x p) (suc k) k) (exchanged_rearranged bs i p)

-- TOTALS

sub_within : (a b : ℕ) → nat_abs (sub_ℕ a b) ≤ a + b
sub_within a b = go (ltb a b) refl
  where
    go : (t : Bool) → ltb a b ≡ t → nat_abs (cond t (negsuc (b - suc a)) (pos (a - b))) ≤ a + b
    go true e = omega (arith, ltb-true a b e)
    go false e = omega arith

pub sum_within : (s t : ℤ) → nat_abs (s +ℤ t) ≤ nat_abs s + nat_abs t
sum_within (pos a) (pos b) = omega arith
sum_within (pos a) (negsuc b) = sub_within a (suc b)
sum_within (negsuc a) (pos b) = omega (arith, sub_within b (suc a))
sum_within (negsuc a) (negsuc b) = omega arith

increased_within : (ts : List ℤ) (k : ℕ) (d : ℤ) (c : ℕ) → nat_abs d ≤ 1 → Within c ts → Within (suc c) (increased ts k d)
increased_within [] k d c one h i = omega arith
increased_within (t ∷ ts) zero d c one h zero = omega (arith, sum_within t d, h 0)
increased_within (t ∷ ts) zero d c one h (suc i) = omega (arith, h (suc i))
increased_within (t ∷ ts) (suc k) d c one h zero = omega (arith, h 0)
increased_within (t ∷ ts) (suc k) d c one h (suc i) = increased_within ts k d c one (λ i. h (suc i)) i

zeros_within : (n : ℕ) → Within 0 (replicate n (pos 0))
zeros_within zero i = omega arith
zeros_within (suc n) zero = omega arith
zeros_within (suc n) (suc i) = zeros_within n i

-- A BED OF m BOBBINS AFTER c MOVES

pub first_sound : (n : ℕ) → Sound (suc n) 0 (first_bed n)
first_sound n =
    record {
      places = range_length 1 (suc n);
      many = length-replicate (length (pairs (suc n))) (pos 0);
      order = λ p. refl;
      within = zeros_within (length (pairs (suc n)));
    }

crossed_sound : (m c i : ℕ) (d : ℤ) (B : Bed) → nat_abs d ≤ 1 → Sound m c B → Sound m (suc c) (crossed i d B)
crossed_sound m c i d B one s =
    record {
      places = exchanged_length B.bobbins i ∙ s.places;
      many = length-set B.totals (crossing B.bobbins i) _ ∙ s.many;
      order = λ p. exchanged_rearranged B.bobbins i p ∙ s.order p;
      within = increased_within B.totals (crossing B.bobbins i) d c one s.within;
    }

pub moved_sound : (m c : ℕ) (x : Letter) (B : Bed) → Sound m c B → Sound m (suc c) (moved x B)
moved_sound m c (forward i) B s = crossed_sound m c (i - 1) (pos 1) B (omega arith) s
moved_sound m c (back i) B s = crossed_sound m c (i - 1) (negsuc 0) B (omega arith) s

pub laid_sound : (m c : ℕ) (w : Word) (B : Bed) → Sound m c B → Sound m (length w + c) (laid w B)
laid_sound m c [] B s = subst (λ k. Sound m k B) {x = c} {y = 0 + c} (omega arith) s
laid_sound m c (x ∷ w) B s =
    subst (λ k. Sound m k (laid w (moved x B))) {x = length w + suc c} {y = suc (length w) + c} (omega arith)
    (laid_sound m (suc c) w (moved x B) (moved_sound m c x B s))

-- WHAT STANDS AT A PLACE

counted : (t : Bool) (k : ℕ) → k ≤ cond t (suc k) k
counted true k = omega arith
counted false k = omega arith

-- one that stands in a list occurs in it
occurs : (p : ℕ) (xs : List ℕ) (i : ℕ) → i < length xs → get_or xs i 0 ≡ p → 1 ≤ occurrences p xs
occurs p [] i h e = absurd (omega arith)
occurs p (x ∷ xs) zero h e = rw (eq-eqb x p e) (omega arith)
occurs p (x ∷ xs) (suc i) h e = omega (arith, occurs p xs i (omega arith) e, counted (eqb x p) (occurrences p xs))

-- one that stands at two places occurs twice
occurs_twice : (p : ℕ) (xs : List ℕ) (i j : ℕ) → i < j → j < length xs → get_or xs i 0 ≡ p → get_or xs j 0 ≡ p → 2 ≤ occurrences p xs
occurs_twice p [] i j l h e f = absurd (omega arith)
occurs_twice p (x ∷ xs) i zero l h e f = absurd (omega arith)
occurs_twice p (x ∷ xs) zero (suc j) l h e f = rw (eq-eqb x p e) (omega (arith, occurs p xs j (omega arith) f))
occurs_twice p (x ∷ xs) (suc i) (suc j) l h e f =
    omega (arith, occurs_twice p xs i j (omega arith) (omega arith) e f, counted (eqb x p) (occurrences p xs))

range_below : (p from k : ℕ) → p < from → occurrences p (range from k) ≡ 0
range_below p from zero h = refl
range_below p from (suc k) h = rw (ne_eqb from p (omega arith)) (range_below p (suc from) k (omega arith))

range_has : (p from k : ℕ) → 1 ≤ occurrences p (range from k) → (from ≤ p) × (p < from + k)
range_has p from zero h = absurd (omega arith)
range_has p from (suc k) h = go (ℕ_discrete from p) (λ g. range_has p (suc from) k g)
  where
    go : Dec (from ≡ p) → (1 ≤ occurrences p (range (suc from) k) → (suc from ≤ p) × (p < suc from + k)) → (from ≤ p) × (p < from + suc k)
    go (yes e) rest = (omega arith, omega arith)
    go (no e) rest =
        let r = rest (rw (ne_eqb from p e) at h) in
        (omega (arith, r.0), omega (arith, r.1))

range_once : (p from k : ℕ) → occurrences p (range from k) ≤ 1
range_once p from zero = omega arith
range_once p from (suc k) = go (ℕ_discrete from p) (range_once p (suc from) k)
  where
    go : Dec (from ≡ p) → occurrences p (range (suc from) k) ≤ 1 → occurrences p (range from (suc k)) ≤ 1
    go (yes e) rest = rw (eq-eqb from p e, range_below p (suc from) k (omega arith)) (omega arith)
    go (no e) rest = rw (ne_eqb from p e) rest

module _ (m c : ℕ) (B : Bed) (s : Sound m c B) where
  -- a bobbin's number is one of 1 to m
  pub bobbin_named : (i : ℕ) → i < m → InRange m (get_or B.bobbins i 0)
  bobbin_named i h =
      let p = get_or B.bobbins i 0 in
      let r = range_has p 1 m (omega (arith, occurs p B.bobbins i (omega (arith, s.places)) refl, s.order p)) in
      record { low = r.0; high = omega (arith, r.1) }

  -- at two places stand two bobbins
  pub bobbins_differ : (i j : ℕ) → i < j → j < m → get_or B.bobbins i 0 ≢ get_or B.bobbins j 0
  bobbins_differ i j l h e =
      let p = get_or B.bobbins i 0 in
      omega (arith, occurs_twice p B.bobbins i j l (omega (arith, s.places)) refl (sym e), s.order p, range_once p 1 m)
