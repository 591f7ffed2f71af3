-- One crossing: what the struct's bobbins and totals come to, and that a total of 16 bits holds it.
use mathlib.Core.Path.{◌≡◌, refl, sym, ap, ◌∙◌}
use mathlib.Core.Logic.{◌≢◌}
use mathlib.Core.List.{List, [], ◌∷◌}
use Prim.Native.Nat.{ℕ, ◌+◌, zero, suc, ◌-◌, ◌≤◌, ◌<◌}
use native.Mathlib.Omega.{arith}
use lib.ListN.{length, take, get_or, set, length-set}
use lib.Seq.{get_or-take, take-set-lt}
use lib.IntN.{ℤ, pos, negsuc, nat_abs, ◌+ℤ◌}
use lib.Signed.{mag}
use mir.Syntax.{w16}
use mir.Val.{SFits, to_z, of_z}
use mir.ValLaws.{to_z-of_z}
use Rattle.model.specs.Range.{InRange}
use Rattle.model.specs.Enumeration.{pairs}
use Rattle.model.specs.Bed.{Bed, exchanged, position, crossing, crossed}
use Rattle.model.proofs.Beds.{exchanged_length, sum_within, bobbin_named, bobbins_differ}
use Rattle.model.proofs.Positions.{position_inside}
use Rattle.model.specs.Plain.{most_letters}
use Rattle.bed.specs.declared.moves.Bed.{Bed as BedStruct}
use Rattle.bed.specs.Shown.{Shows, Shown}

-- TOTALS OF 16 BITS

mag_within : (z : ℤ) → mag z ≤ nat_abs z
mag_within (pos a) = omega arith
mag_within (negsuc a) = omega arith

small : (z : ℤ) → nat_abs z ≤ most_letters + 1 → SFits w16 z
small z h = record { sfits = omega (arith, mag_within z) }

module _ (x d : ℤ) (few : nat_abs x ≤ most_letters) (one : nat_abs d ≤ 1) where
  as_read : to_z w16 (of_z w16 x) +ℤ to_z w16 (of_z w16 d) ≡ x +ℤ d
  as_read = ap (λ z. z +ℤ to_z w16 (of_z w16 d)) (to_z-of_z w16 x (small x (omega arith))) ∙ ap (λ z. x +ℤ z) (to_z-of_z w16 d (small d (omega arith)))

  sum_small : SFits w16 (x +ℤ d)
  sum_small = small (x +ℤ d) (omega (arith, sum_within x d))

  pub sum_fits : SFits w16 (to_z w16 (of_z w16 x) +ℤ to_z w16 (of_z w16 d))
  sum_fits = rw as_read sum_small

  pub sum_stored : to_z w16 (of_z w16 (to_z w16 (of_z w16 x) +ℤ to_z w16 (of_z w16 d))) ≡ x +ℤ d
  sum_stored = ap (λ z. to_z w16 (of_z w16 z)) as_read ∙ to_z-of_z w16 (x +ℤ d) sum_small

-- TWO STORES EXCHANGE TWO BOBBINS

exchanged_sets : (bs : List ℕ) (j : ℕ) → suc j < length bs → set (set bs j (get_or bs (suc j) 0)) (suc j) (get_or bs j 0) ≡ exchanged bs j
exchanged_sets [] j h = absurd (omega arith)
exchanged_sets (x ∷ []) zero h = absurd (omega arith)
exchanged_sets (x ∷ y ∷ bs) zero h = refl
exchanged_sets (x ∷ []) (suc j) h = absurd (omega arith)
exchanged_sets (x ∷ y ∷ bs) (suc j) h = ap (λ l. x ∷ l) (exchanged_sets (y ∷ bs) j (omega arith))

module _ (v : BedStruct) (B : Bed) (h : Shown v B) where
  pub bobbin_at : (j : ℕ) → j < v.places → get_or v.bobbins j 0 ≡ get_or B.bobbins j 0
  bobbin_at j l =
      sym (get_or-take (length B.bobbins) v.bobbins j 0 (omega (arith, h.sound.places))) ∙ ap (λ l. get_or l j 0) h.shows.bobbins

  pub bobbin_in : (j : ℕ) → j < v.places → InRange v.places (get_or v.bobbins j 0)
  bobbin_in j l = rw (bobbin_at j l) (bobbin_named v.places h.c B h.sound j l)

  pub bobbins_two : (j k : ℕ) → j < k → k < v.places → get_or v.bobbins j 0 ≢ get_or v.bobbins k 0
  bobbins_two j k l m e = bobbins_differ v.places h.c B h.sound j k l m (sym (bobbin_at j (omega arith)) ∙ (e ∙ bobbin_at k m))

  total_at : (k : ℕ) → k < length B.totals → get_or v.totals k (pos 0) ≡ get_or B.totals k (pos 0)
  total_at k l =
      sym (get_or-take (length B.totals) v.totals k (pos 0) l) ∙ ap (λ l. get_or l k (pos 0)) h.shows.totals

  pub total_within : (k : ℕ) → k < length B.totals → nat_abs (get_or v.totals k (pos 0)) ≤ most_letters
  total_within k l = rw (total_at k l) (omega (arith, h.sound.within k, h.few))

  -- the first bobbins after two stores
  bobbins_stored : (i : ℕ) → 1 ≤ i → i < v.places
      → take (length B.bobbins) (set (set v.bobbins (i - 1) (get_or v.bobbins i 0)) i (get_or v.bobbins (i - 1) 0)) ≡ exchanged B.bobbins (i - 1)
  bobbins_stored i low high =
      let n = length B.bobbins in
      let j = i - 1 in
      take-set-lt n (set v.bobbins j (get_or v.bobbins i 0)) i (get_or v.bobbins j 0) (omega (arith, h.sound.places))
      ∙ (ap (λ l. set l i (get_or v.bobbins j 0)) (take-set-lt n v.bobbins j (get_or v.bobbins i 0) (omega (arith, h.sound.places)))
      ∙ (ap (λ l. set (set l j (get_or v.bobbins i 0)) i (get_or v.bobbins j 0)) h.shows.bobbins
      ∙ (ap (λ y. set (set B.bobbins j y) i (get_or v.bobbins j 0)) (bobbin_at i high)
      ∙ (ap (λ x. set (set B.bobbins j (get_or B.bobbins i 0)) i x) (bobbin_at j (omega arith))
      ∙ (ap (λ k. set (set B.bobbins j (get_or B.bobbins k 0)) k (get_or B.bobbins j 0)) {x = i} {y = suc (i - 1)} (omega arith)
      ∙ exchanged_sets B.bobbins j (omega (arith, h.sound.places)))))))

  -- the struct after a crossing
  module _ (i at : ℕ) (low : 1 ≤ i) (high : i < v.places) (at_is : at ≡ position (get_or v.bobbins (i - 1) 0) (get_or v.bobbins i 0) (pairs v.places)) where
    pub crossing_at : at ≡ crossing B.bobbins (i - 1)
    crossing_at =
        at_is
        ∙ (ap (λ x. position x (get_or v.bobbins i 0) (pairs v.places)) (bobbin_at (i - 1) (omega arith))
        ∙ (ap (λ y. position (get_or B.bobbins (i - 1) 0) y (pairs v.places)) (bobbin_at i high)
        ∙ (ap (λ k. position (get_or B.bobbins (i - 1) 0) (get_or B.bobbins k 0) (pairs v.places)) {x = i} {y = suc (i - 1)} (omega arith)
        ∙ ap (λ m. position (get_or B.bobbins (i - 1) 0) (get_or B.bobbins (suc (i - 1)) 0) (pairs m)) (sym h.sound.places))))

    pub total_inside : at < length B.totals
    total_inside =
        omega (
          arith,
          at_is,
          h.sound.many,
          position_inside v.places (get_or v.bobbins (i - 1) 0) (get_or v.bobbins i 0) (bobbin_in (i - 1) (omega arith)) (bobbin_in i high)
              (bobbins_two (i - 1) i (omega arith) high),
        )

    pub crossed_shows : (bs : List ℕ) → bs ≡ set (set v.bobbins (i - 1) (get_or v.bobbins i 0)) i (get_or v.bobbins (i - 1) 0)
        → (t d : ℤ) → t ≡ get_or v.totals at (pos 0) +ℤ d
        → Shows (record { places = v.places; bobbins = bs; totals = set v.totals at t }) (crossed (i - 1) d B)
    crossed_shows bs swapped t d e =
        record {
          places = h.shows.places ∙ sym (exchanged_length B.bobbins (i - 1));
          bobbins = ap (λ n. take n bs) (exchanged_length B.bobbins (i - 1)) ∙ (ap (take (length B.bobbins)) swapped ∙ bobbins_stored i low high);
          totals =
              ap (λ n. take n (set v.totals at t)) (length-set B.totals (crossing B.bobbins (i - 1)) _)
              ∙ (take-set-lt (length B.totals) v.totals at t total_inside
              ∙ (ap (λ l. set l at t) h.shows.totals
              ∙ (ap (set B.totals at) (e ∙ ap (λ x. x +ℤ d) (total_at at total_inside))
              ∙ ap (λ k. set B.totals k (get_or B.totals k (pos 0) +ℤ d)) crossing_at)));
        }
