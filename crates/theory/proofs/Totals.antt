-- What the totals of a bed add up to, how far from 0 they are, and that an answer's bytes are read as the bed (specification 6.11).
-- From the laws of the bed (model/proofs/Beds.antt, Positions.antt) and `equal_beds`. Main names: `bed_laws`, `bed_meaning`.
use mathlib.Core.Path.{◌≡◌, refl, sym, ap, subst, ◌∙◌}
use mathlib.Core.List.{List, [], ◌∷◌}
use mathlib.Core.Bool.{true, cond}
use Prim.Native.Nat.{ℕ, zero, suc, ◌+◌, ◌-◌, ◌*◌, ◌/◌, ◌%◌, ◌≤◌, ◌<◌}
use native.Mathlib.Omega.{arith}
use lib.ListN.{length, take, drop, get_or, replicate, length-take}
use lib.Seq.{take_all, take_at, drop_at}
use lib.IntN.{ℤ, pos, negsuc, nat_abs, neg_ℤ, ◌+ℤ◌, ◌-ℤ◌, +ℤ_assoc, +ℤ_comm, +ℤ_idl, +ℤ_idr, neg_ℤ-+ℤ}
use borrow.Author.Tests.{lt-ltb, le-ltb}
use Rattle.model.specs.Word.{forward, back, Word, forwards, backs}
use Rattle.model.specs.Presentation.{Presentation}
use Rattle.model.specs.Enumeration.{concat_map, pairs}
use Rattle.model.specs.Range.{InRange, Lettered, ProgramInRange}
use Rattle.model.specs.Bed.{is_braid, Bed, Sound, Within, first_bed, position, increased, crossing, crossed, moved, laid, bed_after, sixteen_bits, total_bytes}
use Rattle.model.specs.Bed.{bed_bytes}
use Rattle.model.proofs.Positions.{position_inside}
use Rattle.model.proofs.Beds.{first_sound, moved_sound, laid_sound, bobbin_named, bobbins_differ}
use Rattle.model.specs.Plain.{most_letters}
use Rattle.theory.specs.Beds.{added, balance, BedHolds, BedLaws, signed, totals_in, bed_in, BedMeaning}
use Rattle.theory.proofs.Crossings.{swapped_sums}
use Rattle.theory.proofs.Beds.{equal_beds}

-- SUMS

increased_sum : (ts : List ℤ) (k : ℕ) (d : ℤ) → k < length ts → added (increased ts k d) ≡ added ts +ℤ d
increased_sum [] k d h = absurd (omega arith)
increased_sum (t ∷ ts) zero d h = swapped_sums t d (added ts)
increased_sum (t ∷ ts) (suc k) d h = ap (λ x. t +ℤ x) (increased_sum ts k d (omega arith)) ∙ sym (+ℤ_assoc t (added ts) d)

zeros_sum : (k : ℕ) → added (replicate k (pos 0)) ≡ pos 0
zeros_sum zero = refl
zeros_sum (suc k) = +ℤ_idl (added (replicate k (pos 0))) ∙ zeros_sum k

-- the two bobbins that cross have a total
crossing_inside : (m c : ℕ) (B : Bed) → Sound m c B → (i : ℕ) → suc i < m → crossing B.bobbins i < length B.totals
crossing_inside m c B s i h =
    let x = get_or B.bobbins i 0 in
    let y = get_or B.bobbins (suc i) 0 in
    let p : position x y (pairs m) < length (pairs m) =
    position_inside m x y (bobbin_named m c B s i (omega arith)) (bobbin_named m c B s (suc i) h) (bobbins_differ m c B s i (suc i) (omega arith) h) in
    let q : crossing B.bobbins i ≡ position x y (pairs m) = ap (λ n. position x y (pairs n)) s.places in
    omega (arith, s.many)

crossed_sum : (m c : ℕ) (B : Bed) → Sound m c B → (a : ℕ) (d : ℤ) → InRange (m - 1) a → added (crossed (a - 1) d B).totals ≡ added B.totals +ℤ d
crossed_sum m c B s a d r =
    increased_sum B.totals (crossing B.bobbins (a - 1)) d (crossing_inside m c B s (a - 1) (omega (arith, r.low, r.high)))

forward_first : (a : ℕ) (w : Word) → pos 1 +ℤ balance w ≡ balance (forward a ∷ w)
forward_first a w =
    sym (+ℤ_assoc (pos 1) (pos (length (forwards w))) (neg_ℤ (pos (length (backs w)))))
    ∙ ap (λ n. pos n -ℤ pos (length (backs w))) {x = 1 + length (forwards w)} {y = suc (length (forwards w))} (omega arith)

back_first : (a : ℕ) (w : Word) → negsuc 0 +ℤ balance w ≡ balance (back a ∷ w)
back_first a w =
    sym (+ℤ_assoc (negsuc 0) (pos (length (forwards w))) (neg_ℤ (pos (length (backs w)))))
    ∙ (ap (λ x. x +ℤ neg_ℤ (pos (length (backs w)))) (+ℤ_comm (negsuc 0) (pos (length (forwards w))))
    ∙ (+ℤ_assoc (pos (length (forwards w))) (negsuc 0) (neg_ℤ (pos (length (backs w))))
    ∙ ap (λ x. pos (length (forwards w)) +ℤ x)
    (sym (neg_ℤ-+ℤ (pos 1) (pos (length (backs w)))) ∙ ap (λ n. neg_ℤ (pos n)) {x = 1 + length (backs w)} {y = suc (length (backs w))} (omega arith))))

laid_sum : (m c : ℕ) (w : Word) (B : Bed) → Lettered (m - 1) w → Sound m c B → added (laid w B).totals ≡ added B.totals +ℤ balance w
laid_sum m c [] B l s = sym (+ℤ_idr (added B.totals))
laid_sum m c (forward a ∷ w) B l s =
    laid_sum m (suc c) w (moved (forward a) B) l.1 (moved_sound m c (forward a) B s)
    ∙ (ap (λ x. x +ℤ balance w) (crossed_sum m c B s a (pos 1) l.0)
    ∙ (+ℤ_assoc (added B.totals) (pos 1) (balance w) ∙ ap (λ x. added B.totals +ℤ x) (forward_first a w)))
laid_sum m c (back a ∷ w) B l s =
    laid_sum m (suc c) w (moved (back a) B) l.1 (moved_sound m c (back a) B s)
    ∙ (ap (λ x. x +ℤ balance w) (crossed_sum m c B s a (negsuc 0) l.0)
    ∙ (+ℤ_assoc (added B.totals) (negsuc 0) (balance w) ∙ ap (λ x. added B.totals +ℤ x) (back_first a w)))

lettered_take : (n k : ℕ) (w : Word) → Lettered n w → Lettered n (take k w)
lettered_take n zero w l = tt
lettered_take n (suc k) [] l = tt
lettered_take n (suc k) (x ∷ w) l = (l.0, lettered_take n k w l.1)

pub bed_laws : BedLaws
bed_laws n w r k =
    let s = laid_sound (suc n) 0 (take k w) (first_bed n) (first_sound n) in
    record {
      order = s.order;
      sum =
          laid_sum (suc n) 0 (take k w) (first_bed n)
          (subst (λ m. Lettered m (take k w)) {x = n} {y = suc n - 1} (omega arith) (lettered_take n k w r.letters)) (first_sound n)
          ∙ (ap (λ x. x +ℤ balance (take k w)) (zeros_sum (length (pairs (suc n)))) ∙ +ℤ_idl (balance (take k w)));
      within = λ i. omega (arith, s.within i, length-take k w, r.short);
    }

-- BYTES READ BACK

signed_back : (t : ℤ) → nat_abs t ≤ most_letters → signed (256 * (sixteen_bits t / 256) + sixteen_bits t % 256) ≡ t
signed_back t h = ap signed {x = 256 * (sixteen_bits t / 256) + sixteen_bits t % 256} {y = sixteen_bits t} (omega arith) ∙ go t h
  where
    go : (t : ℤ) → nat_abs t ≤ most_letters → signed (sixteen_bits t) ≡ t
    go (pos k) h = ap (λ b. cond b (pos k) (negsuc (65535 - k))) (lt-ltb k 32768 (omega arith))
    go (negsuc k) h =
        ap (λ b. cond b (pos (65535 - k)) (negsuc (65535 - (65535 - k)))) (le-ltb (65535 - k) 32768 (omega arith))
        ∙ ap negsuc {x = 65535 - (65535 - k)} {y = k} (omega arith)

totals_back : (ts : List ℤ) → Within most_letters ts → totals_in (concat_map total_bytes ts) ≡ ts
totals_back [] h = refl
totals_back (t ∷ ts) h =
    ap (λ x. x ∷ totals_in (concat_map total_bytes ts)) (signed_back t (h 0)) ∙ ap (λ l. t ∷ l) (totals_back ts (λ k. h (suc k)))

bed_back : (places : ℕ) (B : Bed) → length B.bobbins ≡ places → Within most_letters B.totals → bed_in places (bed_bytes B) ≡ B
bed_back places B n h =
    ap (λ b. record { bobbins = b; totals = totals_in (drop places (bed_bytes B)) }) (take_at B.bobbins (concat_map total_bytes B.totals) places n)
    ∙ ap (λ t. record { bobbins = B.bobbins; totals = t })
    (ap totals_in (drop_at B.bobbins (concat_map total_bytes B.totals) places n) ∙ totals_back B.totals h)

-- THE MEANING OF AN ANSWER

module _ (T : Presentation) (braid : is_braid T ≡ true) (w : Word) (r : ProgramInRange T.size w) (moves : ℕ) where
  at_end : length w ≤ moves → bed_bytes (bed_after T.size moves w) ≡ bed_bytes (laid w (first_bed T.size))
  at_end h = ap (λ u. bed_bytes (laid u (first_bed T.size))) (take_all moves w h)

  pub bed_meaning : BedMeaning T w moves (bed_bytes (bed_after T.size moves w))
  bed_meaning =
      let laws = bed_laws T.size w r moves in
      let s = laid_sound (suc T.size) 0 (take moves w) (first_bed T.size) (first_sound T.size) in
      let same : bed_in (suc T.size) (bed_bytes (bed_after T.size moves w)) ≡ bed_after T.size moves w =
      bed_back (suc T.size) (bed_after T.size moves w) s.places laws.within in
      let equal = equal_beds T braid in
      let first = (first_sound T.size).places in
      record {
        reads = same;
        holds = subst (BedHolds T.size (take moves w)) (sym same) laws;
        joined = λ h u v e j. at_end h ∙ (ap (λ x. bed_bytes (laid x (first_bed T.size))) e ∙ ap bed_bytes (equal.joined u v j (first_bed T.size) first));
        finished = λ h n d k f. at_end h ∙ ap bed_bytes (equal.finished w n d k f (first_bed T.size) first);
        equal_beds = equal;
        every_place = bed_laws;
      }
