-- How crossings at places follow each other: one undoes its opposite, distant ones may be made in either order, and three at neighbouring
-- places meet the same pairs of bobbins whether they begin on the left or on the right (specification 6.11).
-- From the definitions alone. Main names: `crossed_back`, `crossed_far`, `crossed_three`.
use mathlib.Core.Path.{◌≡◌, refl, sym, ap, ◌∙◌}
use mathlib.Core.Logic.{◌≢◌}
use mathlib.Core.List.{List, [], ◌∷◌}
use Prim.Native.Nat.{ℕ, zero, suc, ◌<◌}
use native.Mathlib.Omega.{arith}
use lib.ListN.{length, get_or}
use lib.IntN.{ℤ, pos, ◌+ℤ◌, +ℤ_assoc, +ℤ_comm, +ℤ_idr}
use Rattle.model.specs.Enumeration.{Two, pairs}
use Rattle.model.specs.Bed.{Bed, exchanged, position, increased, crossing, crossed}
use Rattle.model.proofs.Positions.{position_turned}
use Rattle.model.proofs.Beds.{exchanged_length}

bed_same : (B C : Bed) → B.bobbins ≡ C.bobbins → B.totals ≡ C.totals → B ≡ C
bed_same B C p q =
    ap (λ b. record { bobbins = b; totals = B.totals }) p ∙ ap (λ t. record { bobbins = C.bobbins; totals = t }) q

-- TOTALS

pub swapped_sums : (t d e : ℤ) → t +ℤ d +ℤ e ≡ t +ℤ e +ℤ d
swapped_sums t d e = +ℤ_assoc t d e ∙ (ap (λ x. t +ℤ x) (+ℤ_comm d e) ∙ sym (+ℤ_assoc t e d))

-- two changes, in either order
increased_commute : (ts : List ℤ) (i j : ℕ) (d e : ℤ) → increased (increased ts i d) j e ≡ increased (increased ts j e) i d
increased_commute [] i j d e = refl
increased_commute (t ∷ ts) zero zero d e = ap (λ x. x ∷ ts) (swapped_sums t d e)
increased_commute (t ∷ ts) zero (suc j) d e = refl
increased_commute (t ∷ ts) (suc i) zero d e = refl
increased_commute (t ∷ ts) (suc i) (suc j) d e = ap (λ l. t ∷ l) (increased_commute ts i j d e)

increased_back : (ts : List ℤ) (i : ℕ) (d e : ℤ) → d +ℤ e ≡ pos 0 → increased (increased ts i d) i e ≡ ts
increased_back [] i d e h = refl
increased_back (t ∷ ts) zero d e h = ap (λ x. x ∷ ts) (+ℤ_assoc t d e ∙ (ap (λ x. t +ℤ x) h ∙ +ℤ_idr t))
increased_back (t ∷ ts) (suc i) d e h = ap (λ l. t ∷ l) (increased_back ts i d e h)

-- ONE CROSSING AND ITS OPPOSITE

exchanged_back : (bs : List ℕ) (i : ℕ) → exchanged (exchanged bs i) i ≡ bs
exchanged_back [] i = refl
exchanged_back (x ∷ []) zero = refl
exchanged_back (x ∷ y ∷ bs) zero = refl
exchanged_back (x ∷ bs) (suc i) = ap (λ l. x ∷ l) (exchanged_back bs i)

-- where the pair of the two bobbins after the first i stands in a list of pairs
abbrev meeting : List Two → List ℕ → ℕ → ℕ
meeting ps bs i = position (get_or bs i 0) (get_or bs (suc i) 0) ps

meeting_back : (ps : List Two) (bs : List ℕ) (i : ℕ) → meeting ps (exchanged bs i) i ≡ meeting ps bs i
meeting_back ps [] i = refl
meeting_back ps (x ∷ []) zero = refl
meeting_back ps (x ∷ y ∷ bs) zero = position_turned y x ps
meeting_back ps (x ∷ bs) (suc i) = meeting_back ps bs i

-- after another crossing the pairs are those of as many bobbins
crossing_after : (bs : List ℕ) (i j : ℕ) → crossing (exchanged bs i) j ≡ meeting (pairs (length bs)) (exchanged bs i) j
crossing_after bs i j = ap (λ n. meeting (pairs n) (exchanged bs i) j) (exchanged_length bs i)

pub crossed_back : (i : ℕ) (d e : ℤ) → d +ℤ e ≡ pos 0 → (B : Bed) → crossed i e (crossed i d B) ≡ B
crossed_back i d e h B =
    bed_same (crossed i e (crossed i d B)) B (exchanged_back B.bobbins i)
    (ap (λ k. increased (increased B.totals (crossing B.bobbins i) d) k e)
    (crossing_after B.bobbins i i ∙ meeting_back (pairs (length B.bobbins)) B.bobbins i)
    ∙ increased_back B.totals (crossing B.bobbins i) d e h)

-- DISTANT CROSSINGS

exchanged_else : (bs : List ℕ) (i k : ℕ) → k ≢ i → k ≢ suc i → get_or (exchanged bs i) k 0 ≡ get_or bs k 0
exchanged_else [] i k p q = refl
exchanged_else (x ∷ []) zero k p q = refl
exchanged_else (x ∷ y ∷ bs) zero zero p q = absurd (p refl)
exchanged_else (x ∷ y ∷ bs) zero (suc zero) p q = absurd (q refl)
exchanged_else (x ∷ y ∷ bs) zero (suc (suc k)) p q = refl
exchanged_else (x ∷ bs) (suc i) zero p q = refl
exchanged_else (x ∷ bs) (suc i) (suc k) p q = exchanged_else bs i k (λ e. p (ap suc e)) (λ e. q (ap suc e))

exchanged_far : (bs : List ℕ) (i j : ℕ) → suc i < j → exchanged (exchanged bs i) j ≡ exchanged (exchanged bs j) i
exchanged_far [] i j h = refl
exchanged_far (x ∷ bs) i zero h = absurd (omega arith)
exchanged_far (x ∷ bs) zero (suc zero) h = absurd (omega arith)
exchanged_far (x ∷ []) zero (suc (suc j)) h = refl
exchanged_far (x ∷ y ∷ bs) zero (suc (suc j)) h = refl
exchanged_far (x ∷ bs) (suc i) (suc j) h = ap (λ l. x ∷ l) (exchanged_far bs i j (omega arith))

-- an exchange elsewhere changes no meeting
meeting_else : (ps : List Two) (bs : List ℕ) (i k : ℕ) → k ≢ i → k ≢ suc i → suc k ≢ i → meeting ps (exchanged bs i) k ≡ meeting ps bs k
meeting_else ps bs i k p q r =
    ap (λ x. position x (get_or (exchanged bs i) (suc k) 0) ps) (exchanged_else bs i k p q)
    ∙ ap (λ y. position (get_or bs k 0) y ps) (exchanged_else bs i (suc k) r (omega arith))

pub crossed_far : (i j : ℕ) (d e : ℤ) → suc i < j → (B : Bed) → crossed j e (crossed i d B) ≡ crossed i d (crossed j e B)
crossed_far i j d e h B =
    let bs = B.bobbins in
    bed_same (crossed j e (crossed i d B)) (crossed i d (crossed j e B)) (exchanged_far bs i j h)
    (ap (λ k. increased (increased B.totals (crossing bs i) d) k e)
    (crossing_after bs i j ∙ meeting_else (pairs (length bs)) bs i j (omega arith) (omega arith) (omega arith))
    ∙ (increased_commute B.totals (crossing bs i) (crossing bs j) d e
    ∙ ap (λ k. increased (increased B.totals (crossing bs j) e) k d)
    (sym (crossing_after bs j i ∙ meeting_else (pairs (length bs)) bs j i (omega arith) (omega arith) (omega arith)))))

-- THREE CROSSINGS AT NEIGHBOURING PLACES

-- from the left at j, j + 1, j, and from the right at j + 1, j, j + 1: the same bobbins in the end, and the same pairs in opposite order
record Three (ps : List Two) (bs : List ℕ) (j : ℕ) : Type 0 where
  bobbins : exchanged (exchanged (exchanged bs j) (suc j)) j ≡ exchanged (exchanged (exchanged bs (suc j)) j) (suc j)
  first : meeting ps bs j ≡ meeting ps (exchanged (exchanged bs (suc j)) j) (suc j)
  second : meeting ps (exchanged bs j) (suc j) ≡ meeting ps (exchanged bs (suc j)) j
  third : meeting ps (exchanged (exchanged bs j) (suc j)) j ≡ meeting ps bs (suc j)

three : (ps : List Two) (bs : List ℕ) (j : ℕ) → suc (suc j) < length bs → Three ps bs j
three ps [] j h = absurd (omega arith)
three ps (x ∷ []) j h = absurd (omega arith)
three ps (x ∷ y ∷ []) j h = absurd (omega arith)
three ps (x ∷ y ∷ z ∷ bs) zero h = record { bobbins = refl; first = refl; second = refl; third = refl }
three ps (x ∷ y ∷ z ∷ bs) (suc j) h =
    let r = three ps (y ∷ z ∷ bs) j (omega arith) in
    record { bobbins = ap (λ l. x ∷ l) r.bobbins; first = r.first; second = r.second; third = r.third }

-- three changes in opposite order
increased_three : (ts : List ℤ) (i j k : ℕ) (d : ℤ) → increased (increased (increased ts i d) j d) k d ≡ increased (increased (increased ts k d) j d) i d
increased_three ts i j k d =
    increased_commute (increased ts i d) j k d d
    ∙ (ap (λ l. increased l j d) (increased_commute ts i k d d) ∙ increased_commute (increased ts k d) i j d d)

pub crossed_three : (j : ℕ) (d : ℤ) (B : Bed) → suc (suc j) < length B.bobbins
    → crossed j d (crossed (suc j) d (crossed j d B)) ≡ crossed (suc j) d (crossed j d (crossed (suc j) d B))
crossed_three j d B h =
    let bs = B.bobbins in
    let ps = pairs (length bs) in
    let r = three ps bs j h in
    bed_same (crossed j d (crossed (suc j) d (crossed j d B))) (crossed (suc j) d (crossed j d (crossed (suc j) d B))) r.bobbins
    (left
    ∙ (ap (λ k. increased (increased (increased B.totals k d) (meeting ps (exchanged bs j) (suc j)) d) (meeting ps (exchanged (exchanged bs j) (suc j)) j) d)
    r.first
    ∙ (ap (λ k. increased (increased (increased B.totals (meeting ps (exchanged (exchanged bs (suc j)) j) (suc j)) d) k d)
    (meeting ps (exchanged (exchanged bs j) (suc j)) j) d) r.second
    ∙ (ap (λ k. increased (increased (increased B.totals (meeting ps (exchanged (exchanged bs (suc j)) j) (suc j)) d) (meeting ps (exchanged bs (suc j)) j)
    d) k d) r.third
    ∙ (increased_three B.totals (meeting ps (exchanged (exchanged bs (suc j)) j) (suc j)) (meeting ps (exchanged bs (suc j)) j) (meeting ps bs (suc j)) d
    ∙ sym right)))))
  where
    -- the totals of three crossings, at the pairs of the first bed's bobbins
    totals_of : (a b c : ℕ) → (crossed c d (crossed b d (crossed a d B))).totals
        ≡ increased (increased (increased B.totals (meeting (pairs (length B.bobbins)) B.bobbins a) d)
        (meeting (pairs (length B.bobbins)) (exchanged B.bobbins a) b) d)
        (meeting (pairs (length B.bobbins)) (exchanged (exchanged B.bobbins a) b) c) d
    totals_of a b c =
        let bs = B.bobbins in
        ap (λ k. increased (increased (increased B.totals (crossing bs a) d) k d) (crossing (exchanged (exchanged bs a) b) c) d) (crossing_after bs a b)
        ∙ ap (λ n. increased (increased (increased B.totals (crossing bs a) d) (meeting (pairs (length bs)) (exchanged bs a) b) d)
        (meeting (pairs n) (exchanged (exchanged bs a) b) c) d)
        (exchanged_length (exchanged bs a) b ∙ exchanged_length bs a)

    left : (crossed j d (crossed (suc j) d (crossed j d B))).totals
        ≡ increased (increased (increased B.totals (meeting (pairs (length B.bobbins)) B.bobbins j) d)
        (meeting (pairs (length B.bobbins)) (exchanged B.bobbins j) (suc j)) d)
        (meeting (pairs (length B.bobbins)) (exchanged (exchanged B.bobbins j) (suc j)) j) d
    left = totals_of j (suc j) j

    right : (crossed (suc j) d (crossed j d (crossed (suc j) d B))).totals
        ≡ increased (increased (increased B.totals (meeting (pairs (length B.bobbins)) B.bobbins (suc j)) d)
        (meeting (pairs (length B.bobbins)) (exchanged B.bobbins (suc j)) j) d)
        (meeting (pairs (length B.bobbins)) (exchanged (exchanged B.bobbins (suc j)) j) (suc j)) d
    right = totals_of (suc j) j (suc j)
