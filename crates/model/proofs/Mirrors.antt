-- Relations from their ends, and which one is found. The mirror's completions: those of p towards q are the words of `left_complete`, read backward,
-- for every table and all numbers.
use mathlib.Core.Path.{◌≡◌, refl, sym, ap, ap₂, ◌∙◌}
use mathlib.Core.Logic.{◌≢◌}
use mathlib.Core.List.{List, [], ◌∷◌, ◌++◌, map}
use mathlib.Core.Bool.{Bool, true, false, ◌&&◌, cond}
use Prim.Native.Nat.{ℕ, zero, suc, ◌+◌, ◌-◌, ◌≤◌, ◌<◌}
use native.Mathlib.Omega.{arith}
use native.Mathlib.Decide.{ℕ_discrete, dec_lt, dec_le}
use lib.Dec.{leb, eqb}
use lib.ListN.{length, take, get_or}
use borrow.Author.Tests.{eq-eqb, ne_eqb, eqb-true, le-leb, lt-leb}
use Rattle.model.specs.Word.{Positive}
use Rattle.model.specs.Presentation.{Presentation, Complement, undefined, complement, swapped, listed, complete}
use Rattle.model.specs.Enumeration.{range, Two, pairs}
use Rattle.model.specs.Range.{All, InRange}
use Rattle.model.specs.Mirror.{FromEnd, from_end, ending_in, relation_ending, or_else, found, backward, mirror, is_defined, names, left_complete}
use Rattle.model.proofs.Complete.{complete_same, complete_below, complete_above, swapped_twice}
use Rattle.model.proofs.Impossible.{impossible}
use Rattle.model.proofs.Booleans.{both_true, both, second_false}

-- A SIDE FROM ITS END: the last letter of a x, and what stands before it

pub last_is : (a : ℕ) (x : Positive) → (from_end a x).last ≡ get_or (a ∷ x) (length x) 0
last_is a [] = refl
last_is a (b ∷ x) = last_is b x

pub before_is : (a : ℕ) (x : Positive) → (from_end a x).before ≡ take (length x) (a ∷ x)
before_is a [] = refl
before_is a (b ∷ x) = ap (λ u. a ∷ u) (before_is b x)

pub before_length : (a : ℕ) (x : Positive) → length (from_end a x).before ≡ length x
before_length a [] = refl
before_length a (b ∷ x) = ap suc (before_length b x)

pub last_named : (n a : ℕ) (x : Positive) → InRange n a → All (InRange n) x → InRange n (from_end a x).last
last_named n a [] h p = h
last_named n a (b ∷ x) h p = last_named n b x p.0 p.1

pub before_named : (n a : ℕ) (x : Positive) → InRange n a → All (InRange n) x → All (InRange n) (from_end a x).before
before_named n a [] h p = tt
before_named n a (b ∷ x) h p = (h, before_named n b x p.0 p.1)

-- TWO SIDES

one_neither : (s t : Bool) (x y : Positive) → (s ≡ true → t ≡ true → ⊥) → cond (s && t) (complement x y) undefined ≡ undefined
one_neither true true x y f = absurd (f refl refl)
one_neither true false x y f = refl
one_neither false t x y f = refl

pub ending_own : (u v : FromEnd) → ending_in u.last v.last u v ≡ complement u.before v.before
ending_own u v =
    ap₂ (λ s t. cond (s && t) (complement u.before v.before)
    (cond (eqb u.last v.last && eqb v.last u.last) (complement v.before u.before) undefined))
    (eq-eqb u.last u.last refl) (eq-eqb v.last v.last refl)

-- two sides that do not end in p and q, in either order
pub ending_other : (p q : ℕ) (u v : FromEnd) → ((p ≡ u.last) × (q ≡ v.last) → ⊥) → ((p ≡ v.last) × (q ≡ u.last) → ⊥) → ending_in p q u v ≡ undefined
ending_other p q u v there back =
    either_neither (eqb u.last p) (eqb v.last q) (eqb u.last q) (eqb v.last p) u.before v.before
    (λ e f. there (sym (eqb-true u.last p e), sym (eqb-true v.last q f)))
    (λ e f. back (sym (eqb-true v.last p f), sym (eqb-true u.last q e)))
  where
    either_neither : (s t s' t' : Bool) (x y : Positive) → (s ≡ true → t ≡ true → ⊥) → (s' ≡ true → t' ≡ true → ⊥)
        → cond (s && t) (complement x y) (cond (s' && t') (complement y x) undefined) ≡ undefined
    either_neither true true s' t' x y f g = absurd (f refl refl)
    either_neither true false s' t' x y f g = one_neither s' t' y x g
    either_neither false t s' t' x y f g = one_neither s' t' y x g

-- WHAT IS FOUND

pub else_none : (c : Complement) → or_else c undefined ≡ c
else_none undefined = refl
else_none (complement x y) = refl

pub not_defined : (c : Complement) → is_defined c ≡ false → c ≡ undefined
not_defined undefined e = refl
not_defined (complement x y) e = impossible (cc)

pub else_found : (T : Presentation) (p q : ℕ) (rs ss : List Two) → found T p q (rs ++ ss) ≡ or_else (found T p q rs) (found T p q ss)
else_found T p q [] ss = refl
else_found T p q (r ∷ rs) ss =
    ap (or_else (relation_ending p q r.a r.b (complete T r.a r.b))) (else_found T p q rs ss)
    ∙ else_assoc (relation_ending p q r.a r.b (complete T r.a r.b)) (found T p q rs) (found T p q ss)
  where
    else_assoc : (c d e : Complement) → or_else c (or_else d e) ≡ or_else (or_else c d) e
    else_assoc undefined d e = refl
    else_assoc (complement x y) d e = refl

-- with one relation more
pub found_more : (T : Presentation) (p q : ℕ) (rs : List Two) (r : Two)
    → found T p q (rs ++ (r ∷ [])) ≡ or_else (found T p q rs) (relation_ending p q r.a r.b (complete T r.a r.b))
found_more T p q rs r =
    else_found T p q rs (r ∷ []) ∙ ap (or_else (found T p q rs)) (else_none (relation_ending p q r.a r.b (complete T r.a r.b)))

-- THE PAIR THE OTHER WAY ROUND

either_turned : (s t : Bool) (u v : Positive) → (s ≡ true → t ≡ true → ⊥)
    → cond t (complement u v) (cond s (complement v u) undefined) ≡ swapped (cond s (complement u v) (cond t (complement v u) undefined))
either_turned true true u v h = absurd (h refl refl)
either_turned true false u v h = refl
either_turned false true u v h = refl
either_turned false false u v h = refl

ending_turned : (p q : ℕ) → p ≢ q → (u v : FromEnd) → ending_in q p u v ≡ swapped (ending_in p q u v)
ending_turned p q d u v =
    either_turned (eqb u.last p && eqb v.last q) (eqb u.last q && eqb v.last p) u.before v.before
    (λ e f.
    let at_p = eqb-true u.last p (both_true (eqb u.last p) (eqb v.last q) e).0 in
    let at_q = eqb-true u.last q (both_true (eqb u.last q) (eqb v.last p) f).0 in
    d (sym at_p ∙ at_q))

relation_turned : (p q : ℕ) → p ≢ q → (a b : ℕ) (c : Complement) → relation_ending q p a b c ≡ swapped (relation_ending p q a b c)
relation_turned p q d a b undefined = refl
relation_turned p q d a b (complement x y) = ending_turned p q d (from_end a x) (from_end b y)

else_turned : (c d : Complement) → or_else (swapped c) (swapped d) ≡ swapped (or_else c d)
else_turned undefined d = refl
else_turned (complement x y) d = refl

pub found_turned : (T : Presentation) (p q : ℕ) → p ≢ q → (rs : List Two) → found T q p rs ≡ swapped (found T p q rs)
found_turned T p q d [] = refl
found_turned T p q d (r ∷ rs) =
    let relation = relation_ending p q r.a r.b (complete T r.a r.b) in
    ap₂ or_else (relation_turned p q d r.a r.b (complete T r.a r.b)) (found_turned T p q d rs) ∙ else_turned relation (found T p q rs)

backward_turned : (c : Complement) → backward (swapped c) ≡ swapped (backward c)
backward_turned undefined = refl
backward_turned (complement x y) = refl

-- THE ROWS OF THE MIRROR

ranged : {A : Type 0} (f : ℕ → A) (from many i : ℕ) (d : A) → i < many → get_or (map f (range from many)) i d ≡ f (from + i)
ranged f from zero i d h = absurd (omega arith)
ranged f from (suc many) zero d h = ap f (omega arith)
ranged f from (suc many) (suc i) d h = ranged f (suc from) many i d (omega arith) ∙ ap f (omega arith)

module _ (T : Presentation) where
  abbrev entry : ℕ → ℕ → Complement
  entry p q = backward (found T p q (pairs T.size))

  listed_mirror : (p q : ℕ) → 1 ≤ p → p < q → q ≤ T.size → listed (mirror T) p q ≡ entry p q
  listed_mirror p q low less high =
      ap₂ (λ s t. cond (s && t) (get_or (get_or (mirror T).rows (p - 1) []) (q - p - 1) undefined) undefined) (le-leb 1 p low) (le-leb q T.size high)
      ∙ (ap (λ row. get_or row (q - p - 1) undefined)
      (ranged (λ p. map (entry p) (range (suc p) (T.size - p))) 1 T.size (p - 1) [] (omega arith)
      ∙ ap (λ p. map (entry p) (range (suc p) (T.size - p))) back_p)
      ∙ (ranged (entry p) (suc p) (T.size - p) (q - p - 1) undefined (omega arith) ∙ ap (entry p) back_q))
    where
      back_p : 1 + (p - 1) ≡ p
      back_p = omega arith

      back_q : suc p + (q - p - 1) ≡ q
      back_q = omega arith

  listed_outside : (p q : ℕ) → (leb 1 p && leb q T.size ≡ false) → listed (mirror T) p q ≡ undefined
  listed_outside p q e = ap (λ t. cond t (get_or (get_or (mirror T).rows (p - 1) []) (q - p - 1) undefined) undefined) e

  -- LEFT COMPLETIONS

  left_same : (p : ℕ) → left_complete T p p ≡ complement [] []
  unfolding left_complete
  left_same p = ap (λ t. cond t (complement [] []) (cond (names T p && names T p) (found T p p (pairs T.size)) undefined)) (eq-eqb p p refl)

  left_by : (p q : ℕ) → p ≢ q → {t : Bool} → names T p && names T q ≡ t → left_complete T p q ≡ cond t (found T p q (pairs T.size)) undefined
  unfolding left_complete
  left_by p q d e =
      ap (λ t. cond t (complement [] []) (cond (names T p && names T q) (found T p q (pairs T.size)) undefined)) (ne_eqb p q d)
      ∙ ap (λ t. cond t (found T p q (pairs T.size)) undefined) e

  named : (p : ℕ) → 1 ≤ p → p ≤ T.size → names T p ≡ true
  named p low high = both (le-leb 1 p low) (le-leb p T.size high)

  zero_unnamed : (p : ℕ) → p < 1 → names T p ≡ false
  zero_unnamed p h = ap (λ s. s && leb p T.size) (lt-leb 1 p h)

  large_unnamed : (p : ℕ) → T.size < p → names T p ≡ false
  large_unnamed p h = second_false (leb 1 p) (lt-leb p T.size h)

  -- of two different letters, the lower first
  pub left_found : (p q : ℕ) → 1 ≤ p → p ≤ T.size → 1 ≤ q → q ≤ T.size → p ≢ q → left_complete T p q ≡ found T p q (pairs T.size)
  left_found p q low-p high-p low-q high-q d = left_by p q d (both (named p low-p high-p) (named q low-q high-q))

  left_outside : (p q : ℕ) → p ≢ q → names T p && names T q ≡ false → left_complete T p q ≡ undefined
  left_outside p q d e = left_by p q d e

  ordered : (p q : ℕ) → p < q → listed (mirror T) p q ≡ backward (left_complete T p q)
  ordered p q h = go (dec_le 1 p) (dec_le q T.size)
    where
      go : Dec (1 ≤ p) → Dec (q ≤ T.size) → listed (mirror T) p q ≡ backward (left_complete T p q)
      go (yes l) (yes g) =
          listed_mirror p q l h g ∙ ap backward (sym (left_found p q l (omega arith) (omega arith) g (omega arith)))
      go (no l) g =
          listed_outside p q (ap (λ s. s && leb q T.size) (lt-leb 1 p (omega arith)))
          ∙ ap backward (sym (left_outside p q (omega arith) (ap (λ s. s && names T q) (zero_unnamed p (omega arith)))))
      go (yes l) (no g) =
          listed_outside p q (second_false (leb 1 p) (lt-leb q T.size (omega arith)))
          ∙ ap backward (sym (left_outside p q (omega arith) (second_false (names T p) (large_unnamed q (omega arith)))))

  left_turned : (p q : ℕ) → p ≢ q → left_complete T q p ≡ swapped (left_complete T p q)
  left_turned p q d = go (names T p) (names T q) refl refl
    where
      go : (s t : Bool) → names T p ≡ s → names T q ≡ t → left_complete T q p ≡ swapped (left_complete T p q)
      go true true e f =
          left_by q p (λ h. d (sym h)) (ap₂ (λ s t. s && t) f e)
          ∙ (found_turned T p q d (pairs T.size) ∙ ap swapped (sym (left_by p q d (ap₂ (λ s t. s && t) e f))))
      go true false e f =
          left_by q p (λ h. d (sym h)) (ap₂ (λ s t. s && t) f e) ∙ ap swapped (sym (left_by p q d (ap₂ (λ s t. s && t) e f)))
      go false t e f =
          left_by q p (λ h. d (sym h)) (second_false (names T q) e) ∙ ap swapped (sym (left_by p q d (ap₂ (λ s t. s && t) e f)))

  -- the mirror's completions of q and p are V and U, read backward
  pub mirror_complete : (p q : ℕ) → complete (mirror T) q p ≡ backward (swapped (left_complete T p q))
  mirror_complete p q = go (ℕ_discrete p q) (dec_lt p q)
    where
      go : Dec (p ≡ q) → Dec (p < q) → complete (mirror T) q p ≡ backward (swapped (left_complete T p q))
      go (yes e) _ = rw (← e, complete_same (mirror T) p, left_same p)
      go (no d) (yes h) = complete_above (mirror T) h ∙ (ap swapped (ordered p q h) ∙ sym (backward_turned (left_complete T p q)))
      go (no d) (no h) = complete_below (mirror T) {a = q} {b = p} (omega arith) ∙ (ordered q p (omega arith) ∙ ap backward (left_turned p q d))

  -- so of two different letters p and q they are U and V, read backward
  pub mirror_different : (p q : ℕ) → p ≢ q → complete (mirror T) p q ≡ backward (left_complete T p q)
  mirror_different p q d =
      mirror_complete q p
      ∙ (ap (λ c. backward (swapped c)) (left_turned p q d) ∙ ap backward (swapped_twice (left_complete T p q)))

  -- what a left completion of two different letters says was found
  pub left_defined : (p q : ℕ) → p ≢ q → {u v : Positive} → left_complete T p q ≡ complement u v → found T p q (pairs T.size) ≡ complement u v
  left_defined p q d {u} {v} e = go (names T p && names T q) refl
    where
      go : (t : Bool) → names T p && names T q ≡ t → found T p q (pairs T.size) ≡ complement u v
      go true h = sym (left_by p q d h) ∙ e
      go false h =
          let none : undefined ≡ complement u v = sym (left_by p q d h) ∙ e in
          impossible (cc)
