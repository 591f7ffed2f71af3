-- Where a table has a mirror, words are joined exactly if they are joined under the mirror when read backward: each relation of the one is a
-- relation of the other, read backward (specification 3.8).
-- From what model/proofs/Mirrors.antt says of relations by their last letters, and the definitions. Main name: `joined_backward`.
use mathlib.Core.Path.{◌≡◌, refl, sym, ap, ap₂, subst, ◌∙◌}
use mathlib.Core.Logic.{◌≢◌}
use mathlib.Core.List.{List, [], ◌∷◌, ◌++◌, reverse, append_assoc, reverse-cons, reverse-append, reverse-reverse, Memᴰ}
use mathlib.Core.Bool.{Bool, true, false, ◌&&◌, cond}
use Prim.Native.Nat.{ℕ, ◌<◌}
use native.Mathlib.Omega.{arith}
use native.Mathlib.Decide.{ℕ_discrete, dec_lt}
use lib.Dec.{eqb}
use borrow.Author.Tests.{eqb-true, eqb-false}
use Rattle.model.specs.Word.{Positive}
use Rattle.model.specs.Presentation.{Presentation, Complement, undefined, complement, swapped, complete}
use Rattle.model.specs.Enumeration.{Two, pairs}
use Rattle.model.specs.Equivalence.{Joined}
use Rattle.model.specs.Range.{PairInRange, TableInRange}
use Rattle.model.specs.Outcome.{pair_of, answered, refused}
use Rattle.model.specs.Mirror.{FromEnd, from_end, ending_in, relation_ending, or_else, found, backward, mirror, is_defined, offending, mirrored, mirror_check}
use Rattle.model.specs.Mirror.{left_complete}
use Rattle.model.proofs.Impossible.{impossible}
use Rattle.model.proofs.Booleans.{both_true, neither_true}
use Rattle.model.proofs.Complete.{complete_turn, complete_named, complete_in_range}
use Rattle.model.proofs.Mirrors.{last_named, else_found, not_defined, ending_own, left_found, left_defined, mirror_different}
use Rattle.model.proofs.Equiv.{Equiv, Swap, done, step, trans, one, by_eq}
use Rattle.model.proofs.Joining.{idle, joined_equiv, equiv_joined}
use Rattle.theory.specs.Mirrors.{JoinedBackward}
use Rattle.theory.proofs.Enumerated.{pairs_have}

-- A SIDE FROM ITS END

from_end_lem : (a : ℕ) (x : Positive) → a ∷ x ≡ (from_end a x).before ++ ((from_end a x).last ∷ [])
from_end_lem a [] = refl
from_end_lem a (b ∷ x) = ap (λ u. a ∷ u) (from_end_lem b x)

side_backward : (a : ℕ) (x : Positive) → reverse (a ∷ x) ≡ (from_end a x).last ∷ reverse (from_end a x).before
side_backward a x = ap reverse (from_end_lem a x) ∙ reverse-append (from_end a x).before ((from_end a x).last ∷ [])

three_backward : (s m t : Positive) → reverse (s ++ (m ++ t)) ≡ reverse t ++ (reverse m ++ reverse s)
three_backward s m t =
    reverse-append s (m ++ t) ∙ (ap (λ w. w ++ reverse s) (reverse-append m t) ∙ append_assoc (reverse t) (reverse m) (reverse s))

-- WHAT WAS FOUND IS A RELATION

-- a relation with the sides u p and v q
record Sides (T : Presentation) (u : Positive) (p : ℕ) (v : Positive) (q : ℕ) : Type 0 where
  a : ℕ
  b : ℕ
  x : Positive
  y : Positive
  rule : complete T a b ≡ complement x y
  left : a ∷ x ≡ u ++ (p ∷ [])
  right : b ∷ y ≡ v ++ (q ∷ [])

module _ (T : Presentation) (p q : ℕ) (u v : Positive) where
  ending_sides : (a b : ℕ) (x y : Positive) → complete T a b ≡ complement x y → ending_in p q (from_end a x) (from_end b y) ≡ complement u v → Sides T u p v q
  ending_sides a b x y rule e =
      go (eqb (from_end a x).last p && eqb (from_end b y).last q) (eqb (from_end a x).last q && eqb (from_end b y).last p) refl refl e
    where
      go : (s t : Bool) → eqb (from_end a x).last p && eqb (from_end b y).last q ≡ s → eqb (from_end a x).last q && eqb (from_end b y).last p ≡ t
          → cond s (complement (from_end a x).before (from_end b y).before)
          (cond t (complement (from_end b y).before (from_end a x).before) undefined) ≡ complement u v
          → Sides T u p v q
      go true t f g h =
          let ends = both_true (eqb (from_end a x).last p) (eqb (from_end b y).last q) f in
          let at_p : (from_end a x).last ≡ p = eqb-true (from_end a x).last p ends.0 in
          let at_q : (from_end b y).last ≡ q = eqb-true (from_end b y).last q ends.1 in
          let u≡ : (from_end a x).before ≡ u = cc in
          let v≡ : (from_end b y).before ≡ v = cc in
          record {
            a = a;
            b = b;
            x = x;
            y = y;
            rule = rule;
            left = from_end_lem a x ∙ ap₂ (λ w l. w ++ (l ∷ [])) u≡ at_p;
            right = from_end_lem b y ∙ ap₂ (λ w l. w ++ (l ∷ [])) v≡ at_q;
          }
      go false true f g h =
          let ends = both_true (eqb (from_end a x).last q) (eqb (from_end b y).last p) g in
          let at_q : (from_end a x).last ≡ q = eqb-true (from_end a x).last q ends.0 in
          let at_p : (from_end b y).last ≡ p = eqb-true (from_end b y).last p ends.1 in
          let u≡ : (from_end b y).before ≡ u = cc in
          let v≡ : (from_end a x).before ≡ v = cc in
          record {
            a = b;
            b = a;
            x = y;
            y = x;
            rule = complete_turn T a b ∙ ap swapped rule;
            left = from_end_lem b y ∙ ap₂ (λ w l. w ++ (l ∷ [])) u≡ at_p;
            right = from_end_lem a x ∙ ap₂ (λ w l. w ++ (l ∷ [])) v≡ at_q;
          }
      go false false f g h = impossible (cc)

  relation_sides : (a b : ℕ) (c : Complement) → complete T a b ≡ c → relation_ending p q a b c ≡ complement u v → Sides T u p v q
  relation_sides a b undefined rule e = impossible (cc)
  relation_sides a b (complement x y) rule e = ending_sides a b x y rule e

  found_sides : (rs : List Two) → found T p q rs ≡ complement u v → Sides T u p v q
  found_sides [] e = impossible (cc)
  found_sides (r ∷ rs) e = go (relation_ending p q r.a r.b (complete T r.a r.b)) refl e (found_sides rs)
    where
      go : (c : Complement) → relation_ending p q r.a r.b (complete T r.a r.b) ≡ c → or_else c (found T p q rs) ≡ complement u v
          → (found T p q rs ≡ complement u v → Sides T u p v q) → Sides T u p v q
      go undefined f h rest = rest h
      go (complement u' v') f h rest = relation_sides r.a r.b (complete T r.a r.b) refl (f ∙ h)

-- so a relation of the mirror is one of the table, read backward
mirror_sides : (T : Presentation) {p q : ℕ} {x y : Positive} → p ≢ q → complete (mirror T) p q ≡ complement x y → Sides T (reverse x) p (reverse y) q
mirror_sides T {p} {q} {x} {y} d e = go (left_complete T p q) refl
  where
    go : (c : Complement) → left_complete T p q ≡ c → Sides T (reverse x) p (reverse y) q
    go undefined f =
        let none : undefined ≡ complement x y = sym (ap backward f) ∙ (sym (mirror_different T p q d) ∙ e) in
        impossible (cc)
    go (complement u v) f =
        let both : complement (reverse u) (reverse v) ≡ complement x y = sym (ap backward f) ∙ (sym (mirror_different T p q d) ∙ e) in
        let x≡ : reverse u ≡ x = cc in
        let y≡ : reverse v ≡ y = cc in
        let u≡ : u ≡ reverse x = sym (reverse-reverse u) ∙ ap reverse x≡ in
        let v≡ : v ≡ reverse y = sym (reverse-reverse v) ∙ ap reverse y≡ in
        rw (← u≡, ← v≡) (found_sides T p q u v (pairs T.size) (left_defined T p q d f))

-- A RELATION OF THE TABLE IS FOUND

-- the relation of a pair, with sides that end in two letters, is the one that is found for these
record Own (T : Presentation) (rs : List Two) (u v : FromEnd) : Type 0 where
  apart : u.last ≢ v.last
  first : found T u.last v.last rs ≡ complement u.before v.before

module _ (T : Presentation) where
  passed : (earlier : List Two) (r : Two) (rs : List Two) → mirrored T earlier (r ∷ rs) ≡ answered tt
      → (offending T earlier r.a r.b (complete T r.a r.b) ≡ false) × (mirrored T (earlier ++ (r ∷ [])) rs ≡ answered tt)
  passed earlier r rs h = go (offending T earlier r.a r.b (complete T r.a r.b)) refl h
    where
      go : (t : Bool) → offending T earlier r.a r.b (complete T r.a r.b) ≡ t
          → cond t (refused 16 (pair_of r.a r.b)) (mirrored T (earlier ++ (r ∷ [])) rs) ≡ answered tt
          → (offending T earlier r.a r.b (complete T r.a r.b) ≡ false) × (mirrored T (earlier ++ (r ∷ [])) rs ≡ answered tt)
      go true e k = impossible (cc)
      go false e k = (e, k)

  own_first : (earlier : List Two) (r : Two) (rs : List Two) {x y : Positive} → complete T r.a r.b ≡ complement x y
      → offending T earlier r.a r.b (complete T r.a r.b) ≡ false → Own T (earlier ++ (r ∷ rs)) (from_end r.a x) (from_end r.b y)
  own_first earlier r rs {x} {y} rule h =
      let u = from_end r.a x in
      let v = from_end r.b y in
      let parts = neither_true (eqb u.last v.last) (is_defined (found T u.last v.last earlier))
      (ap (offending T earlier r.a r.b) (sym rule) ∙ h) in
      let none : found T u.last v.last earlier ≡ undefined = not_defined (found T u.last v.last earlier) parts.1 in
      record {
        apart = eqb-false u.last v.last parts.0;
        first =
            else_found T u.last v.last earlier (r ∷ rs)
            ∙ (ap (λ c. or_else c (found T u.last v.last (r ∷ rs))) none
            ∙ (ap (λ c. or_else (relation_ending u.last v.last r.a r.b c) (found T u.last v.last rs)) rule
            ∙ ap (λ c. or_else c (found T u.last v.last rs)) (ending_own u v)));
      }

  own_each : {r : Two} (earlier : List Two) {rs : List Two} → mirrored T earlier rs ≡ answered tt → Memᴰ r rs
      → {x y : Positive} → complete T r.a r.b ≡ complement x y → Own T (earlier ++ rs) (from_end r.a x) (from_end r.b y)
  own_each {r} earlier h (Memᴰ.head {x = z} {xs = zs} e) {x} {y} rule =
      rw e (own_first earlier z zs {x = x} {y = y} (ap (λ r. complete T r.a r.b) (sym e) ∙ rule) (passed earlier z zs h).0)
  own_each {r} earlier h (Memᴰ.tail {x = z} {xs = zs} m) {x} {y} rule =
      let more = own_each (earlier ++ (z ∷ [])) (passed earlier z zs h).1 m rule in
      record {
        apart = more.apart;
        first = ap (found T (from_end r.a x).last (from_end r.b y).last) (sym (append_assoc earlier (z ∷ []) zs)) ∙ more.first;
      }

module _ (T : Presentation) (named : TableInRange T) (exists : mirror_check T ≡ answered tt) where
  own : {a b : ℕ} {x y : Positive} → a < b → complete T a b ≡ complement x y → Own T (pairs T.size) (from_end a x) (from_end b y)
  unfolding mirror_check
  own {a} {b} h rule =
      let n = complete_named T {a = a} {b = b} (omega arith) rule in
      own_each T [] exists (pairs_have T.size a b n.0.low h n.1.high) rule

  -- it is one of the mirror, read backward
  mirrored_below : {a b : ℕ} {x y : Positive} → a < b → complete T a b ≡ complement x y
      → complete (mirror T) (from_end a x).last (from_end b y).last ≡ complement (reverse (from_end a x).before) (reverse (from_end b y).before)
  mirrored_below {a} {b} {x} {y} h rule =
      let o = own h rule in
      let n = complete_named T {a = a} {b = b} (omega arith) rule in
      let words : PairInRange T.size (complement x y) = subst (PairInRange T.size) rule (complete_in_range T named a b) in
      let p = last_named T.size a x n.0 words.0.letters in
      let q = last_named T.size b y n.1 words.1.letters in
      mirror_different T (from_end a x).last (from_end b y).last o.apart
      ∙ ap backward (left_found T (from_end a x).last (from_end b y).last p.low p.high q.low q.high o.apart ∙ o.first)

  mirrored_rule : {a b : ℕ} {x y : Positive} → a ≢ b → complete T a b ≡ complement x y
      → complete (mirror T) (from_end a x).last (from_end b y).last ≡ complement (reverse (from_end a x).before) (reverse (from_end b y).before)
  mirrored_rule {a} {b} {x} {y} d rule = go (dec_lt a b)
    where
      go : Dec (a < b) → complete (mirror T) (from_end a x).last (from_end b y).last ≡ complement (reverse (from_end a x).before)
          (reverse (from_end b y).before)
      go (yes h) = mirrored_below h rule
      go (no h) =
          let below : b < a = omega arith in
          complete_turn (mirror T) (from_end b y).last (from_end a x).last ∙ ap swapped (mirrored_below below (complete_turn T a b ∙ ap swapped rule))

  -- WORDS READ BACKWARD

  swap_backward : {u v : Positive} → Swap (complete T) u v → Equiv (complete (mirror T)) (reverse u) (reverse v)
  swap_backward {u} {v} s = go (ℕ_discrete s.a s.b)
    where
      side : {w : Positive} (a : ℕ) (x : Positive) → w ≡ s.before ++ (a ∷ x ++ s.after)
          → reverse w ≡ reverse s.after ++ ((from_end a x).last ∷ reverse (from_end a x).before ++ reverse s.before)
      side a x e =
          ap reverse e
          ∙ (three_backward s.before (a ∷ x) s.after ∙ ap (λ m. reverse s.after ++ (m ++ reverse s.before)) (side_backward a x))

      go : Dec (s.a ≡ s.b) → Equiv (complete (mirror T)) (reverse u) (reverse v)
      go (yes e) = by_eq (ap reverse (idle T s e))
      go (no d) =
          one
          (record {
            before = reverse s.after;
            after = reverse s.before;
            a = (from_end s.a s.x).last;
            b = (from_end s.b s.y).last;
            x = reverse (from_end s.a s.x).before;
            y = reverse (from_end s.b s.y).before;
            rule = mirrored_rule d s.rule;
            left = side s.a s.x s.left;
            right = side s.b s.y s.right;
          })

  to_mirror : {u v : Positive} → Equiv (complete T) u v → Equiv (complete (mirror T)) (reverse u) (reverse v)
  to_mirror done = done
  to_mirror (step s e) = trans (swap_backward s) (to_mirror e)

module _ (T : Presentation) where
  swap_forward : {u v : Positive} → Swap (complete (mirror T)) u v → Equiv (complete T) (reverse u) (reverse v)
  swap_forward {u} {v} s = go (ℕ_discrete s.a s.b)
    where
      side : {w : Positive} (p : ℕ) (x : Positive) {m : Positive} → w ≡ s.before ++ (p ∷ x ++ s.after) → m ≡ reverse x ++ (p ∷ [])
          → reverse w ≡ reverse s.after ++ (m ++ reverse s.before)
      side p x e f =
          ap reverse e
          ∙ (three_backward s.before (p ∷ x) s.after ∙ ap (λ m. reverse s.after ++ (m ++ reverse s.before)) (reverse-cons p x ∙ sym f))

      go : Dec (s.a ≡ s.b) → Equiv (complete T) (reverse u) (reverse v)
      go (yes e) = by_eq (ap reverse (idle (mirror T) s e))
      go (no d) =
          let t = mirror_sides T d s.rule in
          one
          (record {
            before = reverse s.after;
            after = reverse s.before;
            a = t.a;
            b = t.b;
            x = t.x;
            y = t.y;
            rule = t.rule;
            left = side s.a s.x s.left t.left;
            right = side s.b s.y s.right t.right;
          })

  from_mirror : {u v : Positive} → Equiv (complete (mirror T)) u v → Equiv (complete T) (reverse u) (reverse v)
  from_mirror done = done
  from_mirror (step s e) = trans (swap_forward s) (from_mirror e)

pub joined_backward : (T : Presentation) → JoinedBackward T
joined_backward T named exists u v = (there, again)
  where
    there : Joined T u v → Joined (mirror T) (reverse u) (reverse v)
    there j = equiv_joined (mirror T) (to_mirror T named exists (joined_equiv T u v j))

    again : Joined (mirror T) (reverse u) (reverse v) → Joined T u v
    again j =
        let e = from_mirror T (joined_equiv (mirror T) (reverse u) (reverse v) j) in
        equiv_joined T (trans (by_eq (sym (reverse-reverse u))) (trans e (by_eq (reverse-reverse v))))
