-- What an entry of a derivation does: it applies to a word exactly where it is a relation step on two different letters at that offset.
-- So an entry that applies has its offset inside the word; one that does not apply is an entry that does not fit (specification 2.3).
use mathlib.Core.Path.{◌≡◌, refl, sym, ap, ap₂, ◌∙◌}
use mathlib.Core.Logic.{◌≢◌}
use mathlib.Core.List.{[], ◌∷◌, ◌++◌}
use mathlib.Core.Bool.{Bool, true, false, ◌&&◌, cond}
use mathlib.Core.Option.{none, some}
use Prim.Native.Nat.{ℕ, suc, ◌+◌, ◌<◌}
use native.Mathlib.Omega.{arith}
use lib.Dec.{eqb}
use lib.ListN.{length, take, drop, take-append-drop, length-take, length-drop, length-append}
use lib.Seq.{take-append_seam, drop-append_seam, drop-append-add, drop-drop}
use borrow.Author.Tests.{eqb-true, eqb-false, eq-eqb, ne_eqb}
use Rattle.model.specs.Word.{Positive}
use Rattle.model.specs.Presentation.{Presentation, Complement, undefined, complement, complete}
use Rattle.model.specs.Equivalence.{Entry, equal, rewritten, related, applied}
use Rattle.model.proofs.Impossible.{impossible}
use Rattle.model.proofs.Equiv.{Swap}

-- EQUAL WORDS

pub equal_same : (u : Positive) → equal u u ≡ true
equal_same [] = refl
equal_same (a ∷ u) = ap (λ t. t && equal u u) (eq-eqb a a refl) ∙ equal_same u

pub equal_true : (u v : Positive) → equal u v ≡ true → u ≡ v
equal_true [] [] e = refl
equal_true [] (b ∷ v) e = impossible (cc)
equal_true (a ∷ u) [] e = impossible (cc)
equal_true (a ∷ u) (b ∷ v) e = go (eqb a b) refl (equal_true u v)
  where
    go : (t : Bool) → eqb a b ≡ t → (equal u v ≡ true → u ≡ v) → a ∷ u ≡ b ∷ v
    go true h rest = ap₂ (λ x w. x ∷ w) (eqb-true a b h) (rest (ap (λ t. t && equal u v) (sym h) ∙ e))
    go false h rest =
        let bad : false ≡ true = ap (λ t. t && equal u v) (sym h) ∙ e in
        impossible (cc)

-- ONE SIDE PUT FOR THE OTHER

rewritten_at : (p side other s : Positive) → rewritten (p ++ (side ++ s)) (length p) side other ≡ some (p ++ (other ++ s))
rewritten_at p side other s =
    let fits : equal (take (length side) (drop (length p) (p ++ (side ++ s)))) side ≡ true =
    ap (λ w. equal (take (length side) w) side) (drop-append_seam p (side ++ s))
    ∙ (ap (λ w. equal w side) (take-append_seam side s) ∙ equal_same side) in
    ap
    (λ t.
    cond t (some (take (length p) (p ++ (side ++ s)) ++ (other ++ drop (length p + length side) (p ++ (side ++ s))))) none) fits
    ∙ ap₂ (λ l r. some (l ++ (other ++ r))) (take-append_seam p (side ++ s)) (drop-append-add p (side ++ s) (length side) ∙ drop-append_seam side s)

-- where a side was put for another
record Found (u : Positive) (offset : ℕ) (side other w : Positive) : Type 0 where
  before : Positive
  after : Positive
  left : u ≡ before ++ (side ++ after)
  right : w ≡ before ++ (other ++ after)
  place : length before ≡ offset

rewritten_found : (u : Positive) (offset a : ℕ) (x other w : Positive) → rewritten u offset (a ∷ x) other ≡ some w → Found u offset (a ∷ x) other w
rewritten_found u offset a x other w e = go (equal (take (length (a ∷ x)) (drop offset u)) (a ∷ x)) refl
  where
    side : Positive
    side = a ∷ x

    result : Positive
    result = take offset u ++ (other ++ drop (offset + length (a ∷ x)) u)

    go : (t : Bool) → equal (take (length (a ∷ x)) (drop offset u)) (a ∷ x) ≡ t → Found u offset (a ∷ x) other w
    go true h =
        let stands : take (length (a ∷ x)) (drop offset u) ≡ a ∷ x = equal_true (take (length (a ∷ x)) (drop offset u)) (a ∷ x) h in
        let done : some result ≡ some w = ap (λ t. cond t (some result) none) (sym h) ∙ e in
        let rest : drop offset u ≡ (a ∷ x) ++ drop (offset + length (a ∷ x)) u =
        sym (take-append-drop (length (a ∷ x)) (drop offset u)) ∙ ap₂ (λ l r. l ++ r) stands (drop-drop (length (a ∷ x)) offset u) in
        let long : length (drop offset u) ≡ suc (length x) + length (drop (offset + length (a ∷ x)) u) =
        ap length rest ∙ length-append (a ∷ x) (drop (offset + length (a ∷ x)) u) in
        record {
          before = take offset u;
          after = drop (offset + length (a ∷ x)) u;
          left = sym (take-append-drop offset u) ∙ ap (λ l. take offset u ++ l) rest;
          right = cc;
          place = length-take offset u ∙ omega (arith, long, length-drop offset u);
        }
    go false h =
        let bad : none ≡ some w = ap (λ t. cond t (some result) none) (sym h) ∙ e in
        impossible (cc)

-- AN ENTRY IS A RELATION STEP

-- the entry of a relation step
abbrev pub entry : {f : ℕ → ℕ → Complement} {u v : Positive} → Swap f u v → Entry
entry s = record { offset = length s.before; a = s.a; b = s.b }

pub record Applies (T : Presentation) (u : Positive) (e : Entry) (w : Positive) : Type 0 where
  pub swap : Swap (complete T) u w
  pub differ : swap.a ≢ swap.b
  pub same : entry swap ≡ e

module _ (T : Presentation) where
  pub swap_applied : {u w : Positive} (s : Swap (complete T) u w) → s.a ≢ s.b → applied T u (entry s) ≡ some w
  unfolding applied
  swap_applied {u} {w} s h =
      ap (λ t. cond t none (related u (entry s) (complete T s.a s.b))) (ne_eqb s.a s.b h)
      ∙ (ap (related u (entry s)) s.rule
      ∙ (ap (λ l. rewritten l (length s.before) (s.a ∷ s.x) (s.b ∷ s.y)) s.left
      ∙ (rewritten_at s.before (s.a ∷ s.x) (s.b ∷ s.y) s.after ∙ ap some (sym s.right))))

  pub applied_applies : (u : Positive) (e : Entry) (w : Positive) → applied T u e ≡ some w → Applies T u e w
  unfolding applied
  applied_applies u e w h = go (eqb e.a e.b) refl
    where
      by : (c : Complement) → complete T e.a e.b ≡ c → e.a ≢ e.b → related u e c ≡ some w → Applies T u e w
      by undefined r d q = impossible (cc)
      by (complement x y) r d q =
          let t = rewritten_found u e.offset e.a x (e.b ∷ y) w q in
          record {
            swap = record {
              before = t.before;
              after = t.after;
              a = e.a;
              b = e.b;
              x = x;
              y = y;
              rule = r;
              left = t.left;
              right = t.right;
            };
            differ = d;
            same = λ i. record { offset = t.place i; a = e.a; b = e.b };
          }

      go : (t : Bool) → eqb e.a e.b ≡ t → Applies T u e w
      go true p =
          let bad : none ≡ some w = ap (λ t. cond t none (related u e (complete T e.a e.b))) (sym p) ∙ h in
          impossible (cc)
      go false p =
          by (complete T e.a e.b) refl (eqb-false e.a e.b p)
          (ap (λ t. cond t none (related u e (complete T e.a e.b))) (sym p) ∙ h)

  -- its offset is inside the word
  pub entry_inside : (u : Positive) (e : Entry) (w : Positive) → applied T u e ≡ some w → e.offset < length u
  entry_inside u e w h =
      let t = applied_applies u e w h in
      let s = t.swap in
      let long : length u ≡ length s.before + suc (length (s.x ++ s.after)) =
      ap length s.left ∙ length-append s.before (s.a ∷ s.x ++ s.after) in
      let place : length s.before ≡ e.offset = ap (λ q. q.offset) t.same in
      omega (arith, long, place)
