-- Laws of the search for a site: how it goes on by a letter, what it finds, that it finds the leftmost site where none begins before its place,
-- and where none does.
use mathlib.Core.Path.{◌≡◌, refl, sym, ap, ap₂, ◌∙◌}
use mathlib.Core.List.{[], ◌∷◌, ◌++◌, head-eq_of_cons-eq, tail-eq_of_cons-eq}
use Prim.Native.Nat.{ℕ, zero, suc, ◌-◌}
use native.Mathlib.Omega.{arith}
use lib.ListN.{length}
use Rattle.model.specs.Word.{Letter, forward, back, Word, Positive, positive, negative}
use Rattle.model.specs.Reversing.{nowhere, at, site, site_after, beyond, replaced}
use Rattle.model.proofs.Impossible.{impossible}
use Rattle.model.proofs.Words.{beyond_nowhere, beyond_at}
use Rattle.engine.specs.Search.{site_from, NoneBefore}

-- THE SEARCH

-- no site begins at a forward letter, nor just before a back one
pub pass_forward : (p : Word) (a : ℕ) (w : Word) → site_from (length p) (p ++ (forward a ∷ w)) ≡ site_from (suc (length p)) (p ++ (forward a ∷ w))
unfolding site_from
pass_forward [] a w = refl
pass_forward (x ∷ p) a w = ap (beyond x) (pass_forward p a w)

pub pass_back : (p : Word) (x : Letter) (b : ℕ) (w : Word)
    → site_from (length p) (p ++ (x ∷ back b ∷ w)) ≡ site_from (suc (length p)) (p ++ (x ∷ back b ∷ w))
unfolding site_from
pass_back [] (forward a) b w = refl
pass_back [] (back a) b w = refl
pass_back (y ∷ p) x b w = ap (beyond y) (pass_back p x b w)

-- a site at the place is what the search finds, and from the last letter on it finds none
pub finds_here : (p : Word) (a b : ℕ) (s : Word) → site_from (length p) (p ++ (back a ∷ forward b ∷ s)) ≡ at p a b s
unfolding site_from
finds_here [] a b s = refl
finds_here (x ∷ p) a b s = ap (beyond x) (finds_here p a b s)

pub finds_none : (p : Word) (x : Letter) → site_from (length p) (p ++ (x ∷ [])) ≡ nowhere
unfolding site_from
finds_none [] (forward a) = refl
finds_none [] (back a) = refl
finds_none (y ∷ p) x = ap (beyond y) (finds_none p x)

pub empty_none : (place : ℕ) → site_from place [] ≡ nowhere
unfolding site_from
empty_none zero = refl
empty_none (suc place) = refl

-- THE LEFTMOST SITE

none_after : (place : ℕ) (x : Letter) (w : Word) → NoneBefore (suc place) (x ∷ w) → NoneBefore place w
none_after place x w h p s a b e = omega (arith, h (x ∷ p) s a b (ap (λ v. x ∷ v) e))

beyond_site : (place : ℕ) (x : Letter) (w : Word) → NoneBefore (suc place) (x ∷ w) → beyond x (site w) ≡ site (x ∷ w)
beyond_site place (forward a) w h = refl
beyond_site place (back a) [] h = refl
beyond_site place (back a) (forward b ∷ w) h = absurd (omega (arith, h [] w a b refl))
beyond_site place (back a) (back b ∷ w) h = refl

-- where no site begins before its place, a search finds the leftmost site
pub finds_leftmost : (place : ℕ) (w : Word) → NoneBefore place w → site_from place w ≡ site w
unfolding site_from
finds_leftmost zero w h = refl
finds_leftmost (suc place) [] h = refl
finds_leftmost (suc place) (x ∷ w) h = ap (beyond x) (finds_leftmost place w (none_after place x w h)) ∙ beyond_site place x w h

-- WHERE NO SITE BEGINS BEFORE A PLACE

-- a word without a site has none behind its first letter
site_tail : (x : Letter) (p : Word) → site (x ∷ p) ≡ nowhere → site p ≡ nowhere
site_tail (forward a) p e = beyond_nowhere (forward a) (site p) e
site_tail (back a) [] e = refl
site_tail (back a) (forward b ∷ p) e = impossible (cc)
site_tail (back a) (back b ∷ p) e = beyond_nowhere (back a) (site_after b p) e

-- before the last letter of a beginning without a site, whatever follows it
pub none_in_front : (p t : Word) → site p ≡ nowhere → NoneBefore (length p - 1) (p ++ t)
none_in_front [] t h q s a b e = omega arith
none_in_front (x ∷ []) t h q s a b e = omega arith
none_in_front (x ∷ y ∷ p) t h [] s a b e =
    let f : site (back a ∷ forward b ∷ p) ≡ nowhere =
    ap₂ (λ u v. site (u ∷ v ∷ p)) (sym (head-eq_of_cons-eq e)) (sym (head-eq_of_cons-eq (tail-eq_of_cons-eq e))) ∙ h in
    impossible (cc)
none_in_front (x ∷ y ∷ p) t h (z ∷ q) s a b e =
    omega (arith, none_in_front (y ∷ p) t (site_tail x (y ∷ p) h) q s a b (tail-eq_of_cons-eq e))

-- what lies before the leftmost site has none
after_before : (c d : ℕ) (w : Word) {p s : Word} {a b : ℕ} → site_after d w ≡ at p a b s → site_after c p ≡ nowhere
after_before c d [] e = impossible (cc)
after_before c d (forward f ∷ w) {p} e = let n : p ≡ [] = cc in ap (site_after c) n
after_before c d (back f ∷ w) e =
    let r = beyond_at (back d) (site_after f w) e in
    ap (site_after c) r.2 ∙ ap (beyond (back c)) (after_before d f w r.1)

site_before : (w : Word) {p s : Word} {a b : ℕ} → site w ≡ at p a b s → site p ≡ nowhere
site_before [] e = impossible (cc)
site_before (forward c ∷ w) e =
    let r = beyond_at (forward c) (site w) e in
    ap site r.2 ∙ ap (beyond (forward c)) (site_before w r.1)
site_before (back c ∷ []) e = impossible (cc)
site_before (back c ∷ forward f ∷ w) {p} e = let n : p ≡ [] = cc in ap site n
site_before (back c ∷ back f ∷ w) e =
    let r = beyond_at (back c) (site_after f w) e in
    ap site r.2 ∙ after_before c f w r.1

-- after a step: before the last letter in front of the replaced ones
pub none_after_step : (w : Word) {p s : Word} {a b : ℕ} → site w ≡ at p a b s → (x y : Positive) → NoneBefore (length p - 1) (replaced p x y s)
none_after_step w {p} {s} e x y = none_in_front p (positive x ++ (negative y ++ s)) (site_before w e)
