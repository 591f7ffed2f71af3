-- A word looked up among the listed ones, one after the other.
use mathlib.Core.Path.{◌≡◌, refl, sym, ap, ap₂, ◌∙◌}
use mathlib.Core.List.{List, [], ◌∷◌}
use mathlib.Core.Bool.{Bool, true, false, ◌||◌, ◌&&◌}
use Prim.Native.Nat.{ℕ, suc, ◌+◌, ◌-◌, ◌≤◌, ◌<◌}
use native.Mathlib.Omega.{arith}
use native.Mathlib.Decide.{ℕ_discrete, dec_lt}
use borrow.Author.Tests.{eq-eqb, ne_eqb}
use lib.Dec.{eqb}
use lib.Pointwise.{pointwise}
use lib.ListN.{length, take, drop, get_or, drop_of_length-le}
use lib.Seq.{drop-cons, take-length, take_all}
use Rattle.model.specs.Word.{Positive}
use Rattle.model.specs.Equivalence.{equal}
use Rattle.model.specs.Signed.{is_listed, set_bytes}
use Rattle.swaps.proofs.Comparing.{slices_equal}
use Rattle.spans.specs.Ends.{HasEnd, EndFound}
use Rattle.sets.specs.Listed.{Lists}
use Rattle.sets.proofs.Spelling.{used_is, place_below, word_part, word_has_end, word_end_is, word_inside, next_start}

-- two slices compared are two words compared, in either order
pub equal_turned : (xs ys : List ℕ) (v : Bool) → pointwise eqb xs ys ≡ v → equal ys xs ≡ v
equal_turned xs ys v h = turned ys xs ∙ (sym (slices_equal xs ys) ∙ h)
  where
    same : (a b : ℕ) → eqb a b ≡ eqb b a
    same a b = go (ℕ_discrete a b)
      where
        go : Dec (a ≡ b) → eqb a b ≡ eqb b a
        go (yes e) = eq-eqb a b e ∙ sym (eq-eqb b a (sym e))
        go (no e) = ne_eqb a b e ∙ sym (ne_eqb b a (λ f. e (sym f)))

    turned : (us vs : List ℕ) → equal us vs ≡ equal vs us
    turned [] [] = refl
    turned [] (v ∷ vs) = refl
    turned (u ∷ us) [] = refl
    turned (u ∷ us) (v ∷ vs) = ap₂ (λ s t. s && t) (same u v) (turned us vs)

-- the listing alone
pub front_lists : {n : ℕ} {area : List ℕ} {used : ℕ} {vs : List Positive} {listing : List ℕ} → Lists n area used vs → listing ≡ take used area
    → Lists n listing (length listing) vs
front_lists {n} {area} {used} {vs} {listing} l front =
    record {
      inside = omega arith;
      bytes = take_all (length listing) listing (omega arith) ∙ (front ∙ l.bytes);
      few = l.few;
      named = l.named;
    }

-- the words before a place are none of it
pub record Passed (vs : List Positive) (w : Positive) (at : ℕ) : Type 0 where
  pub passed : ℕ
  pub within : passed ≤ length vs
  pub at_is : at ≡ set_bytes (take passed vs)
  pub left : is_listed w vs ≡ is_listed w (drop passed vs)

pub passed_none : (vs : List Positive) (w : Positive) → Passed vs w 0
passed_none vs w = record { passed = 0; within = omega arith; at_is = refl; left = refl }

module _ (n : ℕ) (area : List ℕ) (used : ℕ) (vs : List Positive) (s : Lists n area used vs) (w : Positive) (at : ℕ) (p : Passed vs w at) where
  used_all : used ≡ set_bytes (take (length vs) vs)
  used_all = used_is n area used vs s ∙ ap set_bytes (sym (take-length vs))

  module _ (h : at < used) where
    there : p.passed < length vs
    there = place_below vs p.passed (length vs) (omega (arith, p.at_is, used_all))

    pub passed_end : HasEnd area at
    passed_end = word_has_end n area used vs s p.passed there at p.at_is

    module _ (end : ℕ) (f : EndFound area at end) where
      pub passed_inside : end + 1 ≤ used
      passed_inside =
          omega (arith, word_end_is n area used vs s p.passed there at p.at_is end f, word_inside n area used vs s p.passed there)

      here : take (end - at) (drop at area) ≡ get_or vs p.passed []
      here =
          let l : end - at ≡ length (get_or vs p.passed []) =
          omega (arith, word_end_is n area used vs s p.passed there at p.at_is end f, p.at_is) in
          ap (λ k. take k (drop at area)) l
          ∙ (ap (λ k. take (length (get_or vs p.passed [])) (drop k area)) p.at_is ∙ word_part n area used vs s p.passed there)

      step : is_listed w vs ≡ (equal w (take (end - at) (drop at area)) || is_listed w (drop (suc p.passed) vs))
      step =
          p.left
          ∙ (ap (is_listed w) (drop-cons vs p.passed [] there)
          ∙ ap (λ v. equal w v || is_listed w (drop (suc p.passed) vs)) (sym here))

      pub passed_found : equal w (take (end - at) (drop at area)) ≡ true → is_listed w vs ≡ true
      passed_found e = step ∙ ap (λ t. t || is_listed w (drop (suc p.passed) vs)) e

      pub passed_more : equal w (take (end - at) (drop at area)) ≡ false → Passed vs w (end + 1)
      passed_more e =
          record {
            passed = suc p.passed;
            within = omega (arith, there);
            at_is = next_start n area used vs s p.passed there at p.at_is end f;
            left = step ∙ ap (λ t. t || is_listed w (drop (suc p.passed) vs)) e;
          }

  pub passed_all : used ≤ at → is_listed w vs ≡ false
  passed_all h = p.left ∙ ap (is_listed w) (drop_of_length-le vs (gone (dec_lt p.passed (length vs))))
    where
      gone : Dec (p.passed < length vs) → length vs ≤ p.passed
      gone (yes q) = absurd (omega (arith, word_inside n area used vs s p.passed q, p.at_is))
      gone (no q) = omega arith
