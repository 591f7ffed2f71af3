-- Two words gone through together, one letter after the other.
use mathlib.Core.Path.{◌≡◌, sym, ap, subst, ◌∙◌}
use mathlib.Core.List.{List, [], ◌∷◌}
use mathlib.Core.Bool.{true, false}
use Prim.Native.Nat.{ℕ, zero, suc, ◌+◌, ◌-◌, ◌*◌, ◌≤◌, ◌<◌}
use native.Mathlib.Omega.{arith}
use native.Mathlib.Decide.{dec_lt}
use lib.Dec.{eqb}
use lib.ListN.{length, take, drop, get_or, length-drop}
use lib.Seq.{take_all, length-take-le, get_or-take, get_or-drop}
use borrow.Author.Tests.{eq-eqb, ne_eqb}
use Rattle.model.specs.Word.{Positive}
use Rattle.model.specs.Presentation.{Presentation, weight_of, weigh}
use Rattle.model.specs.Range.{All, InRange}
use Rattle.model.proofs.Equiv.{total_more}
use Rattle.model.proofs.Lists.{all_at}
use Rattle.model.specs.Images.{most_size}
use Rattle.model.specs.Plain.{most_weight}
use Rattle.cells.specs.Layout.{weight_at}
use Rattle.cells.specs.Stands.{Stands}
use Rattle.cells.proofs.Rules.{held_weight, light_letter}
use Rattle.signed_comparing.specs.declared.weight.Balance.{Balance}
use Rattle.signed_comparing.specs.Weight.{Stand, TwoWords, NextLetter}

-- the lead of the first while both weigh the same
abbrev pub even_lead : ℕ
even_lead = 2 * most_weight

-- how far they are gone through: what is passed of the first, and the lead of even weights, weighs as much as what is of the second, and the lead
pub record Balanced (cells bytes : List ℕ) (middle end : ℕ) (at : Balance) : Type 0 where
  pub first_inside : at.first ≤ middle
  pub second_after : middle ≤ at.second
  pub second_inside : at.second ≤ end
  pub low : most_weight ≤ at.lead
  pub high : at.lead ≤ 3 * most_weight
  pub even : (T : Presentation) (u v : Positive) → Stand cells bytes middle end T u v
      → weigh T (take at.first u) + even_lead ≡ weigh T (take (at.second - middle) v) + at.lead

-- the first letters of a word weigh no more than the whole
part_lighter : (T : Presentation) (u : Positive) (i : ℕ) → weigh T (take i u) ≤ weigh T u
part_lighter T u zero = omega arith
part_lighter T [] (suc i) = omega arith
part_lighter T (a ∷ u) (suc i) = omega (arith, part_lighter T u i)

-- and less where letters are left
part_less : (T : Presentation) (u : Positive) (i : ℕ) → i < length u → weigh T (take i u) < weigh T u
part_less T u i h = omega (arith, total_more (weight_of T) u i h, part_lighter T u (i + 1))

-- a letter of a word that stands in bytes, in any part of them
module _ (cells : List ℕ) (T : Presentation) (s : Stands cells T) (u : Positive) (named : All (InRange T.size) u) (i x : ℕ) (h : i < length u)
    (is : x ≡ get_or u i 0) where
  in_table : InRange T.size x
  in_table = subst (InRange T.size) (sym is) (all_at (InRange T.size) u i 0 named h)

  in_range : InRange most_size x
  in_range = record { low = in_table.low; high = omega (arith, in_table.high, s.few) }

  weight_light : suc (get_or cells (weight_at x) 0) ≤ 8
  weight_light = omega (arith, held_weight cells T s x in_table, light_letter cells T s x in_table)

  weight_more : weigh T (take (i + 1) u) ≡ weigh T (take i u) + suc (get_or cells (weight_at x) 0)
  weight_more = total_more (weight_of T) u i h ∙ ap (λ w. weigh T (take i u) + w) (ap (weight_of T) (sym is) ∙ sym (held_weight cells T s x in_table))

module _ (cells bytes : List ℕ) (middle end : ℕ) (T : Presentation) (u v : Positive) (s : Stand cells bytes middle end T u v) where
  first_long : length u ≡ middle
  first_long = ap length (sym s.u_is) ∙ length-take-le middle bytes (omega (arith, s.ordered, s.inside))

  second_long : length v ≡ end - middle
  second_long = ap length (sym s.v_is) ∙ length-take-le (end - middle) (drop middle bytes) (omega (arith, s.inside, length-drop middle bytes))

  first_letter : (i : ℕ) → i < middle → get_or bytes i 0 ≡ get_or u i 0
  first_letter i h = sym (get_or-take middle bytes i 0 h) ∙ ap (λ w. get_or w i 0) s.u_is

  second_letter : (j : ℕ) → middle ≤ j → j < end → get_or bytes j 0 ≡ get_or v (j - middle) 0
  second_letter j low h =
      ap (λ k. get_or bytes k 0) {x = j} {y = middle + (j - middle)} (omega (arith, low)) ∙ sym (get_or-drop middle bytes (j - middle) 0)
      ∙ sym (get_or-take (end - middle) (drop middle bytes) (j - middle) 0 (omega (arith, low, h))) ∙ ap (λ w. get_or w (j - middle) 0) s.v_is

  -- the next letter of each: a letter that a table can have, of a weight of at most 8, by which more is passed
  module _ (i : ℕ) (h : i < middle) where
    pub first_light : suc (get_or cells (weight_at (get_or bytes i 0)) 0) ≤ 8
    first_light = weight_light cells T s.stands u s.u_named i (get_or bytes i 0) (omega (arith, h, first_long)) (first_letter i h)

    pub first_more : weigh T (take (i + 1) u) ≡ weigh T (take i u) + suc (get_or cells (weight_at (get_or bytes i 0)) 0)
    first_more = weight_more cells T s.stands u s.u_named i (get_or bytes i 0) (omega (arith, h, first_long)) (first_letter i h)

  module _ (j : ℕ) (low : middle ≤ j) (h : j < end) where
    here : j - middle < length v
    here = omega (arith, h, low, second_long)

    pub second_range : InRange most_size (get_or bytes j 0)
    second_range = in_range cells T s.stands v s.v_named (j - middle) (get_or bytes j 0) here (second_letter j low h)

    pub second_light : suc (get_or cells (weight_at (get_or bytes j 0)) 0) ≤ 8
    second_light = weight_light cells T s.stands v s.v_named (j - middle) (get_or bytes j 0) here (second_letter j low h)

    pub second_more : weigh T (take (j + 1 - middle) v) ≡ weigh T (take (j - middle) v) + suc (get_or cells (weight_at (get_or bytes j 0)) 0)
    second_more =
        ap (λ k. weigh T (take k v)) {x = j + 1 - middle} {y = j - middle + 1} (omega (arith, low))
        ∙ weight_more cells T s.stands v s.v_named (j - middle) (get_or bytes j 0) here (second_letter j low h)

  pub second_next : (j : ℕ) → middle ≤ j → j < end → NextLetter cells bytes j
  second_next j low h = record { full = s.stands.full; inside = omega (arith, s.inside); letter = second_range j low h }

  -- what was gone through, with the lead of the first word beyond that of even weights
  module _ (i j lead : ℕ) (passed : weigh T (take i u) + even_lead ≡ weigh T (take (j - middle) v) + lead) where
    -- the first word is through, and as heavy as what was gone through of the second, which is through too
    pub weights_same : middle ≤ i → end ≤ j → lead ≡ even_lead → true ≡ eqb (weigh T u) (weigh T v)
    weights_same all both even =
        sym (eq-eqb (weigh T u) (weigh T v)
        (omega (
          arith,
          passed,
          even,
          ap (weigh T) (take_all i u (omega (arith, all, first_long))),
          ap (weigh T) (take_all (j - middle) v (omega (arith, both, second_long, s.ordered))),
        )))

    -- the first word is through, and lighter than what was gone through of the second, or the second goes on
    pub first_lighter : middle ≤ i → (lead < even_lead) → false ≡ eqb (weigh T u) (weigh T v)
    first_lighter all less = sym (ne_eqb (weigh T u) (weigh T v) (λ e. below e))
      where
        below : weigh T u ≡ weigh T v → ⊥
        below e = omega (arith, e, passed, less, ap (weigh T) (take_all i u (omega (arith, all, first_long))), part_lighter T v (j - middle))

    pub second_goes_on : middle ≤ i → lead ≡ even_lead → middle ≤ j → j < end → false ≡ eqb (weigh T u) (weigh T v)
    second_goes_on all even low more = sym (ne_eqb (weigh T u) (weigh T v) (λ e. below e))
      where
        below : weigh T u ≡ weigh T v → ⊥
        below e = omega (
          arith,
          e,
          passed,
          even,
          ap (weigh T) (take_all i u (omega (arith, all, first_long))),
          part_less T v (j - middle) (omega (arith, second_long, low, more)),
        )

    -- the second word is through, and lighter than what was gone through of the first
    pub second_lighter : end ≤ j → even_lead < lead → false ≡ eqb (weigh T u) (weigh T v)
    second_lighter both more = sym (ne_eqb (weigh T u) (weigh T v) (λ e. below e))
      where
        below : weigh T u ≡ weigh T v → ⊥
        below e = omega (arith, e, passed, more, ap (weigh T) (take_all (j - middle) v (omega (arith, both, second_long, s.ordered))), part_lighter T u i)

    -- the first word is through, and as heavy as what was gone through of the second
    pub even_ends : middle ≤ i → lead ≡ even_lead → middle ≤ j → j ≤ end → eqb j end ≡ eqb (weigh T u) (weigh T v)
    even_ends all even low high = go (dec_lt j end)
      where
        go : Dec (j < end) → eqb j end ≡ eqb (weigh T u) (weigh T v)
        go (yes more) = ne_eqb j end (λ e. omega (arith, e, more)) ∙ second_goes_on all even low more
        go (no through) = eq-eqb j end (omega (arith, through, high)) ∙ weights_same all (omega (arith, through)) even

-- a letter of the lighter word is passed: the two are in balance again
module _ (cells bytes : List ℕ) (middle end : ℕ) (two : TwoWords cells bytes middle end) (at : Balance) (b : Balanced cells bytes middle end at) where
  pub first_passed : (next w : ℕ) → at.first < middle → at.lead ≤ even_lead → next ≡ at.first + 1
      → w ≡ suc (get_or cells (weight_at (get_or bytes at.first 0)) 0)
      → Balanced cells bytes middle end (record { first = next; second = at.second; lead = at.lead + w })
  first_passed next w more low e is =
      let light = first_light cells bytes middle end two.0 two.1 two.2 two.3 at.first more in
      record {
        first_inside = omega arith;
        second_after = b.second_after;
        second_inside = b.second_inside;
        low = omega (arith, b.low);
        high = omega arith;
        even = λ T u v t.
            let passed = first_more cells bytes middle end T u v t at.first more in
            let whole = ap (λ n. weigh T (take n u)) e in
            omega (arith, b.even T u v t, passed, whole, is);
      }

  pub second_passed : (next w : ℕ) → at.second < end → even_lead < at.lead → next ≡ at.second + 1
      → w ≡ suc (get_or cells (weight_at (get_or bytes at.second 0)) 0)
      → Balanced cells bytes middle end (record { first = at.first; second = next; lead = at.lead - w })
  second_passed next w more high e is =
      let light = second_light cells bytes middle end two.0 two.1 two.2 two.3 at.second b.second_after more in
      record {
        first_inside = b.first_inside;
        second_after = omega (arith, b.second_after);
        second_inside = omega arith;
        low = omega arith;
        high = omega (arith, b.high);
        even = λ T u v t.
            let passed = second_more cells bytes middle end T u v t at.second b.second_after more in
            let whole = ap (λ n. weigh T (take (n - middle) v)) e in
            omega (arith, b.even T u v t, passed, whole, is, light);
      }
