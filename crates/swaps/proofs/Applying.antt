-- An entry applied to the word in the area: why it breaks the chain, and the word that it leads to.
use mathlib.Core.Path.{◌≡◌, refl, sym, ap, ap₂, ◌∙◌}
use mathlib.Core.List.{List, [], ◌∷◌, ◌++◌}
use mathlib.Core.Bool.{Bool, true, false, cond}
use mathlib.Core.Option.{none, some}
use Prim.Native.Nat.{ℕ, zero, suc, ◌+◌, ◌-◌, ◌≤◌, ◌<◌}
use native.Mathlib.Omega.{arith}
use borrow.Author.Tests.{eq-eqb, ne_eqb}
use native.Mathlib.Decide.{ℕ_discrete}
use lib.ListN.{length, take, drop, get_or, length-append, length-take, length-drop}
use lib.Seq.{drop-drop, drop_at, take_at, length-take-le}
use Rattle.model.specs.Word.{Positive}
use Rattle.model.specs.Presentation.{Presentation, Complement, undefined, complement, complete}
use Rattle.model.specs.Equivalence.{Entry, equal, related, applied}
use Rattle.cells.specs.Layout.{cell_at}
use Rattle.model.specs.Range.{InRange}
use Rattle.cells.specs.Stands.{Stands}
use Rattle.cells.proofs.Rules.{Rule, open_cell, word_cell}
use Rattle.model.proofs.Impossible.{impossible}
use Rattle.model.specs.Images.{most_length}
use Rattle.swaps.proofs.Comparing.{lengths_differ}
use Rattle.swaps.specs.Held.{held_at, Placed}
use Rattle.swaps.specs.Entry.{ReplaceMeans, AppliedAs}
use Rattle.std.specs.Prelude.{Result, Ok, Err}
use Rattle.engine.specs.declared.gap.Gap.{Gap}
use Rattle.swaps.specs.declared.entry.Unfit.{Unfit}
use Rattle.swaps.specs.declared.entry.Unfit.TheVariants.{Breaks, Short}

drop_past : (u : Positive) (n : ℕ) → length u ≤ n → drop n u ≡ []
drop_past [] zero h = refl
drop_past [] (suc n) h = refl
drop_past (x ∷ u) zero h = absurd (omega arith)
drop_past (x ∷ u) (suc n) h = drop_past u n (omega arith)

pub held_length : (bytes : List ℕ) (left right : ℕ) → Placed bytes left right → length (held_at bytes left right) ≡ left + (length bytes - right)
unfolding held_at
held_length bytes left right p = simp (length-append, length-take, length-drop) (omega (arith, p.ordered, p.inside))

module _ (T : Presentation) (u : Positive) (e : Entry) where
  pub same_breaks : e.a ≡ e.b → applied T u e ≡ none
  unfolding applied
  same_breaks h = ap (λ t. cond t none (related u e (complete T e.a e.b))) (eq-eqb e.a e.b h)

  module _ (apart : e.a ≡ e.b → ⊥) where
    applied_is : (m : Complement) → complete T e.a e.b ≡ m → applied T u e ≡ related u e m
    unfolding applied
    applied_is m h =
        ap (λ t. cond t none (related u e (complete T e.a e.b))) (ne_eqb e.a e.b apart) ∙ ap (related u e) h

    module _ (cells : List ℕ) (s : Stands cells T) (ra : InRange T.size e.a) (rb : InRange T.size e.b) (to : ℕ) (et : to ≡ cell_at e.a e.b)
      where
        pub open_breaks : get_or cells to 0 ≡ 255 → applied T u e ≡ none
        open_breaks h = applied_is undefined (open_cell cells T s e.a e.b ra rb (ap (λ i. get_or cells i 0) (sym et) ∙ h))

        module _ (h : get_or cells to 0 ≡ 255 → ⊥) where
          abbrev pub rule : Rule cells T e.a e.b
          rule = word_cell cells T s e.a e.b ra rb (λ g. h (ap (λ i. get_or cells i 0) et ∙ g))

          abbrev x : Positive
          x = rule.x

          abbrev y : Positive
          y = rule.y

          tested : (side : List ℕ) → drop e.offset u ≡ side
              → applied T u e ≡ cond (equal (take (suc (length x)) side) (e.a ∷ x))
              (some (take e.offset u ++ ((e.b ∷ y) ++ drop (e.offset + suc (length x)) u))) none
          tested side p =
              applied_is (complement x y) rule.rule
              ∙ ap (λ l. cond (equal (take (suc (length x)) l) (e.a ∷ x)) (some (take e.offset u ++ ((e.b ∷ y) ++ drop (e.offset + suc (length x)) u)))
              none) p

          pub past_breaks : length u < e.offset → applied T u e ≡ none
          past_breaks g = tested [] (drop_past u e.offset (omega arith))

          to_count : get_or cells to 0 ≡ length x
          to_count = ap (λ i. get_or cells i 0) et ∙ rule.to.count

          pub side_fits : (to + 1 + get_or cells to 0 ≤ length cells) × (get_or cells to 0 ≤ most_length)
          side_fits = (
            omega (arith, to_count, rule.to.short, et, s.full, s.few, ra.high, rb.high, ra.low, rb.low),
            omega (arith, to_count, rule.to.short),
          )

          module _ (back : ℕ) (eb : back ≡ cell_at e.b e.a) where
            back_count : get_or cells back 0 ≡ length y
            back_count = ap (λ i. get_or cells i 0) eb ∙ rule.from.count

            pub other_fits : (back + 1 + get_or cells back 0 ≤ length cells) × (get_or cells back 0 ≤ most_length)
            other_fits = (
              omega (arith, back_count, rule.from.short, eb, s.full, s.few, ra.high, rb.high, ra.low, rb.low),
              omega (arith, back_count, rule.from.short),
            )

            module _ (bytes : List ℕ) (right : ℕ) (p : Placed bytes e.offset right) (held : held_at bytes e.offset right ≡ u) where
              offset_fits : length (take e.offset bytes) ≡ e.offset
              offset_fits = length-take-le e.offset bytes (omega (arith, p.ordered, p.inside))

              behind : drop e.offset u ≡ drop right bytes
              unfolding held_at
              behind = ap (drop e.offset) (sym held) ∙ drop_at (take e.offset bytes) (drop right bytes) e.offset offset_fits

              front : take e.offset u ≡ take e.offset bytes
              unfolding held_at
              front = ap (take e.offset) (sym held) ∙ take_at (take e.offset bytes) (drop right bytes) e.offset offset_fits

              -- the side that the cells hold stands there
              abbrev pub Fits : Bool
              Fits = equal (take (1 + get_or cells to 0) (drop right bytes)) (e.a ∷ take (get_or cells to 0) (drop (to + 1) cells))

              -- the word with the other side in its place
              abbrev pub made : Positive
              made = take e.offset bytes ++ ((e.b ∷ take (get_or cells back 0) (drop (back + 1) cells)) ++ drop (right + (1 + get_or cells to 0)) bytes)

              side_is : take (get_or cells to 0) (drop (to + 1) cells) ≡ x
              side_is = ap (λ i. take (get_or cells i 0) (drop (i + 1) cells)) et
                  ∙ (ap (λ n. take n (drop (cell_at e.a e.b + 1) cells)) rule.to.count ∙ rule.to.word)

              other_is : take (get_or cells back 0) (drop (back + 1) cells) ≡ y
              other_is = ap (λ i. take (get_or cells i 0) (drop (i + 1) cells)) eb
                  ∙ (ap (λ n. take n (drop (cell_at e.b e.a + 1) cells)) rule.from.count ∙ rule.from.word)

              rest_is : drop (e.offset + suc (length x)) u ≡ drop (right + (1 + get_or cells to 0)) bytes
              rest_is =
                  let n : right + suc (length x) ≡ right + (1 + get_or cells to 0) = omega (arith, to_count) in
                  sym (drop-drop (suc (length x)) e.offset u)
                  ∙ (ap (drop (suc (length x))) behind ∙ (drop-drop (suc (length x)) right bytes ∙ ap (λ i. drop i bytes) n))

              made_is : take e.offset u ++ ((e.b ∷ y) ++ drop (e.offset + suc (length x)) u) ≡ made
              made_is = ap₂ (λ f l. f ++ l) front (ap₂ (λ w l. (e.b ∷ w) ++ l) (sym other_is) rest_is)

              applied_there : applied T u e ≡ cond Fits (some made) none
              applied_there =
                  let n : suc (length x) ≡ 1 + get_or cells to 0 = omega (arith, to_count) in
                  tested (drop right bytes) behind
                  ∙ (ap (λ w. cond (equal (take (suc (length x)) (drop right bytes)) (e.a ∷ x)) (some w) none) made_is
                  ∙ ap₂ (λ i w. cond (equal (take i (drop right bytes)) (e.a ∷ w)) (some made) none) n (sym side_is))

              pub no_fit_breaks : Fits ≡ false → applied T u e ≡ none
              no_fit_breaks f = applied_there ∙ ap (λ t. cond t (some made) none) f

              pub fit_makes : Fits ≡ true → applied T u e ≡ some made
              fit_makes f = applied_there ∙ ap (λ t. cond t (some made) none) f

              pub fit_leads : Fits ≡ true → (after : List ℕ) → length after ≡ length bytes → (r : Result Gap Unfit)
                  → ReplaceMeans bytes e.offset (right + (1 + get_or cells to 0)) e.b (take (get_or cells back 0) (drop (back + 1) cells)) after r
                  → AppliedAs T u e after r
              fit_leads f after n (Ok g) q =
                  record { placed = q.placed; leads = fit_makes f ∙ ap some (sym q.word_is) }
              fit_leads f after n (Err Breaks) q = absurd q
              fit_leads f after n (Err Short) q = record { longer = made; leads = fit_makes f; long = omega (arith, n, q) }

-- a side that fits stands whole in the area
pub fitting : (xs ys : List ℕ) → equal xs ys ≡ true → length xs ≡ length ys
fitting xs ys f = go (ℕ_discrete (length xs) (length ys))
  where
    go : Dec (length xs ≡ length ys) → length xs ≡ length ys
    go (yes q) = q
    go (no q) = let g = lengths_differ xs ys q in absurd (let z : ◌≡◌ {A = Bool} true false = sym f ∙ g in impossible (cc))

pub fit_inside : (bytes : List ℕ) (right a : ℕ) (word : List ℕ) (n : ℕ) → length word ≡ n → right ≤ length bytes
    → equal (take (1 + n) (drop right bytes)) (a ∷ word) ≡ true
    → right + (1 + n) ≤ length bytes
fit_inside bytes right a word n l i f =
    let g : length (take (1 + n) (drop right bytes)) ≡ suc (length word) = fitting (take (1 + n) (drop right bytes)) (a ∷ word) f in
    let h : length (take (1 + n) (drop right bytes)) ≤ length bytes - right = simp (length-take, length-drop) (omega arith) in
    omega (arith, g, h, l)
