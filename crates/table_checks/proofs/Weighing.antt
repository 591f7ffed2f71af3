-- The weight of a side of a relation, from the cells: that of its first letter, then of one letter of the completion after the other.
use mathlib.Core.Path.{◌≡◌, sym, ap, subst, ◌∙◌}
use mathlib.Core.List.{List, ◌∷◌}
use Prim.Native.Nat.{ℕ, suc, ◌+◌, ◌-◌, ◌≤◌, ◌<◌}
use native.Mathlib.Omega.{arith}
use lib.ListN.{length, take, drop, get_or}
use lib.Seq.{take_all, get_or-take, get_or-drop}
use Rattle.model.specs.Word.{Positive}
use Rattle.model.specs.Presentation.{Presentation, complement, complete, weight_of, weigh}
use Rattle.model.specs.Range.{InRange}
use Rattle.model.proofs.Equiv.{total_more}
use Rattle.model.proofs.Lists.{all_at}
use Rattle.model.specs.Images.{most_size}
use Rattle.cells.specs.Layout.{Letters, cell_at, weight_at, cell_length}
use Rattle.cells.specs.Stands.{HoldsWord, HoldsFirst, Of}
use Rattle.cells.proofs.Rules.{Rule, inside, word_cell, held_weight, light_letter}
use Rattle.table_checks.specs.Table.{Related}

-- a letter of a part of the cells, as it is read from the part
pub part_letter : (cells : List ℕ) (from n k : ℕ) → k < n → get_or (take (from + n - from) (drop from cells)) k 0 ≡ get_or cells (from + k) 0
part_letter cells from n k h = get_or-take (from + n - from) (drop from cells) k 0 (omega arith) ∙ get_or-drop from cells k 0

-- the letter of a cell's word after so many
pub record Next (cells : List ℕ) (cell k : ℕ) : Type 0 where
  pub few : k < 15
  pub inside : cell + 1 + k < length cells
  pub letter : InRange most_size (get_or cells (cell + 1 + k) 0)
  pub light : suc (get_or cells (weight_at (get_or cells (cell + 1 + k) 0)) 0) ≤ 8

module _ (cells : List ℕ) (size : ℕ) (T : Presentation) (o : Of cells size T) (a b : ℕ) (r : Related cells size a b) where
  abbrev named : {c : ℕ} → InRange size c → InRange T.size c
  named {c} h = subst (λ n. InRange n c) (sym o.sized) h

  relation : Rule cells T a b
  relation = word_cell cells T o.stands a b (named r.first) (named r.second) r.defined

  -- the pair the other way round
  pub related_back : Related cells size b a
  related_back = record { first = r.second; second = r.first; defined = λ e. omega (arith, relation.from.count, relation.from.short) }

  pub letters : Letters a b
  letters = (
    record { low = r.first.low; high = omega (arith, (named r.first).high, o.stands.few) },
    record { low = r.second.low; high = omega (arith, (named r.second).high, o.stands.few) },
  )

  letter_held : {c : ℕ} → InRange size c → suc (get_or cells (weight_at c) 0) ≡ weight_of T c
  letter_held {c} h = held_weight cells T o.stands c (named h)

  pub letter_light : {c : ℕ} → InRange size c → suc (get_or cells (weight_at c) 0) ≤ 8
  letter_light {c} h = omega (arith, letter_held h, light_letter cells T o.stands c (named h))

  module _ (cell : ℕ) (at : cell ≡ cell_at a b) where
    cell_inside : cell + cell_length ≤ length cells
    cell_inside = omega (arith, at, inside cells T o.stands a b (named r.first) (named r.second))

    pub word_inside : cell + 1 + get_or cells cell 0 ≤ length cells
    word_inside = omega (arith, cell_inside, ap (λ i. get_or cells i 0) at, relation.to.count, relation.to.short)

    module _ (x y : Positive) (e : complete T a b ≡ complement x y) where
      completion : HoldsWord T.size cells cell x
      completion =
          subst (λ i. HoldsFirst T.size cells i (complement x y)) (sym at)
          (subst (HoldsFirst T.size cells (cell_at a b)) e (o.stands.cell a b (named r.first) (named r.second)))

      module _ (k : ℕ) (h : k < get_or cells cell 0) where
        here : k < length x
        here = omega (arith, h, completion.count)

        side_letter : InRange size (get_or cells (cell + 1 + k) 0)
        side_letter =
            subst (InRange size) (sym (completion.letters k here))
            (subst (λ n. InRange n (get_or x k 0)) o.sized (all_at (InRange T.size) x k 0 completion.in_range.letters here))

        -- one letter more
        pub side_more : weigh T (a ∷ take k x) + suc (get_or cells (weight_at (get_or cells (cell + 1 + k) 0)) 0) ≡ weigh T (a ∷ take (k + 1) x)
        side_more =
            let next : suc (get_or cells (weight_at (get_or cells (cell + 1 + k) 0)) 0) ≡ weight_of T (get_or x k 0) =
            letter_held side_letter ∙ ap (weight_of T) (completion.letters k here) in
            omega (arith, next, total_more (weight_of T) x k here)

      -- the first letter, and all of them
      pub side_begun : suc (get_or cells (weight_at a) 0) ≡ weigh T (a ∷ take 0 x)
      side_begun = omega (arith, letter_held r.first)

      pub side_whole : (k : ℕ) → get_or cells cell 0 ≤ k → weigh T (a ∷ take k x) ≡ weigh T (a ∷ x)
      side_whole k h = ap (λ l. weigh T (a ∷ l)) (take_all k x (omega (arith, h, completion.count)))

    pub side_next : (k : ℕ) → k < get_or cells cell 0 → Next cells cell k
    side_next k h =
        let w = completion relation.x relation.y relation.rule in
        let letter = side_letter relation.x relation.y relation.rule k h in
        let few : k < 15 = omega (arith, h, w.count, w.in_range.short) in
        record {
          few = few;
          inside = omega (arith, few, cell_inside);
          letter = record { low = letter.low; high = omega (arith, letter.high, o.sized, o.stands.few) };
          light = letter_light letter;
        }
