-- A pair's relation as the code enters it: its two sides in the cells of the table, the letters in which they end, and what comes of the pair.
use mathlib.Core.Path.{◌≡◌, sym, ap, subst, ◌∙◌}
use mathlib.Core.Logic.{◌≢◌}
use mathlib.Core.Bool.{true, false}
use mathlib.Core.List.{List}
use Prim.Native.Nat.{ℕ}
use native.Mathlib.Omega.{arith}
use lib.ListN.{get_or}
use Rattle.model.specs.Word.{Positive}
use Rattle.model.specs.Presentation.{Presentation, complement, swapped, complete}
use Rattle.model.specs.Range.{InRange}
use Rattle.model.specs.Mirror.{from_end}
use Rattle.model.proofs.Complete.{complete_turn}
use Rattle.model.proofs.Mirrors.{last_named}
use Rattle.cells.specs.Layout.{Letters, cell_at}
use Rattle.cells.specs.Stands.{HoldsWord, HoldsFirst, Stands, Filled}
use Rattle.cells.proofs.Rules.{inside, open_cell, word_cell}
use Rattle.mirrors.specs.Sides.{Short, EndsIn, PutBackward}
use Rattle.mirrors.specs.Mirror.{PairDone}
use Rattle.mirrors.proofs.Building.{wide, pair_open, pair_ends_alike, pair_taken, pair_entered}

-- both sides of the relation
record Relation (cells : List ℕ) (T : Presentation) (a b : ℕ) : Type 0 where
  x : Positive
  y : Positive
  rule : complete T a b ≡ complement x y
  there : HoldsWord T.size cells (cell_at a b) x
  back : HoldsWord T.size cells (cell_at b a) y

relation : (cells : List ℕ) (T : Presentation) → Stands cells T → (a b : ℕ) → InRange T.size a → InRange T.size b → (get_or cells (cell_at a b) 0 ≡ 255 → ⊥)
    → Relation cells T a b
relation cells T s a b ra rb defined =
    let w = word_cell cells T s a b ra rb defined in
    record {
      x = w.x;
      y = w.y;
      rule = w.rule;
      there = subst (HoldsFirst T.size cells (cell_at a b)) w.rule (s.cell a b ra rb);
      back = subst (HoldsFirst T.size cells (cell_at b a)) (complete_turn T a b ∙ ap swapped w.rule) (s.cell b a rb ra);
    }

-- an open pair
pub open_done : (cells : List ℕ) (a b there : ℕ) → there ≡ cell_at a b → get_or cells there 0 ≡ 255 → (mirror : List ℕ) → PairDone cells a b mirror mirror true
open_done cells a b there e unset mirror T s ra rb rest h =
    pair_open T s.few a b rest mirror h (open_cell cells T s a b ra rb (ap (λ i. get_or cells i 0) (sym e) ∙ unset))

-- a pair with a relation, whose two sides lie in the cells `there` and `back`
module _ {cells : List ℕ} {a b there back : ℕ} (there_is : there ≡ cell_at a b) (back_is : back ≡ cell_at b a) (defined : get_or cells there 0 ≡ 255 → ⊥) where
  related : (T : Presentation) → Stands cells T → InRange T.size a → InRange T.size b → Relation cells T a b
  related T s ra rb = relation cells T s a b ra rb (λ e. defined (ap (λ i. get_or cells i 0) there_is ∙ e))

  module _ (f : Filled cells a b) where
    sides : Relation cells f.table a b
    sides = related f.table f.stands f.a_names f.b_names

    pub short_there : Short cells there
    short_there =
        subst (Short cells) (sym there_is)
        (record {
          inside = inside cells f.table f.stands a b f.a_names f.b_names;
          few = omega (arith, sides.there.count, sides.there.in_range.short);
        })

    pub short_back : Short cells back
    short_back =
        subst (Short cells) (sym back_is)
        (record {
          inside = inside cells f.table f.stands b a f.b_names f.a_names;
          few = omega (arith, sides.back.count, sides.back.in_range.short);
        })

  -- the letters in which they end
  module _ {p q : ℕ} (p_ends : EndsIn cells a there p) (q_ends : EndsIn cells b back q) where
    module _ (T : Presentation) (s : Stands cells T) (ra : InRange T.size a) (rb : InRange T.size b) where
      abbrev r : Relation cells T a b
      r = related T s ra rb

      p_is : p ≡ (from_end a r.x).last
      p_is = p_ends T.size r.x (subst (λ i. HoldsWord T.size cells i r.x) (sym there_is) r.there)

      q_is : q ≡ (from_end b r.y).last
      q_is = q_ends T.size r.y (subst (λ i. HoldsWord T.size cells i r.y) (sym back_is) r.back)

      p_named : InRange T.size p
      p_named = subst (InRange T.size) (sym p_is) (last_named T.size a r.x ra r.there.in_range.letters)

      q_named : InRange T.size q
      q_named = subst (InRange T.size) (sym q_is) (last_named T.size b r.y rb r.back.in_range.letters)

    pub ends_named : Filled cells a b → Letters p q
    ends_named f = (
      wide f.stands.few (p_named f.table f.stands f.a_names f.b_names),
      wide f.stands.few (q_named f.table f.stands f.a_names f.b_names),
    )

    pub alike_done : p ≡ q → (mirror : List ℕ) → PairDone cells a b mirror mirror false
    alike_done e mirror T s ra rb rest h =
        let w = related T s ra rb in
        pair_ends_alike T s.few a b rest mirror h w.x w.y w.rule p q (p_is T s ra rb) (q_is T s ra rb) e

    module _ (d : p ≢ q) (mirror : List ℕ) (to : ℕ) (to_is : to ≡ cell_at p q) where
      pub taken_done : (get_or mirror to 0 ≡ 255 → ⊥) → PairDone cells a b mirror mirror false
      taken_done n T s ra rb rest h =
          let w = related T s ra rb in
          pair_taken T s.few a b rest mirror h w.x w.y w.rule p q (p_is T s ra rb) (q_is T s ra rb) d (p_named T s ra rb) (q_named T s ra rb)
          (λ e. n (ap (λ i. get_or mirror i 0) to_is ∙ e))

      -- both words are put into their cells
      pub entered_done : get_or mirror to 0 ≡ 255 → (from : ℕ) → from ≡ cell_at q p → (mid after : List ℕ) → PutBackward cells a there mirror to mid
          → PutBackward cells b back mid from after
          → PairDone cells a b mirror after true
      entered_done free from from_is mid after first second T s ra rb rest h =
          let w = related T s ra rb in
          let one : PutBackward cells a (cell_at a b) mirror (cell_at p q) mid = rw (there_is, to_is) at first in
          let two : PutBackward cells b (cell_at b a) mid (cell_at q p) after = rw (back_is, from_is) at second in
          pair_entered T s.few a b rest mirror h w.x w.y w.rule p q (p_is T s ra rb) (q_is T s ra rb) d (p_named T s ra rb) (q_named T s ra rb)
          (ap (λ i. get_or mirror i 0) (sym to_is) ∙ free) mid after one.kept two.kept
          (one.holds T.size w.x ra w.there) (two.holds T.size w.y rb w.back)
