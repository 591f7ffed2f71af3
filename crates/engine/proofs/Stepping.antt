-- The step at a site, from what the cells of its pair say: each way in which it ends.
use mathlib.Core.Path.{◌≡◌, refl, sym, ap, ap₂, ◌∙◌}
use mathlib.Core.List.{List, ◌++◌}
use Prim.Native.Nat.{ℕ, ◌+◌, ◌-◌, ◌≤◌, ◌<◌}
use native.Mathlib.Omega.{arith}
use lib.ListN.{length, take, drop, get_or}
use Rattle.model.specs.Word.{Positive, positive, inverse}
use Rattle.model.specs.Presentation.{Presentation}
use Rattle.model.specs.Reversing.{next, blocked}
use Rattle.engine.specs.Gap.{letters, word_at, AtLeftmost}
use Rattle.cells.specs.Layout.{cell_at, cell_length}
use Rattle.model.specs.Range.{InRange}
use Rattle.model.specs.Images.{most_size, most_length}
use Rattle.cells.proofs.Rules.{WordAt, Rule, inside, open_cell, word_cell}
use Rattle.cells.specs.Stands.{Serves}
use Rattle.engine.specs.Turn.{complements, complements_length, CellsFit, PairAt, Pushed, Steps, Outgrows, Goes}
use Rattle.engine.proofs.Lettering.{letters_positive}
use Rattle.engine.proofs.Pushes.{pushed_as}
use Rattle.engine.proofs.AtGap.{a_named, b_named, blocked_here, goes, outgrows, steps}

-- the letters of a cell's word
pub cell_letters_lem : {cells : List ℕ} {at n : ℕ} {x : Positive} → n ≤ most_size → WordAt cells at n x → (from count : ℕ) → from ≡ at + 1 → count ≡ length x
    → letters (take count (drop from cells)) ≡ positive x
cell_letters_lem {cells} {n} {x} few w from count e f =
    ap (λ i. letters (take i (drop from cells))) f
    ∙ (ap (λ i. letters (take (length x) (drop i cells))) e ∙ (ap letters w.word ∙ letters_positive n few x w.lettered))

module _ {cells bytes : List ℕ} {left right a b : ℕ} (h : AtLeftmost bytes left right) (pair : PairAt bytes (left - 1) right a b)
    (T : Presentation) (s : Serves cells (word_at bytes left right) T) where
  a_letter : InRange T.size a
  a_letter = a_named h pair T s.lettered

  b_letter : InRange T.size b
  b_letter = b_named h pair T s.lettered

  -- the pair's numbers and cells are in range
  pub named : InRange most_size a × InRange most_size b
  named = (
    record { low = a_letter.low; high = omega (arith, a_letter.high, s.stands.few) },
    record { low = b_letter.low; high = omega (arith, b_letter.high, s.stands.few) },
  )

  pub to_inside : cell_at a b + cell_length ≤ length cells
  to_inside = inside cells T s.stands a b a_letter b_letter

  pub from_inside : cell_at b a + cell_length ≤ length cells
  from_inside = inside cells T s.stands b a b_letter a_letter

  module _ {to : ℕ} (et : to ≡ cell_at a b) where
    pub undefined_step : get_or cells to 0 ≡ 255 → next T (word_at bytes left right) ≡ blocked a b
    undefined_step e =
        blocked_here h pair T s.lettered
        (open_cell cells T s.stands a b a_letter b_letter (ap (λ i. get_or cells i 0) (sym et) ∙ e))

    module _ {from : ℕ} (ef : from ≡ cell_at b a) (there : get_or cells to 0 ≡ 255 → ⊥) where
      rule : Rule cells T a b
      rule = word_cell cells T s.stands a b a_letter b_letter (λ e. there (ap (λ i. get_or cells i 0) et ∙ e))

      to_count : get_or cells to 0 ≡ length rule.x
      to_count = ap (λ i. get_or cells i 0) et ∙ rule.to.count

      from_count : get_or cells from 0 ≡ length rule.y
      from_count = ap (λ i. get_or cells i 0) ef ∙ rule.from.count

      pub to_short : get_or cells to 0 ≤ most_length
      to_short = omega (arith, to_count, rule.to.short)

      pub from_short : get_or cells from 0 ≤ most_length
      from_short = omega (arith, from_count, rule.from.short)

      pub goes_on : Goes T (word_at bytes left right)
      goes_on = goes h pair T s.lettered rule.x rule.y rule.rule

      pub no_room : right + 1 - (left - 1) < complements_length cells to from → Outgrows T (word_at bytes left right) (length bytes)
      no_room long =
          outgrows h pair T s.lettered rule.x rule.y rule.rule (omega (arith, to_count, from_count))

      pub fits : complements_length cells to from ≤ right + 1 - (left - 1) → CellsFit cells to from bytes (right + 1)
      fits room =
          record {
            to_held = omega (arith, to_inside, et, to_short);
            from_held = omega (arith, from_inside, ef, from_short);
            room = omega arith;
            inside = omega (arith, h.some_after);
          }

      pub stepped : (last : List ℕ) (end : ℕ) → end ≡ right + 1 - complements_length cells to from
          → Pushed (complements cells to from) bytes (right + 1) (complements_length cells to from) last
          → complements_length cells to from ≤ right + 1 - (left - 1) → Steps T (word_at bytes left right) last (left - 1) end a b
      stepped last end e p room =
          let x = cell_letters_lem s.stands.few rule.to (to + 1) (get_or cells to 0) (ap (λ i. i + 1) et) to_count in
          let y = cell_letters_lem s.stands.few rule.from (from + 1) (get_or cells from 0) (ap (λ i. i + 1) ef) from_count in
          rw e
          (steps h pair T s.lettered rule.x rule.y rule.rule (complements_length cells to from) last
          (pushed_as (ap₂ (λ u v. u ++ inverse v) x y) refl p) room rule.to.lettered rule.from.lettered)
