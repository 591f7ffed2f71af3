-- The letters of the cell's word are weighed one by one.
use Rattle.std.proofs.Common.{◌≡◌, ◌∙◌, ◌+◌, ◌<◌, ap, arith, suc, get_or}
use Rattle.cells.specs.Layout.{weight_at}
use Rattle.table_checks.proofs.Weighing.{part_letter, letter_light, word_inside, side_next, side_begun, side_more, side_whole}
use Rattle.table_checks.proofs.table.side_weight.Goals as goal

pub slice_bounds-x-items-end : goal.slice_bounds-x-items-end
slice_bounds-x-items-end c =
    let a = c.args in
    let o = c.requires.table in
    omega (arith, word_inside a.cells.now a.size o.0 o.1 a.a a.b c.requires.pair c.cell_at-cell.result c.cell_at-cell.ensures)

pub loop-x-init : goal.loop-x-init
loop-x-init c =
    let a = c.args in
    let o = c.requires.table in (
      omega (arith, letter_light a.cells.now a.size o.0 o.1 a.a a.b c.requires.pair c.requires.pair.first),
      λ T t x y e. c.letter_weight-weight.ensures
          ∙ side_begun a.cells.now a.size T t a.a a.b c.requires.pair c.cell_at-cell.result c.cell_at-cell.ensures x y e,
    )

pub letter_weight-weight-requires-in-loop-x-clause-letter : goal.letter_weight-weight-requires-in-loop-x-clause-letter
letter_weight-weight-requires-in-loop-x-clause-letter c =
    let a = c.args in
    let o = c.requires.table in
    let cell = c.cell_at-cell.result in
    rw (part_letter a.cells.now (cell + 1) (get_or a.cells.now cell 0) c.loop-x.x-index (omega arith))
    (side_next a.cells.now a.size o.0 o.1 a.a a.b c.requires.pair cell c.cell_at-cell.ensures c.loop-x.x-index (omega arith)).letter

pub loop-x-preserved : goal.loop-x-preserved
loop-x-preserved c =
    let a = c.args in
    let o = c.requires.table in
    let cell = c.cell_at-cell.result in
    let k = c.loop-x.x-index in
    let h : k < get_or a.cells.now cell 0 = omega arith in
    let next = side_next a.cells.now a.size o.0 o.1 a.a a.b c.requires.pair cell c.cell_at-cell.ensures k h in
    let read = part_letter a.cells.now (cell + 1) (get_or a.cells.now cell 0) k h in
    let weight : c.letter_weight-weight-in-loop-x.result ≡ suc (get_or a.cells.now (weight_at (get_or a.cells.now (cell + 1 + k) 0)) 0) =
    c.letter_weight-weight-in-loop-x.ensures ∙ ap (λ x. suc (get_or a.cells.now (weight_at x) 0)) read in (
      omega (arith, next.light),
      λ T t x y e. omega (
        arith,
        c.loop-x.invariant.1 T t x y e,
        side_more a.cells.now a.size T t a.a a.b c.requires.pair cell c.cell_at-cell.ensures x y e k h,
      ),
    )

pub returns : goal.returns
returns c T t x y e =
    let a = c.args in
    c.loop-x.invariant.1 T t x y e
    ∙ side_whole a.cells.now a.size T t a.a a.b c.requires.pair c.cell_at-cell.result c.cell_at-cell.ensures x y e c.loop-x.x-index (omega arith)
