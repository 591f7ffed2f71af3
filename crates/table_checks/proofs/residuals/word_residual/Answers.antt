-- The two words of the cells are loaded, and their reversing tells the residual.
use Rattle.std.proofs.Common.{ap, arith, get_or}
use Rattle.table_checks.proofs.Working.{under_works, under_long}
use Rattle.table_checks.proofs.CellWords.{cell_of, rule_of, short_cell, cell_inside, words_loaded, words_searched, words_served}
use Rattle.table_checks.proofs.residuals.word_residual.Goals as goal

pub returns-then-end-left-clause-works : goal.returns-then-end-left-clause-works
returns-then-end-left-clause-works c T t x x' y y' ex ey =
    let a = c.args in
    let p = a.triple in
    under_long T x y a.budget a.bytes.now
    (omega (
      arith,
      c.if-end-left.true,
      ap (λ i. get_or a.cells.now i 0) c.cell_at-to_b.ensures,
      ap (λ i. get_or a.cells.now i 0) c.cell_at-to_c.ensures,
      (cell_of t p.a p.b t.lettered.0 t.lettered.1.0 x x' ex).count,
      (cell_of t p.a p.c t.lettered.0 t.lettered.1.1.0 y y' ey).count,
    ))

pub push_inverse-requires : goal.push_inverse-requires
push_inverse-requires c =
    let p = c.args.triple in
    let t = c.requires.ready.1 in
    omega (
      arith,
      short_cell t p.a p.b t.lettered.0 t.lettered.1.0 c.requires.defined.0,
      cell_inside t p.a p.b t.lettered.0 t.lettered.1.0,
      ap (λ i. get_or c.args.cells.now i 0) c.cell_at-to_b.ensures,
    )

pub push_word-right-requires : goal.push_word-right-requires
push_word-right-requires c =
    let p = c.args.triple in
    let t = c.requires.ready.1 in
    omega (
      arith,
      short_cell t p.a p.c t.lettered.0 t.lettered.1.1.0 c.requires.defined.1,
      cell_inside t p.a p.c t.lettered.0 t.lettered.1.1.0,
      ap (λ i. get_or c.args.cells.now i 0) c.cell_at-to_c.ensures,
    )

pub reversing-requires-clause-searched : goal.reversing-requires-clause-searched
reversing-requires-clause-searched c =
    let p = c.args.triple in
    let t = c.requires.ready.1 in
    let x = rule_of t p.a p.b t.lettered.0 t.lettered.1.0 c.requires.defined.0 in
    let y = rule_of t p.a p.c t.lettered.0 t.lettered.1.1.0 c.requires.defined.1 in
    rw c.push_word-right.ensures.place
    (words_searched p.a p.b p.c c.cell_at-to_b.ensures c.cell_at-to_c.ensures c.push_inverse.ensures.pushed c.push_word-right.ensures.pushed
    c.if-end-left.false c.requires.ready.0 t.stands.few x.to y.to)

pub reversing-requires-clause-ready : goal.reversing-requires-clause-ready
reversing-requires-clause-ready c =
    let p = c.args.triple in
    let t = c.requires.ready.1 in
    let x = rule_of t p.a p.b t.lettered.0 t.lettered.1.0 c.requires.defined.0 in
    let y = rule_of t p.a p.c t.lettered.0 t.lettered.1.1.0 c.requires.defined.1 in (
      c.requires.ready.0,
      rw c.push_word-right.ensures.place
          (words_served p.a p.b p.c c.cell_at-to_b.ensures c.cell_at-to_c.ensures c.push_inverse.ensures.pushed c.push_word-right.ensures.pushed
          c.if-end-left.false c.requires.ready.0 t.stands.few x.to y.to t),
    )

pub returns-clause-works : goal.returns-clause-works
returns-clause-works c T t x x' y y' ex ey =
    let p = c.args.triple in
    let run = c.reversing in
    let place = c.push_word-right.ensures.place in
    let wx = cell_of t p.a p.b t.lettered.0 t.lettered.1.0 x x' ex in
    let wy = cell_of t p.a p.c t.lettered.0 t.lettered.1.1.0 y y' ey in
    let loaded = words_loaded p.a p.b p.c c.cell_at-to_b.ensures c.cell_at-to_c.ensures c.push_inverse.ensures.pushed c.push_word-right.ensures.pushed
    c.if-end-left.false T t.stands.few wx wy in
    let served = words_served p.a p.b p.c c.cell_at-to_b.ensures c.cell_at-to_c.ensures c.push_inverse.ensures.pushed c.push_word-right.ensures.pushed
    c.if-end-left.false T t.stands.few wx wy t in
    rw c.residual_of.ensures (under_works T x y c.args.budget run.new.bytes run.result (rw place loaded) (run.ensures.run T (rw place served)))
