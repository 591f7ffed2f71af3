-- Each way out of a step is a law of `Stepping`.
use Rattle.std.proofs.Common.{arith}
use Rattle.engine.proofs.Stepping.{named, to_inside, from_inside, undefined_step, goes_on, no_room, fits, stepped}
use Rattle.engine.proofs.step.step.Goals as goal

pub cell_at-to-requires : goal.cell_at-to-requires
cell_at-to-requires c = named c.requires.site c.pair_at-pair.ensures c.requires.ready.0 c.requires.ready.1

pub cell_at-from-requires : goal.cell_at-from-requires
cell_at-from-requires c =
    let n = named c.requires.site c.pair_at-pair.ensures c.requires.ready.0 c.requires.ready.1 in
    (n.1, n.0)

pub bounds-cells-to : goal.bounds-cells-to
bounds-cells-to c = omega (arith, to_inside c.requires.site c.pair_at-pair.ensures c.requires.ready.0 c.requires.ready.1)

pub bounds-cells-from : goal.bounds-cells-from
bounds-cells-from c = omega (arith, from_inside c.requires.site c.pair_at-pair.ensures c.requires.ready.0 c.requires.ready.1)

pub returns-then-x-eq-UNDEFINED_LENGTH-clause-step : goal.returns-then-x-eq-UNDEFINED_LENGTH-clause-step
returns-then-x-eq-UNDEFINED_LENGTH-clause-step c T t =
    undefined_step c.requires.site c.pair_at-pair.ensures T t c.cell_at-to.ensures c.if-x-eq-UNDEFINED_LENGTH.true

pub returns-then-remaining-eq0-clause-step : goal.returns-then-remaining-eq0-clause-step
returns-then-remaining-eq0-clause-step c T t = (
  c.if-remaining-eq0.true,
  goes_on c.requires.site c.pair_at-pair.ensures T t c.cell_at-to.ensures c.cell_at-from.ensures c.if-x-eq-UNDEFINED_LENGTH.false,
)

pub returns-then-site-at-clause-step : goal.returns-then-site-at-clause-step
returns-then-site-at-clause-step c T t = (
  omega arith,
  no_room c.requires.site c.pair_at-pair.ensures T t c.cell_at-to.ensures c.cell_at-from.ensures c.if-x-eq-UNDEFINED_LENGTH.false c.if-site-at.true,
)

pub push_complements-right-requires : goal.push_complements-right-requires
push_complements-right-requires c =
    fits c.requires.site c.pair_at-pair.ensures c.requires.ready.0 c.requires.ready.1 c.cell_at-to.ensures c.cell_at-from.ensures
    c.if-x-eq-UNDEFINED_LENGTH.false c.if-site-at.false

pub returns-clause-step : goal.returns-clause-step
returns-clause-step c T t =
    let p = c.push_complements-right in (
      omega arith,
      stepped c.requires.site c.pair_at-pair.ensures T t c.cell_at-to.ensures c.cell_at-from.ensures c.if-x-eq-UNDEFINED_LENGTH.false p.new.bytes p.result
          p.ensures.place p.ensures.pushed c.if-site-at.false,
    )
