-- The pair in its order, or turned.
use Rattle.std.proofs.Common.{◌∙◌, arith}
use Rattle.model.specs.Enumeration.{pairs}
use Rattle.model.proofs.Positions.{position_turned, position_few}
use Rattle.bed.proofs.moves.total_index.Goals as goal

pub returns-then-x-y : goal.returns-then-x-y
returns-then-x-y c =
    let a = c.args in
    let e = c.pair_index.ensures in
    (e, omega (arith, e, position_few a.places a.x a.y c.requires.0 c.requires.1 c.requires.2 c.requires.3))

pub returns : goal.returns
returns c =
    let a = c.args in
    let e = c.pair_index-2.ensures ∙ position_turned a.y a.x (pairs a.places) in
    (e, omega (arith, e, position_few a.places a.x a.y c.requires.0 c.requires.1 c.requires.2 c.requires.3))
