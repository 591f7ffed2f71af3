-- The pairs of the bobbins before p, and those of p before q.
use Rattle.std.proofs.Common.{◌-◌, arith}
use Rattle.model.proofs.Positions.{rows_product, placed, pairs_few}
use Rattle.bed.proofs.moves.pair_index.Goals as goal

pub returns : goal.returns
returns c =
    let a = c.args in
    let p = placed a.places a.p a.q c.requires.1 c.requires.2 c.requires.0 in
    omega (arith, rows_product a.places (a.p - 1) (omega arith), p.at_is, p.inside, pairs_few a.places c.requires.3)
