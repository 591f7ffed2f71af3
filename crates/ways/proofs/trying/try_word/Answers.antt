-- `ways::trying::try_word` meets its contract: the places are tried one after the other.
use Rattle.std.proofs.Common.{arith}
use Rattle.ways.specs.State.{list_of}
use Rattle.ways.proofs.Trials.{places_begun, places_more, places_whole}
use Rattle.ways.proofs.trying.try_word.Goals as goal

pub loop-offset-init : goal.loop-offset-init
loop-offset-init c g t = places_begun g c.args.area.now c.args.held t

pub try_place-requires : goal.try_place-requires
try_place-requires c =
    let g = c.requires.0 in
    let t = c.requires.1 in
    let p = c.loop-offset.invariant g t in
    ((g, p.busy), omega (arith, t.letters_is, p.busy.letters_is))

pub returns-in_err-now-clause-tried : goal.returns-in_err-now-clause-tried
returns-in_err-now-clause-tried c g t = rw c.from_residual.ensures (c.in_err-now.ensures.tried g (c.loop-offset.invariant g t).busy)

pub loop-offset-preserved : goal.loop-offset-preserved
loop-offset-preserved c g t =
    let l = c.loop-offset in
    let p = l.invariant g t in
    places_more g (list_of t) l.offset l.area c.try_place.new.area l.now c.in_ok-now.now p (c.in_ok-now.ensures.tried g p.busy)

pub returns-clause-tried : goal.returns-clause-tried
returns-clause-tried c g t =
    let l = c.loop-offset in
    let p = l.invariant g t in
    places_whole g (list_of t) l.offset l.area l.now (omega (arith, t.letters_is, p.busy.letters_is)) p
