-- `sets::places::take_place` meets its contract: the pairs of one side, then those of the other.
use Rattle.std.proofs.lemmas.Result.{err_from_is_err_and}
use Rattle.sets.proofs.PlacePairs.{place_ended, place_half, place_taken}
use Rattle.sets.proofs.places.take_place.Goals as goal

pub take_side-requires-2 : goal.take_side-requires-2
take_side-requires-2 c =
    let a = c.args in
    let e = c.in_ok-next in
    place_half a.cells.now a.area.now a.held a.later a.budget c.take_side.new.area e.ensures.length e.ensures.taken c.requires

pub returns-in_err-next-clause-taken : goal.returns-in_err-next-clause-taken
returns-in_err-next-clause-taken c =
    let a = c.args in
    let e = c.in_err-next in
    let p = err_from_is_err_and c.from_residual.result c.from_residual.ensures.1 in
    rw (p.1, p.2) (place_ended a.cells.now a.area.now a.held a.later a.budget c.take_side.new.area e.ensures.length e.field-0.0 e.ensures.taken)

pub returns-clause-taken : goal.returns-clause-taken
returns-clause-taken c =
    let a = c.args in
    let e = c.in_ok-next in
    place_taken a.cells.now a.area.now a.held a.later a.budget c.take_side.new.area e.ensures.length e.ensures.taken
    c.take_side-2.new.area c.take_side-2.result c.take_side-2.ensures.taken
