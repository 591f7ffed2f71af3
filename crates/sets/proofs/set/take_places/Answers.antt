-- `sets::set::take_places` meets its contract: the places are gone through one after the other.
use Rattle.std.proofs.Common.{arith, length}
use Rattle.std.proofs.lemmas.Result.{err_from_is_err_and}
use Rattle.sets.proofs.Closing.{closing_begun, closing_closed, closing_end, closing_later, closing_ended, closing_more}
use Rattle.sets.proofs.set.take_places.Goals as goal

pub loop-at-init : goal.loop-at-init
loop-at-init c T vs s g = closing_begun T c.args.budget (length c.args.area.now) vs c.args.area.now c.args.first g

pub word_end-end-requires : goal.word_end-end-requires
word_end-end-requires c =
    let p = c.requires in
    closing_end (c.loop-at.invariant p.0 p.1 p.2 p.3) c.loop-at-test.true

pub take_place-requires : goal.take_place-requires
take_place-requires c =
    let p = c.requires in
    let k = c.loop-at.invariant p.0 p.1 p.2 p.3 in
    (p.0, k.words, k.place, closing_later k c.loop-at-test.true c.word_end-end.result c.word_end-end.ensures p.2)

pub returns-in_err-held-clause-grown : goal.returns-in_err-held-clause-grown
returns-in_err-held-clause-grown c T vs s g =
    let f = c.word_end-end in
    let e = c.in_err-held in
    let k = c.loop-at.invariant T vs s g in
    let p = err_from_is_err_and c.from_residual.result c.from_residual.ensures.1 in
    rw (p.1, p.2)
    (closing_ended k c.loop-at-test.true f.result f.ensures c.take_place.new.area c.loop-at.auto.area e.ensures.length e.field-0.0
    (e.ensures.taken T k.words k.place (closing_later k c.loop-at-test.true f.result f.ensures s)))

pub loop-at-preserved : goal.loop-at-preserved
loop-at-preserved c T vs s g =
    let f = c.word_end-end in
    let e = c.in_ok-held in
    let k = c.loop-at.invariant T vs s g in
    closing_more k c.loop-at-test.true f.result f.ensures c.take_place.new.area c.loop-at.auto.area e.ensures.length e.held
    (e.ensures.taken T k.words k.place (closing_later k c.loop-at-test.true f.result f.ensures s))

pub returns-clause-grown : goal.returns-clause-grown
returns-clause-grown c T vs s g = closing_closed (c.loop-at.invariant T vs s g) (omega arith)
