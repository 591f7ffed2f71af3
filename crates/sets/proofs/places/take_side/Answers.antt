-- `sets::places::take_side` meets its contract: the pairs are taken one after the other.
use Rattle.std.proofs.Common.{length, sym, ◌∙◌}
use Rattle.std.proofs.lemmas.Result.{err_from_is_err_and}
use Rattle.sets.specs.Places.{sided_pair, sided_count}
use Rattle.sets.proofs.Taking.{taking_begun, taking_end, taking_ended, taking_more, taking_done}
use Rattle.sets.proofs.PlacePairs.{sided_few, sided_on, sided_all, sided_paired}
use Rattle.sets.proofs.places.take_side.Goals as goal

pub loop-later-init : goal.loop-later-init
loop-later-init c T vs m w =
    let a = c.args in
    taking_begun T a.budget (length a.area.now) vs (sided_pair a.side m) (sided_count a.side m) a.area.now a.held w.growing

pub word_end-end-requires : goal.word_end-end-requires
word_end-end-requires c =
    let p = c.requires in
    let side = c.args.side in
    let k = c.loop-later.invariant p.0 p.1 p.2 p.3 in
    taking_end k (sided_few p.3 side) (sided_on p.3 side k (sym c.is_taken.ensures ∙ c.loop-later-test.true))

pub take_with-requires : goal.take_with-requires
take_with-requires c =
    let p = c.requires in
    let side = c.args.side in
    let k = c.loop-later.invariant p.0 p.1 p.2 p.3 in (
      p.0,
      k.words,
      sided_pair side p.2 k.passed,
      sided_paired p.3 side k (sym c.is_taken.ensures ∙ c.loop-later-test.true) c.word_end-end.ensures,
    )

pub returns-in_err-current-clause-taken : goal.returns-in_err-current-clause-taken
returns-in_err-current-clause-taken c T vs m w =
    let side = c.args.side in
    let on = sym c.is_taken.ensures ∙ c.loop-later-test.true in
    let k = c.loop-later.invariant T vs m w in
    let e = c.in_err-current in
    let p = err_from_is_err_and c.from_residual.result c.from_residual.ensures.1 in
    rw (p.1, p.2)
    (taking_ended k (sided_few w side) (sided_on w side k on) c.take_with.new.area c.loop-later.auto.area e.ensures.length e.field-0.0
    (e.ensures.taken T k.words (sided_pair side m k.passed) (sided_paired w side k on c.word_end-end.ensures)))

pub loop-later-preserved : goal.loop-later-preserved
loop-later-preserved c T vs m w =
    let side = c.args.side in
    let on = sym c.is_taken.ensures ∙ c.loop-later-test.true in
    let k = c.loop-later.invariant T vs m w in
    let e = c.in_ok-current in
    taking_more k (sided_few w side) (sided_on w side k on) c.take_with.new.area c.loop-later.auto.area e.ensures.length e.current
    (e.ensures.taken T k.words (sided_pair side m k.passed) (sided_paired w side k on c.word_end-end.ensures))
    c.word_end-end.result c.word_end-end.ensures

pub returns-clause-taken : goal.returns-clause-taken
returns-clause-taken c T vs m w =
    let side = c.args.side in
    let k = c.loop-later.invariant T vs m w in
    taking_done k (sided_few w side) (sided_all w side k (sym c.is_taken.ensures ∙ c.loop-later-test.false))
