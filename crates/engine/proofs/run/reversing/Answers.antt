-- Each way out of the loop is a law of `Progress`.
use Rattle.std.proofs.Common.{refl, sym, arith, ◌∙◌}
use Rattle.engine.proofs.Counting.{finished_front}
use Rattle.engine.proofs.Progress.{begun, final_inside, finishes, meets, stops, advances, count_within}
use Rattle.engine.proofs.run.reversing.Goals as goal

pub loop-end-init : goal.loop-end-init
loop-end-init c = begun c.args.cells.now c.args.bytes.now c.args.start.left c.args.start.right c.args.budget c.requires.searched

pub returns-in-Final-clause-run : goal.returns-in-Final-clause-run
returns-in-Final-clause-run c T t =
    let turn = c.advance-turn in
    let end = c.in-Final.end in
    let inside = final_inside c.loop-end.invariant turn.new.bytes turn.ensures.length end c.in-Final.ensures.turn T t in
    rw (c.finished.ensures ∙ finished_front turn.new.bytes end.left c.loop-end.steps c.loop-end.relations inside)
    (finishes c.loop-end.invariant turn.new.bytes turn.ensures.length end _ refl c.in-Final.ensures.turn T t)

pub returns-in-Undefined-clause-run : goal.returns-in-Undefined-clause-run
returns-in-Undefined-clause-run c =
    meets c.loop-end.invariant c.advance-turn.new.bytes c.advance-turn.ensures.length c.in-Undefined.pair c.in-Undefined.ensures.turn

pub returns-in-Stopped-clause-run : goal.returns-in-Stopped-clause-run
returns-in-Stopped-clause-run c =
    stops c.loop-end.invariant c.advance-turn.new.bytes c.advance-turn.ensures.length c.in-Stopped.stop c.in-Stopped.ensures.turn

pub loop-end-preserved : goal.loop-end-preserved
loop-end-preserved c =
    let l = c.loop-end in
    let step = c.in-Stepped in
    advances l.invariant c.advance-turn.new.bytes c.advance-turn.ensures.length step.next step.pair step.ensures.turn c.requires.ready.0
    c.requires.ready.1 c.counted-relations.result (sym c.counted-relations.ensures)
    (omega (arith, c.counted-relations.ensures, count_within step.pair.a step.pair.b l.relations))
