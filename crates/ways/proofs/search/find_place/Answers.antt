-- `ways::search::find_place` meets its contract: the word that has the middle byte halves the bytes in question.
use Rattle.std.proofs.Common.{arith, length, ◌+◌, ◌-◌, ◌/◌}
use Rattle.ways.proofs.Spelling.{between_all, between_none, step_ends, step_inside, step_same, step_earlier, step_later}
use Rattle.ways.proofs.search.find_place.Goals as goal

pub loop-low-init : goal.loop-low-init
loop-low-init c =
    let a = c.args in (
      omega arith,
      c.requires.1.fits,
      λ ms h. between_all a.listed.now (length a.listed.now) ms h a.new.now,
    )

pub word_end-end-requires : goal.word_end-end-requires
word_end-end-requires c =
    let a = c.args in
    let l = c.loop-low in
    let g = c.requires in
    step_ends a.listed.now (length a.listed.now) g.0 g.1 a.new.now l.low l.high (l.low + (l.high - l.low) / 2)
    (l.invariant.2 g.0 g.1) (omega arith) (omega arith)

pub returns-in-Equal : goal.returns-in-Equal
returns-in-Equal c ms h =
    let a = c.args in
    let l = c.loop-low in
    let m = c.in-Equal.ensures in
    step_same a.listed.now (length a.listed.now) ms h a.new.now l.low l.high (l.low + (l.high - l.low) / 2)
    (l.invariant.2 ms h) (omega arith) (omega arith) c.word_start-start.result c.word_end-end.result c.word_start-start.ensures
    c.word_end-end.ensures m.0 m.1

pub loop-low-preserved-in-Less : goal.loop-low-preserved-in-Less
loop-low-preserved-in-Less c =
    let a = c.args in
    let l = c.loop-low in (
      c.word_start-start.ensures.after,
      omega arith,
      λ ms h. step_earlier a.listed.now (length a.listed.now) ms h a.new.now l.low l.high (l.low + (l.high - l.low) / 2)
          (l.invariant.2 ms h) (omega arith) (omega arith) c.word_start-start.result c.word_end-end.result c.word_start-start.ensures
          c.word_end-end.ensures c.in-Less.ensures,
    )

pub loop-low-preserved : goal.loop-low-preserved
loop-low-preserved c =
    let a = c.args in
    let l = c.loop-low in
    let g = c.requires in
    let v = a.new.now in (
      step_inside a.listed.now (length a.listed.now) g.0 g.1 v l.low l.high (l.low + (l.high - l.low) / 2)
          (l.invariant.2 g.0 g.1) (omega arith) (omega arith) c.word_start-start.result c.word_end-end.result c.word_start-start.ensures
          c.word_end-end.ensures,
      l.invariant.1,
      λ ms h. step_later a.listed.now (length a.listed.now) ms h v l.low l.high (l.low + (l.high - l.low) / 2)
          (l.invariant.2 ms h) (omega arith) (omega arith) c.word_start-start.result c.word_end-end.result c.word_start-start.ensures
          c.word_end-end.ensures c.in-Greater.ensures,
    )

pub returns : goal.returns
returns c ms h =
    let a = c.args in
    let l = c.loop-low in
    between_none a.listed.now (length a.listed.now) ms h a.new.now l.low l.high (l.invariant.2 ms h) c.loop-low-test.false
