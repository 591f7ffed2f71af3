-- Each way on of the search is a law of `Seeking`.
use Rattle.std.proofs.Common.{◌≡◌, ◌<◌, length, arith}
use Rattle.engine.proofs.Seeking.{passes_first, passes_forward, passes_back, seeks_on, found_at, none_left}
use Rattle.engine.proofs.gap.seek.Goals as goal
use Rattle.engine.proofs.gap.seek.Goals.{else-next-lt-BACK-via-then-next-lt-BACK+then-left-gt0+else-bytes-left-ge-BACK}
use Rattle.engine.proofs.gap.seek.Goals.{else-next-lt-BACK-via-then-next-lt-BACK+else-left-gt0, else-next-lt-BACK-via-else-next-lt-BACK}

pub returns-then-bytes-left-ge-BACK-clause-sought : goal.returns-then-bytes-left-ge-BACK-clause-sought
returns-then-bytes-left-ge-BACK-clause-sought c =
    let l = c.loop-right in
    found_at l.bytes l.left l.right l.invariant.ordered (omega arith) l.invariant (omega arith) (omega arith) (omega arith)

pub loop-right-preserved : goal.loop-right-preserved
loop-right-preserved c =
    let l = c.loop-right in
    let more : l.right < length l.bytes = omega arith in
    let ordered = l.invariant.ordered in
    seeks_on l.bytes l.left l.right ordered more l.invariant
    (elim c.else-next-lt-BACK.branch [
      | else-next-lt-BACK-via-then-next-lt-BACK+then-left-gt0+else-bytes-left-ge-BACK w ↦
          passes_forward l.bytes l.left l.right ordered more w.if-left-gt0.true w.if-bytes-left-ge-BACK.false
      | else-next-lt-BACK-via-then-next-lt-BACK+else-left-gt0 w ↦ passes_first l.bytes l.left l.right ordered more w.if-left-gt0.false
      | else-next-lt-BACK-via-else-next-lt-BACK w ↦ passes_back l.bytes l.left l.right ordered more w.if-next-lt-BACK.false
    ])

pub returns-clause-sought : goal.returns-clause-sought
returns-clause-sought c =
    let e : c.loop-right.right ≡ length c.args.bytes.now = omega arith in
    rw (← e) (none_left c.loop-right.invariant (omega arith))
