-- What a turn of the loop writes is a law of `Pushes`.
use Rattle.std.proofs.Common.{◌≡◌, ◌+◌, ◌-◌, ◌≤◌, arith, ap, take, drop, get_or}
use Rattle.engine.specs.Gap.{letters}
use Rattle.engine.proofs.Pushes.{pushed_as, word_down, word_none}
use Rattle.engine.proofs.step.push_word.Goals as goal

pub loop-next-init : goal.loop-next-init
loop-next-init c =
    let a = c.args in
    let count = get_or a.cells.now a.at 0 in
    let all : count - 0 ≡ count = omega arith in
    let none : 0 ≡ count - count = omega arith in (
      omega arith,
      omega arith,
      pushed_as (ap (λ k. letters (drop k (take count (drop (a.at + 1) a.cells.now)))) all) none
          (word_none a.cells.now (a.at + 1) count (omega arith) a.bytes.now a.right c.requires.inside c.requires.room),
    )

pub loop-next-preserved : goal.loop-next-preserved
loop-next-preserved c =
    let a = c.args in
    let l = c.loop-next in
    let count = get_or a.cells.now a.at 0 in
    let more : 1 ≤ l.i = omega arith in
    let letter_at : a.at + 1 + (l.i - 1) ≡ a.at + l.i = omega arith in (
      omega arith,
      omega arith,
      rw letter_at at (word_down a.cells.now (a.at + 1) count (omega arith) a.bytes.now a.right c.requires.inside c.requires.room l.bytes l.i l.next more
          l.invariant.0 l.invariant.1 l.invariant.2),
    )
