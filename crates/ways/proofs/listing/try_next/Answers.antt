-- `ways::listing::try_next` meets its contract: the word is tried, and its mark, which is in the area, is changed.
use Rattle.std.proofs.Common.{arith}
use Rattle.ways.specs.State.{list_of}
use Rattle.ways.proofs.Tasks.{work_on, next_word, next_busy, next_state, mark_inside}
use Rattle.ways.proofs.listing.try_next.Goals as goal

pub try_word-requires : goal.try_word-requires
try_word-requires c =
    let p = c.requires in (
      work_on p.task (next_word p.task _ _ p.count p.state _ p.inside p.found) p.count,
      next_busy p.task _ _ p.count p.state _ p.inside p.found _ c.word_start-word.ensures,
    )

pub overflow_add-mark : goal.overflow_add-mark
overflow_add-mark c =
    let p = c.requires in
    let g = work_on p.task (next_word p.task _ _ p.count p.state _ p.inside p.found) p.count in
    let b = next_busy p.task _ _ p.count p.state _ p.inside p.found _ c.word_start-word.ensures in
    let q = c.in_ok-next.ensures.tried g b in
    omega (arith, mark_inside g (list_of b) _ _ q, q.busy.sound.spells.fits)

pub bounds-area-mark : goal.bounds-area-mark
bounds-area-mark c =
    let p = c.requires in
    let g = work_on p.task (next_word p.task _ _ p.count p.state _ p.inside p.found) p.count in
    let b = next_busy p.task _ _ p.count p.state _ p.inside p.found _ c.word_start-word.ensures in
    let q = c.in_ok-next.ensures.tried g b in
    omega (arith, mark_inside g (list_of b) _ _ q, q.busy.sound.spells.fits)

pub returns-in_err-next-clause-tried : goal.returns-in_err-next-clause-tried
returns-in_err-next-clause-tried c k n t =
    let p = c.requires in
    let g = work_on k (next_word k _ _ n t _ p.inside p.found) n in
    let b = next_busy k _ _ n t _ p.inside p.found _ c.word_start-word.ensures in
    rw c.from_residual.ensures (c.in_err-next.ensures.tried g b)

pub returns-clause-tried : goal.returns-clause-tried
returns-clause-tried c k n t =
    let p = c.requires in
    let g = work_on k (next_word k _ _ n t _ p.inside p.found) n in
    let b = next_busy k _ _ n t _ p.inside p.found _ c.word_start-word.ensures in
    next_state k _ _ n t _ p.inside p.found (list_of b) _ _ (c.in_ok-next.ensures.tried g b)
