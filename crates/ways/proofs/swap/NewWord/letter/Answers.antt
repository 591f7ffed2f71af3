-- The letter stands before the swapped side, begins the new one, follows in it, or stands behind.
use Rattle.std.proofs.Common.{rules, arith, get_or, sym, ap, ◌∙◌}
use Rattle.ways.specs.Swap.{new_word}
use Rattle.ways.proofs.NewWords.{seen_length, new_before, new_first, new_put, new_after}
use Rattle.ways.proofs.swap.NewWord.letter.Goals as goal

pub returns-then-i-offset : goal.returns-then-i-offset
returns-then-i-offset c =
    let n = c.self.inside in
    rw (← c.self.view_is) (sym (new_before n.area.now n.cells.now n.swap c.self.invariant c.args.i c.if-i-offset.true))

pub returns-then-i-offset-2 : goal.returns-then-i-offset-2
returns-then-i-offset-2 c =
    let n = c.self.inside in
    rw (← c.self.view_is)
    (sym (ap (λ i. get_or (new_word n.area.now n.cells.now n.swap) i 0) c.if-i-offset-2.true ∙ new_first n.area.now n.cells.now n.swap c.self.invariant))

pub returns-then-i-offset-3 : goal.returns-then-i-offset-3
returns-then-i-offset-3 c =
    let n = c.self.inside in
    let later = c.if-i-offset.false in
    let other = c.if-i-offset-2.false in
    rw (← c.self.view_is) (sym (new_put n.area.now n.cells.now n.swap c.self.invariant c.args.i (omega arith) c.if-i-offset-3.true))

pub overflow_add-result-3 : goal.overflow_add-result-3
overflow_add-result-3 c = let long = seen_length c.self.invariant c.self.view_is in search rules

pub bounds-self-inside-swap-2 : goal.bounds-self-inside-swap-2
bounds-self-inside-swap-2 c = let long = seen_length c.self.invariant c.self.view_is in omega (arith, c.self.invariant.inside)

pub returns : goal.returns
returns c =
    let n = c.self.inside in
    let long = seen_length c.self.invariant c.self.view_is in
    rw (← c.self.view_is)
    (sym (new_after n.area.now n.cells.now n.swap c.self.invariant c.args.i c.if-i-offset-3.false (omega (arith, long, c.requires))))
