-- A row that is another ends the table, and all rows are the table.
use Rattle.std.proofs.Common.{◌≡◌, false, true, sym, arith}
use Rattle.theory.proofs.Braiding.{all_braid, not_braid}
use Rattle.bed.proofs.braid_table.is_braid.Goals as goal

pub returns-then-not-is_braid_row : goal.returns-then-not-is_braid_row
returns-then-not-is_braid_row c T o =
    sym
    (not_braid T λ each.
    let e : false ≡ true = (c.if-not-is_braid_row.ensures T o).1 (λ b h k. each c.loop-a.a b (omega arith) h (omega (arith, o.sized))) in
    cc)

pub returns : goal.returns
returns c T o = sym (all_braid T λ a b low h high. c.loop-a.invariant T o a low (omega (arith, o.sized)) b h (omega (arith, o.sized)))
