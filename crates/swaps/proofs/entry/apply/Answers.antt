-- Why an entry breaks the chain.
use Rattle.std.proofs.Common.{sym, subst, arith}
use Rattle.model.specs.Range.{InRange}
use Rattle.images.specs.Chains.{entry_of}
use Rattle.swaps.specs.Held.{held_at}
use Rattle.swaps.proofs.Applying.{held_length, same_breaks, open_breaks, past_breaks}
use Rattle.swaps.proofs.entry.apply.Goals as goal

pub returns-then-a-b-clause-applied : goal.returns-then-a-b-clause-applied
returns-then-a-b-clause-applied c T o =
    let a = c.args in
    same_breaks T (held_at a.bytes.now a.gap.left a.gap.right) (entry_of a.entry) c.if-a-b.true

pub returns-then-cells-to-clause-applied : goal.returns-then-cells-to-clause-applied
returns-then-cells-to-clause-applied c T o =
    let a = c.args in
    open_breaks T (held_at a.bytes.now a.gap.left a.gap.right) (entry_of a.entry) c.if-a-b.false a.cells.now o.stands
    (subst (λ n. InRange n a.entry.a) (sym o.sized) c.requires.a_names) (subst (λ n. InRange n a.entry.b) (sym o.sized) c.requires.b_names)
    c.cell_at-to.result c.cell_at-to.ensures c.if-cells-to.true

pub returns-then-gap-bytes-clause-applied : goal.returns-then-gap-bytes-clause-applied
returns-then-gap-bytes-clause-applied c T o =
    let a = c.args in
    past_breaks T (held_at a.bytes.now a.gap.left a.gap.right) (entry_of a.entry) c.if-a-b.false a.cells.now o.stands
    (subst (λ n. InRange n a.entry.a) (sym o.sized) c.requires.a_names) (subst (λ n. InRange n a.entry.b) (sym o.sized) c.requires.b_names)
    c.cell_at-to.result c.cell_at-to.ensures c.if-cells-to.false
    (omega (arith, held_length a.bytes.now a.gap.left a.gap.right c.requires.placed))
