-- The side of the one letter is looked for, and the other side takes its place.
use Rattle.std.proofs.Common.{◌+◌, true, false, refl, sym, subst, length, get_or, take, drop}
use Rattle.swaps.specs.Held.{held_at}
use Rattle.swaps.specs.Entry.{ReplaceMeans}
use Rattle.swaps.proofs.Comparing.{word_looked}
use Rattle.swaps.proofs.Applying.{side_fits, other_fits, no_fit_breaks, fit_leads, fit_inside}
use Rattle.swaps.proofs.entry.exchange.Goals as goal

pub cell_word-there-requires : goal.cell_word-there-requires
cell_word-there-requires c =
    let a = c.args in
    let f = c.requires.filled in
    (side_fits f.table (held_at a.bytes.now a.gap.left a.gap.right) (record { offset = a.gap.left; a = a.a; b = a.b }) c.requires.apart a.cells.now
    f.stands f.a_names f.b_names _ c.cell_at-to.ensures (rw (← c.cell_at-to.ensures) at c.requires.defined)).0

pub cell_word-back-requires : goal.cell_word-back-requires
cell_word-back-requires c =
    let a = c.args in
    let f = c.requires.filled in
    (other_fits f.table (held_at a.bytes.now a.gap.left a.gap.right) (record { offset = a.gap.left; a = a.a; b = a.b }) c.requires.apart a.cells.now
    f.stands f.a_names f.b_names _ c.cell_at-to.ensures (rw (← c.cell_at-to.ensures) at c.requires.defined) _ c.cell_at-from.ensures).0

pub returns-then-not-stands-clause-exchanged : goal.returns-then-not-stands-clause-exchanged
returns-then-not-stands-clause-exchanged c T st ra rb =
    let a = c.args in
    let w = c.cell_word-there in
    no_fit_breaks T (held_at a.bytes.now a.gap.left a.gap.right) (record { offset = a.gap.left; a = a.a; b = a.b }) c.requires.apart a.cells.now st ra rb _
    c.cell_at-to.ensures (rw (← c.cell_at-to.ensures) at c.requires.defined) _ c.cell_at-from.ensures a.bytes.now a.gap.right c.requires.placed refl
    (word_looked a.cells.now _ w.result.now w.ensures.length w.ensures.word (drop a.gap.right a.bytes.now) a.a false (sym c.if-not-stands.ensures))

pub replace-requires : goal.replace-requires
replace-requires c =
    let a = c.args in
    let side = c.cell_word-there.result.now in
    (c.requires.placed, fit_inside a.bytes.now a.gap.right a.a side (length side) refl c.requires.placed.inside (sym c.if-not-stands.ensures))

pub returns-clause-exchanged : goal.returns-clause-exchanged
returns-clause-exchanged c T st ra rb =
    let a = c.args in
    let w = c.cell_word-there in
    let v = c.cell_word-back in
    fit_leads T (held_at a.bytes.now a.gap.left a.gap.right) (record { offset = a.gap.left; a = a.a; b = a.b }) c.requires.apart a.cells.now st ra rb _
    c.cell_at-to.ensures (rw (← c.cell_at-to.ensures) at c.requires.defined) _ c.cell_at-from.ensures a.bytes.now a.gap.right c.requires.placed refl
    (word_looked a.cells.now _ w.result.now w.ensures.length w.ensures.word (drop a.gap.right a.bytes.now) a.a true (sym c.if-not-stands.ensures))
    c.replace.new.bytes c.replace.ensures.length c.replace.result
    (subst (λ n. ReplaceMeans a.bytes.now a.gap.left (a.gap.right + (1 + n)) a.b (take (get_or a.cells.now c.cell_at-from.result 0)
    (drop (c.cell_at-from.result + 1) a.cells.now)) c.replace.new.bytes c.replace.result) w.ensures.length
    (subst (λ l. ReplaceMeans a.bytes.now a.gap.left (a.gap.right + (1 + length w.result.now)) a.b l c.replace.new.bytes c.replace.result) v.ensures.word
    c.replace.ensures.replaced))
