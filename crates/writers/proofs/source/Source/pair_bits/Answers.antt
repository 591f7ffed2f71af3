-- The bits of an open pair, and those of two words.
use Rattle.writers.proofs.Lengths.{open_length, words_length}
use Rattle.writers.proofs.source.Source.pair_bits.Goals as goal

pub returns-then-first-clause-bits : goal.returns-then-first-clause-bits
returns-then-first-clause-bits c pair h =
    let s = c.args.self.now in
    open_length s.form s.size s.cells.now c.args.a c.args.b pair h (rw c.cell_at.ensures at c.if-first.true)

pub returns-clause-bits : goal.returns-clause-bits
returns-clause-bits c pair h =
    let s = c.args.self.now in
    rw (c.cell_at.ensures, c.cell_at-2.ensures)
    (words_length s.form s.size s.cells.now c.args.a c.args.b pair h (rw c.cell_at.ensures at c.if-first.false))
