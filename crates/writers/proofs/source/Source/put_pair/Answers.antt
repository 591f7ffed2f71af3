-- The words of a pair that is not open, one behind the other.
use Rattle.std.proofs.Common.{subst, sym}
use Rattle.writers.specs.BitWriter.{Puts}
use Rattle.writers.specs.Forms.{pair_as}
use Rattle.writers.proofs.BitWriter.{puts_more}
use Rattle.writers.proofs.Parts.{both_words}
use Rattle.writers.proofs.source.Source.put_pair.Goals as goal

pub returns : goal.returns
returns c pair h =
    let s = c.args.self.now in
    let w = both_words s.size s.cells.now c.args.a c.args.b pair h (rw c.cell_at-there.ensures at c.if-self-there.false) in
    let x = c.put_word.ensures w.0 (rw c.cell_at-there.ensures w.3) in
    let y = c.put_word-2.ensures w.1 (rw c.cell_at-back.ensures w.4) in
    subst (λ p. Puts c.args.writer.now (pair_as s.form p) c.put_word-2.new.writer) (sym w.2)
    (puts_more c.put-2.ensures (puts_more x y))
