-- One more letter, and the letters that the cell holds.
use Rattle.std.proofs.Common.{ap₂, subst, ◌++◌, ◌∙◌, arith}
use lib.Seq.{take_all}
use Rattle.model.specs.Enumeration.{concat_map}
use Rattle.model.specs.Bits.{digits}
use Rattle.writers.specs.BitWriter.{Puts}
use Rattle.writers.specs.Forms.{letter_as}
use Rattle.writers.proofs.BitWriter.{puts_more}
use Rattle.writers.proofs.Parts.{parts_more, letters_held}
use Rattle.writers.proofs.source.Source.put_word.Goals as goal

pub loop-a-preserved : goal.loop-a-preserved
loop-a-preserved c =
    subst (λ bs. Puts c.put.new.self bs c.put-in-loop-a.new.self) (parts_more (letter_as c.args.self.now.form) _ c.loop-a.a-index 0 c.loop-a-test.true)
    (puts_more c.loop-a.invariant c.put-in-loop-a.ensures)

pub returns : goal.returns
returns c x h =
    let f = c.args.self.now.form in
    let letters = concat_map (letter_as f) in
    subst (λ bs. Puts c.args.writer.now bs c.loop-a.writer)
    (ap₂ (λ n l. digits f.lengths n ++ letters l) h.count
    (take_all c.loop-a.a-index _ c.loop-a-test.false ∙ letters_held h (omega arith) c.requires.1))
    (puts_more c.put.ensures c.loop-a.invariant)
