-- The letters passed are put.
use Rattle.std.proofs.Common.{take}
use Rattle.model.specs.Enumeration.{concat_map}
use Rattle.writers.specs.BitWriter.{Puts}
use Rattle.writers.specs.Forms.{letter_as}
use Rattle.writers.proofs.source.Source.put_word.Given as goal

abbrev pub invariant-loop-a : goal.invariant-loop-a
invariant-loop-a l = Puts l.initial.writer (concat_map (letter_as l.self.form) (take l.a-index l.a-items)) l.writer
