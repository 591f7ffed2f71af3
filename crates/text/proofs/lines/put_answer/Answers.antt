-- `text::lines::put_answer` meets its contract: each line goes on where the one before it ends.
use Rattle.std.proofs.Common.{arith}
use Rattle.text.specs.Text.{answer_text}
use Rattle.text.proofs.Putting.{◌then◌, put_wider}
use Rattle.text.proofs.lines.put_answer.Goals as goal

pub returns : goal.returns
unfolding answer_text
returns c =
    put_wider (omega arith)
    (c.put_number_line-after_moves.ensures
    then (c.put_word_line-after_program.ensures
    then (c.put_numbers_line-after_numerator.ensures
    then (c.put_numbers_line-after_denominator.ensures
    then c.put_number_line.ensures))))
