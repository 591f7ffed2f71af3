-- A table or a program that is not read.
use Rattle.std.proofs.Common.{arith}
use Rattle.cells.proofs.Rules.{blank_zeros}
use Rattle.text.proofs.Reports.{not_read}
use Rattle.text.proofs.Rendering.{reported}
use Rattle.text.proofs.render.render.Goals as goal

pub read_table_program-requires : goal.read_table_program-requires
read_table_program-requires c = blank_zeros

pub returns-in-Err : goal.returns-in-Err
returns-in-Err c =
    reported c.put_refusal.ensures (omega (arith, c.requires.room)) (not_read c.args.table.now c.args.program.now c.in-Err.refused c.in-Err.ensures)
