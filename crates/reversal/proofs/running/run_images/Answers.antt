-- The cells are blank before the table is read.
use Rattle.cells.proofs.Rules.{blank_zeros}
use Rattle.reversal.proofs.running.run_images.Goals as goal

pub read_table_program-requires : goal.read_table_program-requires
read_table_program-requires c = blank_zeros
