-- The cells are blank.
use Rattle.cells.proofs.Rules.{blank_zeros}
use Rattle.images.proofs.tables.table_size.Goals as goal

pub read_table-requires : goal.read_table-requires
read_table-requires c = blank_zeros
