-- The rows are entered into the cells with the weights.
use Rattle.std.proofs.Common.{◌∙◌, ap, ℕ, length}
use lib.ListN.{length-replicate}
use Rattle.cells.specs.Layout.{cell_bytes}
use Rattle.cells.specs.Stands.{undefined_length}
use Rattle.mirrors.proofs.Rows.{table_done}
use Rattle.mirrors.proofs.mirror.mirror_table.Goals as goal

pub returns-clause-mirror : goal.returns-clause-mirror
returns-clause-mirror c =
    table_done c.args.cells.now c.args.size c.args.mirror.now c.copy_weights.new.mirror c.mirror_rows.new.mirror c.requires.blank c.copy_weights.ensures
    (c.mirror_rows.ensures.length
    ∙ (c.copy_weights.ensures.same_length ∙ (ap length c.requires.blank ∙ length-replicate {A = ℕ} cell_bytes undefined_length)))
    c.mirror_rows.result c.mirror_rows.ensures.rows
