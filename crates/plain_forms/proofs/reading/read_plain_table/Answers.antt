-- A plain table is read as the model reads it.
use Rattle.std.proofs.Common.{arith}
use Rattle.images.proofs.Rows.{loaded_as}
use Rattle.plain_forms.proofs.Agreeing.{plain_read}
use Rattle.plain_forms.proofs.reading.read_plain_table.Goals as goal

pub returns-clause-table : goal.returns-clause-table
returns-clause-table c =
    loaded_as (plain_read c.args.plain.now (λ i. omega (arith, c.type_inv.plain i))) c.read_form.new.cells c.read_form.result c.read_form.ensures.table
