-- A table image is read as the model reads it.
use Rattle.images.proofs.Rows.{loaded_as}
use Rattle.images.proofs.Agreeing.{image_read}
use Rattle.images.proofs.tables.read_table.Goals as goal

pub returns-clause-table : goal.returns-clause-table
returns-clause-table c = loaded_as (image_read c.args.image.now) c.read_form.new.cells c.read_form.result c.read_form.ensures.table
