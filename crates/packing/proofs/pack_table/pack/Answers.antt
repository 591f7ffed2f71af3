-- A refusal is that of the plain form. Else the area is filled with the table's image.
use Rattle.std.proofs.Common.{◌≡◌, length, ap, subst, ◌∙◌}
use Rattle.std.proofs.lemmas.Result.{err_from_is_err_and}
use Rattle.cells.proofs.Rules.{blank_zeros}
use Rattle.model.specs.Bits.{pack}
use Rattle.model.specs.Images.{read_table, table_image}
use Rattle.model.specs.Plain.{read_plain_table}
use Rattle.model.specs.Services.{pack_table, unpack_table}
use Rattle.writers.specs.Filling.{Fills}
use Rattle.writers.specs.Forms.{table_as}
use Rattle.writers.proofs.Parts.{loaded_weights}
use Rattle.writers.proofs.TableForms.{image_bits}
use Rattle.packing.proofs.Packing.{plain_refused, plain_read}
use Rattle.packing.proofs.ReadBack.{promised_refused, promised_filled, table_unpacked, table_back}
use Rattle.packing.proofs.pack_table.pack.Goals as goal

pub read_plain_table-requires : goal.read_plain_table-requires
read_plain_table-requires c = blank_zeros

pub returns-in_err-size : goal.returns-in_err-size
returns-in_err-size c =
    let given = c.args.plain.now in
    let area = c.args.answer.now in
    let p = err_from_is_err_and c.from_residual.result c.from_residual.ensures.1 in
    rw (p.1, p.2)
    (promised_refused pack_table unpack_table table_unpacked read_plain_table read_table given area _
    (plain_refused given (length area) _ c.in_err-size.ensures.table))

pub returns : goal.returns
returns c =
    let given = c.args.plain.now in
    let area = c.args.answer.now in
    let t = c.in_ok-size.ensures.table in
    let n = c.in_ok-size.size in
    let w = c.write_table in
    let bytes : pack (table_as c.image_form.result n t.table.excess t.table.rows) ≡ table_image t.table =
    ap (λ f. pack (table_as f n t.table.excess t.table.rows)) c.image_form.ensures ∙ image_bits t.table n t.of.sized in
    promised_filled pack_table unpack_table table_unpacked read_plain_table read_table given area (table_image t.table)
    (plain_read given (length area) t.table t.read) (table_back given t.table t.read) w.result w.new.area
    (subst (λ bs. Fills area bs w.result w.new.area) bytes (w.ensures t.table.excess t.table.rows (loaded_weights t) t.listed))
