-- A refusal is that of the image. Else the area is filled with the table's plain form.
use Rattle.std.proofs.Common.{◌≡◌, length, ap, subst, ◌∙◌}
use Rattle.std.proofs.lemmas.Result.{err_from_is_err_and}
use Rattle.cells.proofs.Rules.{blank_zeros}
use Rattle.images.proofs.RoundTrip.{table_in_range}
use Rattle.model.specs.Bits.{pack}
use Rattle.model.specs.Images.{read_table}
use Rattle.model.specs.Plain.{read_plain_table, plain_table}
use Rattle.model.specs.Services.{pack_table, unpack_table}
use Rattle.writers.specs.Filling.{Fills}
use Rattle.writers.specs.Forms.{table_as}
use Rattle.writers.proofs.Parts.{loaded_weights}
use Rattle.writers.proofs.TableForms.{plain_packed}
use Rattle.packing.proofs.Packing.{table_refused, table_read}
use Rattle.packing.proofs.ReadBack.{promised_refused, promised_filled, table_packed, plain_table_back}
use Rattle.packing.proofs.unpack_table.unpack.Goals as goal

pub read_table-requires : goal.read_table-requires
read_table-requires c = blank_zeros

pub returns-in_err-size : goal.returns-in_err-size
returns-in_err-size c =
    let given = c.args.table.now in
    let area = c.args.answer.now in
    let p = err_from_is_err_and c.from_residual.result c.from_residual.ensures.1 in
    rw (p.1, p.2)
    (promised_refused unpack_table pack_table table_packed read_table read_plain_table given area _
    (table_refused given (length area) _ c.in_err-size.ensures.table))

pub returns : goal.returns
returns c =
    let given = c.args.table.now in
    let area = c.args.answer.now in
    let t = c.in_ok-size.ensures.table in
    let n = c.in_ok-size.size in
    let w = c.write_table in
    let bytes : pack (table_as c.plain_form.result n t.table.excess t.table.rows) ≡ plain_table t.table =
    ap (λ f. pack (table_as f n t.table.excess t.table.rows)) c.plain_form.ensures
    ∙ plain_packed t.table n t.of.sized (table_in_range given t.table t.read) in
    promised_filled unpack_table pack_table table_packed read_table read_plain_table given area (plain_table t.table)
    (table_read given (length area) t.table t.read) (plain_table_back given t.table t.read) w.result w.new.area
    (subst (λ bs. Fills area bs w.result w.new.area) bytes (w.ensures t.table.excess t.table.rows (loaded_weights t) t.listed))
