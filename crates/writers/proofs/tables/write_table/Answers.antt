-- What was put and closed fills the area, which has room for it or is left as it was.
use Rattle.std.proofs.Common.{◌≡◌, length, sym, arith}
use Rattle.std.proofs.lemmas.Result.{err_from_is_err_and}
use Rattle.writers.specs.Forms.{table_as}
use Rattle.writers.proofs.BitWriter.{fills_short, fills_closed}
use Rattle.writers.proofs.Lengths.{table_are_bits}
use Rattle.writers.proofs.tables.write_table.Goals as goal

pub returns-in_err-bytes : goal.returns-in_err-bytes
returns-in_err-bytes c excess rows weights listed =
    let p = err_from_is_err_and c.from_residual.result c.from_residual.ensures.1 in
    let bits = table_as c.args.form c.args.size excess rows in
    rw (p.1, p.2)
    (fills_short c.args.area.now bits _ c.in_err-bytes.ensures.0 (rw (c.table_bits.ensures.bits excess rows weights listed) at c.in_err-bytes.ensures.1))

pub returns : goal.returns
returns c excess rows weights listed =
    let bits = table_as c.args.form c.args.size excess rows in
    let p = c.put_table.ensures excess rows weights listed in
    let l : length bits ≡ c.table_bits.result = sym (c.table_bits.ensures.bits excess rows weights listed) in
    fills_closed c.args.area.now bits _ c.new-writer.result c.put_table.new.writer c.close.new.self
    (table_are_bits c.args.form c.args.size excess rows) c.new-writer.ensures.begins p c.close.ensures
    (grind (arith, c.new-writer.ensures.same_area, p.same_area, c.close.ensures.same_area)) (λ i. omega (arith, c.type_inv.area i))
    (rw l c.in_ok-bytes.ensures.1) c.in_ok-bytes.bytes (rw l c.in_ok-bytes.ensures.0)
