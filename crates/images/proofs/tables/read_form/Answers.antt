-- The number of letters is read, then the weights, then the rows.
use Rattle.std.proofs.Common.{◌+◌}
use Rattle.std.proofs.lemmas.Result.{err_from_is_err_and}
use Rattle.images.specs.Fields.{from, fault_code, table_refusal}
use Rattle.images.specs.Forms.{form_of, table_in}
use Rattle.images.specs.BitReader.{NumberDone}
use Rattle.images.specs.Tables.{WeightsDone}
use Rattle.images.proofs.Failing.{mapped_ok, mapped_err, table_code}
use Rattle.images.proofs.Rows.{size_refused, weights_refused, rows_next, loaded_as}
use Rattle.images.proofs.tables.read_form.Goals as goal

pub returns-in_err-number-clause-table : goal.returns-in_err-number-clause-table
returns-in_err-number-clause-table c =
    let a = c.args in
    let least = c.form_of-least.ensures in
    let at = c.at-reader.ensures in
    let p = err_from_is_err_and c.from_residual.result c.from_residual.ensures.1 in
    let m =
    mapped_err table_refusal (λ r. NumberDone (from a.input.now 0) (form_of a.kind 1).sizes (form_of a.kind 1).low 16 r c.take_number.new.self)
    c.take_number.result c.map_err.result c.map_err.ensures.cases (rw (least, at) at c.take_number.ensures) c.in_err-number.field-0.0 c.in_err-number.was in
    rw (p.1, p.2, m.1) (table_code m.0 (table_in a.kind a.input.now) (size_refused a.kind a.input.now (fault_code 1 2 m.0) m.2.0))

pub returns-in_err-map_err-clause-table : goal.returns-in_err-map_err-clause-table
returns-in_err-map_err-clause-table c =
    let a = c.args in
    let n = c.in_ok-number.number in
    let least = c.form_of-least.ensures in
    let at = c.at-reader.ensures in
    let form = c.form_of.ensures in
    let sized =
    mapped_ok table_refusal (λ r. NumberDone (from a.input.now 0) (form_of a.kind 1).sizes (form_of a.kind 1).low 16 r c.take_number.new.self)
    c.take_number.result c.map_err.result c.map_err.ensures.cases (rw (least, at) at c.take_number.ensures) n c.in_ok-number.was in
    let p = err_from_is_err_and c.from_residual-in_err-map_err.result c.from_residual-in_err-map_err.ensures.1 in
    let m =
    mapped_err table_refusal
    (λ r. WeightsDone c.take_number.new.self (form_of a.kind (n + 1)) (n + 1) a.cells.now c.read_weights.new.cells r c.read_weights.new.reader)
    c.read_weights.result c.map_err-2.result c.map_err-2.ensures.cases (rw form at c.read_weights.ensures.weights) c.in_err-map_err.field-0.0
    c.in_err-map_err.was in
    rw (p.1, p.2, m.1)
    (table_code m.0 (table_in a.kind a.input.now)
    (weights_refused a.kind a.input.now n c.take_number.new.self sized.read (fault_code 1 2 m.0) m.2))

pub returns-clause-table : goal.returns-clause-table
returns-clause-table c =
    let a = c.args in
    let n = c.in_ok-number.number in
    let least = c.form_of-least.ensures in
    let at = c.at-reader.ensures in
    let form = c.form_of.ensures in
    let sized =
    mapped_ok table_refusal (λ r. NumberDone (from a.input.now 0) (form_of a.kind 1).sizes (form_of a.kind 1).low 16 r c.take_number.new.self)
    c.take_number.result c.map_err.result c.map_err.ensures.cases (rw (least, at) at c.take_number.ensures) n c.in_ok-number.was in
    let weights =
    mapped_ok table_refusal
    (λ r. WeightsDone c.take_number.new.self (form_of a.kind (n + 1)) (n + 1) a.cells.now c.read_weights.new.cells r c.read_weights.new.reader)
    c.read_weights.result c.map_err-2.result c.map_err-2.ensures.cases (rw form at c.read_weights.ensures.weights) _ c.in_ok-map_err.was in
    loaded_as (rows_next a.kind a.input.now n c.take_number.new.self sized.read weights.excess c.read_weights.new.reader weights.read)
    c.read_rows.new.cells c.read_rows.result (rw form at c.read_rows.ensures.rows weights.excess weights.holds)
