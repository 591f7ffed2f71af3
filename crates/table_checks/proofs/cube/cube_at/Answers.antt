-- Where the pair a, b is open the triple passes; else L is worked out, and the verdict is that against it.
use Rattle.std.proofs.Common.{◌∙◌, sym, ap, length, get_or}
use Rattle.std.proofs.lemmas.Result.{err_from_is_err_and}
use Rattle.cells.proofs.Rules.{open_cell}
use Rattle.table_checks.specs.Cube.{cube_answer}
use Rattle.table_checks.proofs.CellWords.{rule_of}
use Rattle.table_checks.proofs.Triples.{rest, open_holds, goes_on, left_halts}
use Rattle.table_checks.proofs.cube.cube_at.Goals as goal

pub returns-then-cells-cell_at-clause-cube : goal.returns-then-cells-cell_at-clause-cube
returns-then-cells-cell_at-clause-cube c T t =
    let a = c.args in
    let k = a.triple in
    open_holds T a.budget (length a.bytes.now) k.a k.b k.c
    (open_cell a.cells.now T t.stands k.a k.b t.lettered.0 t.lettered.1.0
    (sym (ap (λ i. get_or a.cells.now i 0) c.cell_at.ensures) ∙ c.if-cells-cell_at.true))

pub returns-in_err-left-clause-cube : goal.returns-in_err-left-clause-cube
returns-in_err-left-clause-cube c T t =
    let p = err_from_is_err_and c.from_residual.result c.from_residual.ensures.1 in
    let a = c.args in
    let k = a.triple in
    let q = rule_of t k.a k.b t.lettered.0 t.lettered.1.0 (λ e. c.if-cells-cell_at.false (ap (λ i. get_or a.cells.now i 0) c.cell_at.ensures ∙ e)) in
    let v = c.in_err-left in
    rw (p.1, p.2)
    (left_halts T a.budget (length a.bytes.now) k.a k.b k.c v.field-0.0 c.side.new.bytes (rw v.ensures.length at (v.ensures.works T t))
    ∙ goes_on T a.budget (length a.bytes.now) k.a k.b k.c q.x q.y q.rule)

pub returns-clause-cube : goal.returns-clause-cube
returns-clause-cube c T t =
    let a = c.args in
    let k = a.triple in
    let q = rule_of t k.a k.b t.lettered.0 t.lettered.1.0 (λ e. c.if-cells-cell_at.false (ap (λ i. get_or a.cells.now i 0) c.cell_at.ensures ∙ e)) in
    c.against.ensures.against T t
    ∙ (ap (λ i. cube_answer (rest T a.budget i k.a k.b k.c)) c.side.ensures.length
    ∙ goes_on T a.budget (length a.bytes.now) k.a k.b k.c q.x q.y q.rule)
