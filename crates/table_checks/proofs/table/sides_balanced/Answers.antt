-- The sides of a pair that is not open were both weighed.
use Rattle.std.proofs.Common.{◌∙◌, ap, get_or}
use Rattle.cells.proofs.Rules.{of_range}
use Rattle.table_checks.proofs.Passing.{sides_weighed}
use Rattle.table_checks.proofs.Weighing.{related_back}
use Rattle.table_checks.proofs.table.sides_balanced.Goals as goal

pub side_weight-requires-2-clause-pair : goal.side_weight-requires-2-clause-pair
side_weight-requires-2-clause-pair c =
    let a = c.args in
    let o = c.requires.0 in
    related_back a.cells.now a.size o.0 o.1 a.a a.b
    (record {
      first = c.requires.1;
      second = c.requires.2;
      defined = λ e. c.if-cells-cell_at.false (ap (λ i. get_or a.cells.now i 0) c.cell_at.ensures ∙ e);
    })

pub returns : goal.returns
returns c T o =
    let a = c.args in
    sides_weighed a.cells.now a.size T o a.a a.b (of_range o a.a c.requires.1.low c.requires.1.high)
    (of_range o a.b c.requires.2.low c.requires.2.high) (λ e. c.if-cells-cell_at.false (ap (λ i. get_or a.cells.now i 0) c.cell_at.ensures ∙ e))
    c.side_weight.result c.side_weight-2.result c.side_weight.ensures c.side_weight-2.ensures
