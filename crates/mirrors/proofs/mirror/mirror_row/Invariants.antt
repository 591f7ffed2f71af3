-- The pairs of `a` with the letters before `b` are entered.
use Rattle.std.proofs.Common.{◌≡◌, length}
use Rattle.mirrors.proofs.Rows.{RowBuilding}
use Rattle.mirrors.proofs.mirror.mirror_row.Given as goal

abbrev pub invariant-loop-b : goal.invariant-loop-b
invariant-loop-b l = record {
  full : length l.mirror ≡ length l.initial.mirror;
  entered : RowBuilding l.cells l.size l.a l.initial.mirror l.mirror l.b;
}
