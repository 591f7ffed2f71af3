-- The rows of the letters before `a` are entered.
use Rattle.std.proofs.Common.{◌≡◌, length}
use Rattle.mirrors.proofs.Rows.{RowsBuilding}
use Rattle.mirrors.proofs.mirror.mirror_rows.Given as goal

abbrev pub invariant-loop-a : goal.invariant-loop-a
invariant-loop-a l = record {
  full : length l.mirror ≡ length l.initial.mirror;
  entered : RowsBuilding l.cells l.size l.initial.mirror l.mirror l.a;
}
