-- The check of all triples is the check of those that are left.
use Rattle.std.proofs.Common.{◌+◌, ◌++◌, length}
use Rattle.table_checks.proofs.Remaining.{firsts, seconds, thirds}
use Rattle.table_checks.proofs.Searching.{Left}
use Rattle.table_checks.proofs.table.check_triples.Given as goal

abbrev pub invariant-loop-a : goal.invariant-loop-a
invariant-loop-a l = Left l.cells l.size l.budget (length l.bytes) (firsts l.size l.a)

abbrev pub invariant-loop-b : goal.invariant-loop-b
invariant-loop-b l = Left l.cells l.size l.budget (length l.bytes) (seconds l.size l.a l.b ++ firsts l.size (l.a + 1))

abbrev pub invariant-loop-c : goal.invariant-loop-c
invariant-loop-c l =
    Left l.cells l.size l.budget (length l.bytes) (thirds l.size l.a l.b l.c ++ (seconds l.size l.a (l.b + 1) ++ firsts l.size (l.a + 1)))
