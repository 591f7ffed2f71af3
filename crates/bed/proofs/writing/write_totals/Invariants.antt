-- The totals passed stand in the area, which is as it was from there on.
use Rattle.std.proofs.Common.{◌≡◌, take}
use Rattle.model.specs.Enumeration.{concat_map}
use Rattle.model.specs.Areas.{begins}
use Rattle.model.specs.Bed.{total_bytes}
use Rattle.bed.proofs.writing.write_totals.Given as goal

abbrev pub invariant-loop-k : goal.invariant-loop-k
invariant-loop-k l = l.area ≡ begins (concat_map total_bytes (take l.k l.totals)) l.initial.area
