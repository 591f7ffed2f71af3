-- So many words were tried.
use Rattle.std.proofs.Common.{◌-◌, length}
use Rattle.ways.specs.Listing.{Task, State}
use Rattle.ways.proofs.listing.list_words.Given as goal

abbrev pub invariant-loop-end : goal.invariant-loop-end
invariant-loop-end l = (k : Task l.cells l.size) → State k l.fn.area l.fn.first 0 → State k l.area l.used l.words

abbrev pub decreases-loop-end : goal.decreases-loop-end
decreases-loop-end l = length l.area - l.words
