-- Both words are weighed.
use Rattle.loading.proofs.Weights.{measured_weighs}
use Rattle.trays.proofs.tray.compare_log.Goals as goal

pub compare_cleared-requires-clause-weights : goal.compare_cleared-requires-clause-weights
compare_cleared-requires-clause-weights c = record {
  one = measured_weighs c.args.cells.now c.args.loaded.size c.args.log.now _ _ c.in_ok-read.ensures;
  two = c.requires.pattern.weighs;
}
