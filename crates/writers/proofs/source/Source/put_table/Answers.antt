-- The size, the weights and the rows, one behind the other.
use Rattle.writers.proofs.BitWriter.{puts_more}
use Rattle.writers.proofs.source.Source.put_table.Goals as goal

pub returns : goal.returns
returns c excess rows weights listed =
    puts_more c.put.ensures
    (puts_more (c.put_weights.ensures excess weights) (c.put_rows.ensures rows listed))
