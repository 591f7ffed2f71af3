-- The numbers from 1 on, and zeros.
use Rattle.bed.proofs.Moving.{first_shows}
use Rattle.bed.proofs.moves.first_bed.Goals as goal

pub returns : goal.returns
returns c = first_shows c.args.size
