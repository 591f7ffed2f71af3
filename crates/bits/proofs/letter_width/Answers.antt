-- Eight less the leading zeros of n - 1 is the width.
use Rattle.bits.proofs.Width.{width_is}
use Rattle.bits.proofs.letter_width.Goals as goal

pub returns : goal.returns
returns c = width_is c.args.n c.requires.0 c.requires.1
