-- The byte with 128 more, modulo 256, is the letter with the opposite sign.
use Rattle.std.proofs.Common.{arith}
use Rattle.engine.proofs.Letters.{letter_turned}
use Rattle.engine.proofs.letter.turned.Goals as goal

pub returns : goal.returns
returns c = letter_turned c.args.x (omega (arith, c.ranges.x))
