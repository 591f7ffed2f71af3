-- The sign and the number are the letter's bits.
use Rattle.std.proofs.Common.{subst, arith}
use Rattle.writers.specs.BitWriter.{Puts}
use Rattle.writers.proofs.Letters.{signed_written}
use Rattle.writers.proofs.programs.put_signed.Goals as goal

pub returns : goal.returns
returns c =
    subst (λ bs. Puts c.args.writer.now bs c.put.new.self)
    (signed_written c.args.size c.args.width c.args.x c.requires.0 (omega (arith, c.ranges.x)) c.requires.1) c.put.ensures
