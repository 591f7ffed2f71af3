-- The last byte is one.
use Rattle.std.proofs.Common.{arith}
use Rattle.writers.proofs.BitWriter.{last_fits}
use Rattle.writers.proofs.bit_writer.BitWriter.close.Goals as goal

pub overflow_cast-self : goal.overflow_cast-self
overflow_cast-self c = omega (arith, last_fits c.args.self.now)
