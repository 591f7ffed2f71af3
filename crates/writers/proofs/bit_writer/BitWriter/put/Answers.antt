-- What a field becomes: held, or a byte written of it, or a byte left out where the area is full.
use Rattle.std.proofs.Common.{refl, arith}
use Rattle.writers.proofs.BitWriter.{gathered_small, byte_fits, put_held, put_full, put_byte}
use Rattle.writers.proofs.bit_writer.BitWriter.put.Goals as goal

pub invariant_of-self-clause-small : goal.invariant_of-self-clause-small
invariant_of-self-clause-small c = gathered_small c.args.self.now c.args.width c.args.value c.requires.0 c.requires.1

pub returns-then-self-lt8 : goal.returns-then-self-lt8
returns-then-self-lt8 c = put_held c.args.self.now c.args.width c.args.value c.requires.0 c.requires.1

pub overflow_cast-byte : goal.overflow_cast-byte
overflow_cast-byte c = omega (arith, byte_fits c.args.self.now c.args.width c.args.value c.requires.0 c.requires.1 c.if-self-lt8.false)

pub returns-then-self : goal.returns-then-self
returns-then-self c =
    put_byte c.args.self.now c.args.width c.args.value c.requires.0 c.requires.1 c.if-self-lt8.false _ refl refl c.if-self.true

pub returns-else-self : goal.returns-else-self
returns-else-self c = put_full c.args.self.now c.args.width c.args.value c.requires.0 c.requires.1 c.if-self-lt8.false c.if-self.false
