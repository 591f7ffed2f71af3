-- Bits are left to take where a byte is left to read. Else they are those that are held.
use Rattle.std.proofs.Common.{◌*◌, ◌-◌, ◌%◌, length, nat_eq, arith, ap, sym, ◌∙◌}
use borrow.Author.Tests.{ne_eqb}
use Rattle.images.proofs.Reading.{filling_long}
use Rattle.images.proofs.BitReader.{span, end_read}
use Rattle.images.proofs.bit_reader.BitReader.is_end.Goals as goal

pub returns-then-self : goal.returns-then-self
returns-then-self c =
    let r = c.self.inside in
    rw (← c.self.view_is)
    (ap (λ n. nat_eq (r.bits % n) 0) (span r.held (omega (arith, c.self.invariant.few)))
    ∙ end_read r.image.now r.next r.held r.bits c.self.invariant (omega (arith, c.if-self.true)))

pub returns-else-self : goal.returns-else-self
returns-else-self c =
    let r = c.self.inside in
    let h = c.self.invariant in
    rw (← c.self.view_is)
    (ne_eqb r.next (length r.image.now) c.if-self.false
    ∙ sym (filling_long r.image.now (8 * r.next - r.held) (omega (arith, h.holds.read, h.holds.begun, c.if-self.false))))
