-- A field is taken of the bits that are held, or of these and those of the image's next byte.
use Rattle.std.proofs.Common.{◌*◌, ◌-◌, ◌<◌, refl, arith}
use Rattle.images.proofs.Reading.{length_from}
use Rattle.images.proofs.BitReader.{span, split_last, split_taken, more_reads, more_taken}
use Rattle.images.proofs.bit_reader.BitReader.take.Goals as goal
use Rattle.images.proofs.bit_reader.BitReader.take.Goals.{then-self-width+else-self, else-self-width}

pub returns-then-self : goal.returns-then-self
returns-then-self c =
    let r = c.self.inside in
    rw (← c.self.view_is) (omega (arith, length_from r.image.now (8 * r.next - r.held), c.self.invariant.holds.read), refl)

pub invariant_of-self : goal.invariant_of-self
invariant_of-self c =
    let r = c.self.inside in
    let h = c.self.invariant in
    let next = more_reads r.image.now r.next r.held r.bits c.args.width h c.requires in
    elim c.if-self-width.branch [
      | then-self-width+else-self w ↦ rw w.self-inside-is (next w.if-self-width.true (omega (arith, h.holds.read)) (omega arith))
      | else-self-width w ↦
          let holds = split_last r.image.now r.next r.held r.bits h.holds c.args.width w.if-self-width.false in
          rw w.self-inside-is (record { holds = holds; few = omega (arith, h.few) })
    ]

pub returns : goal.returns
returns c =
    let r = c.self.inside in
    let h = c.self.invariant in
    let narrow : c.args.width < 32 = omega (arith, c.requires) in
    let next = more_taken r.image.now r.next r.held r.bits c.args.width h c.requires in
    rw (← c.self.view_is, span c.args.width narrow)
    (elim c.if-self-width.branch [
      | then-self-width+else-self w ↦ rw w.self-inside-is (next w.if-self-width.true (omega (arith, h.holds.read)) (omega arith))
      | else-self-width w ↦ rw w.self-inside-is (split_taken r.image.now r.next r.held r.bits h.holds c.args.width w.if-self-width.false)
    ])
