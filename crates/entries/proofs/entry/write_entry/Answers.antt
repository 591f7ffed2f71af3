-- The three fields are gathered in one, and written.
use Rattle.std.proofs.Common.{arith}
use Rattle.bits.proofs.Runs.{shifted_one}
use Rattle.bits.proofs.Width.{width_small}
use Rattle.entries.proofs.Placing.{entry_placed}
use Rattle.entries.proofs.entry.write_entry.Goals as goal

pub returns : goal.returns
returns c =
    entry_placed c.requires.inside c.position-at.ensures c.letter_width-width.ensures
    (record { offset = c.args.entry.offset; a = c.args.entry.a; b = c.args.entry.b }) _
    (shifted_one 32 c.letter_width-width.result (omega (arith, width_small c.args.size))) c.write_field.new.bytes c.write_field.ensures
