-- The three fields are those of the entry that stands there, and each letter's is small.
use Rattle.std.proofs.Common.{◌+◌, arith, refl}
use Rattle.entries.proofs.Placing.{first_small, second_small, entry_read}
use Rattle.entries.proofs.entry.read_entry.Goals as goal

pub overflow_add-result : goal.overflow_add-result
overflow_add-result c =
    omega (arith, first_small c.requires c.position-at.ensures c.letter_width-width.ensures c.read_field-a.result c.read_field-a.ensures)

pub overflow_cast-result : goal.overflow_cast-result
overflow_cast-result c =
    omega (arith, first_small c.requires c.position-at.ensures c.letter_width-width.ensures c.read_field-a.result c.read_field-a.ensures)

pub overflow_add-result-2 : goal.overflow_add-result-2
overflow_add-result-2 c =
    omega (arith, second_small c.requires c.position-at.ensures c.letter_width-width.ensures c.read_field-b.result c.read_field-b.ensures)

pub overflow_cast-result-2 : goal.overflow_cast-result-2
overflow_cast-result-2 c =
    omega (arith, second_small c.requires c.position-at.ensures c.letter_width-width.ensures c.read_field-b.result c.read_field-b.ensures)

pub returns : goal.returns
returns c e rest fit there =
    entry_read c.requires c.position-at.ensures c.letter_width-width.ensures e rest fit there
    (record { offset = c.read_field-offset.result; a = c.read_field-a.result + 1; b = c.read_field-b.result + 1 })
    c.read_field-a.result c.read_field-b.result c.read_field-offset.ensures c.read_field-a.ensures
    c.read_field-b.ensures refl refl
