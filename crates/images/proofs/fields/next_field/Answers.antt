-- A field is read where the image has as many bits.
use Rattle.std.proofs.Common.{arith}
use Rattle.images.proofs.Reading.{field_answered, field_ends}
use Rattle.images.proofs.fields.next_field.Goals as goal

pub returns-then-image-div_ceil : goal.returns-then-image-div_ceil
returns-then-image-div_ceil c = field_ends c.args.image.now c.args.at c.args.width c.requires.inside (omega arith)

pub returns : goal.returns
returns c = field_answered c.args.image.now c.args.at c.args.width (omega arith) c.read_field.result c.read_field.ensures
