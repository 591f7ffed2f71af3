-- Fewer than eight bits are a filling where they write 0.
use Rattle.std.proofs.Common.{sym, ap, ◌∙◌, nat_eq, arith}
use Rattle.images.proofs.Reading.{filling_long, filling_short}
use Rattle.images.proofs.fields.is_filling.Goals as goal

pub returns-then-div_ceil-image : goal.returns-then-div_ceil-image
returns-then-div_ceil-image c = sym (filling_long c.args.image.now c.args.at (omega arith))

pub returns : goal.returns
returns c = ap (λ v. nat_eq v 0) c.read_field.ensures ∙ filling_short c.args.image.now c.args.at c.requires.inside (omega arith)
