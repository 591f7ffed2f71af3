-- A plain program is refused where it is too long, or where bytes that name no letter were counted.
use Rattle.std.proofs.Common.{arith}
use Rattle.plain_forms.proofs.Programs.{too_many, plain_accepted, plain_refused}
use Rattle.plain_forms.proofs.reading.read_plain_program.Goals as goal

pub returns-then-plain-gt-MOST_LETTERS : goal.returns-then-plain-gt-MOST_LETTERS
returns-then-plain-gt-MOST_LETTERS c = too_many c.args.plain.now c.args.size c.if-plain-gt-MOST_LETTERS.true

pub returns-then-unnamed-gt0 : goal.returns-then-unnamed-gt0
returns-then-unnamed-gt0 c =
    plain_refused c.args.plain.now c.args.size c.if-plain-gt-MOST_LETTERS.false (omega (arith, c.unnamed.ensures, c.if-unnamed-gt0.true))

pub returns : goal.returns
returns c =
    plain_accepted c.args.plain.now c.args.size c.if-plain-gt-MOST_LETTERS.false (omega (arith, c.unnamed.ensures, c.if-unnamed-gt0.false))
