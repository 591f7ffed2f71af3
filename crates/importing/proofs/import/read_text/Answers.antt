-- The whole text is the pattern, and no byte follows it.
use Rattle.std.proofs.Common.{sym, subst}
use Rattle.importing.specs.Import.{TextDone}
use Rattle.importing.proofs.Importing.{text_none, text_followed, text_of}
use Rattle.importing.proofs.import.read_text.Goals as goal

pub returns-in_err-span : goal.returns-in_err-span
returns-in_err-span c = subst (TextDone c.args.text.now) (sym c.from_residual.ensures) (text_none c.args.text.now c.in_err-span.ensures)

pub returns-then-span-text : goal.returns-then-span-text
returns-then-span-text c = text_followed c.args.text.now c.in_ok-span.span c.in_ok-span.ensures c.if-span-text.true

pub returns : goal.returns
returns c = text_of c.args.text.now c.in_ok-span.span c.in_ok-span.ensures c.if-span-text.false
