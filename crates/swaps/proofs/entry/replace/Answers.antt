-- The side lies in the place of the letters that were taken.
use Rattle.std.proofs.Common.{refl, arith, length}
use Rattle.swaps.proofs.Replacing.{holds_made}
use Rattle.swaps.proofs.entry.replace.Goals as goal

pub returns-clause-replaced : goal.returns-clause-replaced
returns-clause-replaced c =
    let a = c.args in
    holds_made a.bytes.now a.gap.left a.gap.right a.taken a.b a.word.now (length a.word.now) refl c.requires.0 c.requires.1 (omega arith)
    c.put_side.new.bytes c.put_side.ensures
