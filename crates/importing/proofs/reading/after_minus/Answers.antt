-- The text after a minus that stands.
use mathlib.Core.Path.{sym, ap, ◌∙◌}
use mathlib.Core.Bool.{Bool}
use lib.ListN.{drop}
use lib.Seq.{drop-drop}
use Rattle.model.specs.Bits.{Read}
use Rattle.importing.proofs.Readers.{minus_there}
use Rattle.importing.proofs.reading.after_minus.Goals as goal

pub returns-then-stands : goal.returns-then-stands
returns-then-stands c =
    let a = c.args in
    sym (ap (λ (r : Read Bool). r.rest) (minus_there (drop a.at a.text.now) (sym c.stands.ensures ∙ c.if-stands.true)) ∙ drop-drop 1 a.at a.text.now)
