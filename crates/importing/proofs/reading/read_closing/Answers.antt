-- The closing bracket stands, and the text goes on after it.
use mathlib.Core.Path.{sym, ap, ◌∙◌}
use lib.Seq.{drop-drop}
use Rattle.model.specs.Outcome.{answered}
use Rattle.importing.specs.Reading.{kept, spanned, closing}
use Rattle.importing.proofs.Keeping.{closed_there}
use Rattle.importing.proofs.reading.read_closing.Goals as goal

pub returns : goal.returns
returns c =
    let text = c.args.text.now in
    let h = c.in_ok-span.span in
    sym (ap (λ o. closing (spanned text o)) c.in_ok-span.was
    ∙ closed_there (kept text h) (sym c.stands.ensures ∙ c.if-not-stands.false)
    ∙ ap (λ t. answered (record { moves = h.moves; highest = h.highest; rest = t })) (drop-drop 1 h.next text))
