-- A count stands after the body, and it is read or none is.
use mathlib.Core.Path.{sym, ap, ◌∙◌}
use lib.ListN.{drop}
use lib.Seq.{drop-drop}
use Rattle.model.specs.Outcome.{answered}
use Rattle.model.specs.Notation.{no_pattern, read_number}
use Rattle.importing.specs.Reading.{kept, spanned, counting}
use Rattle.importing.proofs.Keeping.{count_present}
use Rattle.importing.proofs.reading.read_count.Goals as goal

pub returns-in_err-count : goal.returns-in_err-count
returns-in_err-count c =
    let text = c.args.text.now in
    let b = c.in_ok-span.span in
    ap (spanned text) c.from_residual-in_err-count.ensures
    ∙ sym (ap (λ o. counting (spanned text o)) c.in_ok-span.was
    ∙ count_present (kept text b) (sym c.stands.ensures ∙ c.if-not-stands.false) no_pattern
    (c.in_err-count.ensures ∙ ap read_number (sym (drop-drop 1 b.next text))))

pub returns : goal.returns
returns c =
    let text = c.args.text.now in
    let b = c.in_ok-span.span in
    let n = c.in_ok-count.count in
    sym (ap (λ o. counting (spanned text o)) c.in_ok-span.was
    ∙ count_present (kept text b) (sym c.stands.ensures ∙ c.if-not-stands.false) (answered (record { value = n.value; rest = drop n.next text }))
    (c.in_ok-count.ensures ∙ ap read_number (sym (drop-drop 1 b.next text)))
    ∙ ap (λ m. answered (record { moves = m; highest = b.highest; rest = drop n.next text })) (sym c.times.ensures))
