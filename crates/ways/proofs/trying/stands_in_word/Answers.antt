-- The side is looked for in the area, where the word is long enough for it.
use Rattle.std.proofs.Common.{arith, sym, ap, ◌∙◌, ◌+◌, ◌∷◌, length}
use Rattle.model.specs.Equivalence.{equal}
use Rattle.ways.proofs.Relations.{word_part, short_stands_not}
use Rattle.ways.proofs.trying.stands_in_word.Goals as goal

pub returns-then-held-offset : goal.returns-then-held-offset
returns-then-held-offset c =
    let a = c.args in
    sym (short_stands_not a.area.now a.held c.requires.0 a.offset (1 + length a.word.now) (a.a ∷ a.word.now) (omega arith) c.requires.1
    c.if-held-offset.true)

pub returns : goal.returns
returns c =
    let a = c.args in
    c.stands_at.ensures
    ∙ ap (λ l. equal l (a.a ∷ a.word.now)) (word_part a.area.now a.held c.requires.0 a.offset (1 + length a.word.now) c.if-held-offset.false)
