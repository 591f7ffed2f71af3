-- `sets::set::grow_set` meets its contract: the first words are written, and the places gone through from there on.
use Rattle.std.proofs.Common.{arith, ap, sym, length, ◌∙◌}
use Rattle.model.specs.Signed.{first_words, grown_set}
use Rattle.cells.proofs.Rules.{of_few}
use Rattle.sets.proofs.Closing.{told, first_stops, set_is, first_growing}
use Rattle.sets.proofs.set.grow_set.Goals as goal

pub returns-then-workspace-first-clause-set : goal.returns-then-workspace-first-clause-set
returns-then-workspace-first-clause-set c T o =
    first_stops T c.args.budget (length c.args.workspace.now) (omega (arith, c.if-workspace-first.true, o.sized))

pub take_places-requires : goal.take_places-requires
take_places-requires c =
    let T = c.requires.0 in
    let o = c.requires.1 in
    let f = c.write_first in
    (T, first_words T.size, o.stands, first_growing T.size c.args.size f.new.area o.sized (of_few o) (omega arith) f.ensures.words)

pub returns-clause-set : goal.returns-clause-set
returns-clause-set c T o =
    let f = c.write_first in
    c.take_places.ensures.grown T (first_words T.size) o.stands
    (first_growing T.size c.args.size f.new.area o.sized (of_few o) (omega arith) f.ensures.words)
    ∙ (ap told (sym (set_is T c.args.budget (length f.new.area))) ∙ ap (λ i. told (grown_set T c.args.budget i)) f.ensures.length)
