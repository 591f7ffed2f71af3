-- `ways::trying::fitting_swap` meets its contract: the letters are the same, their pair is undefined, the side does not stand there, or it does.
use Rattle.std.proofs.Common.{arith, sym, true, false, ◌∙◌, ◌+◌, ℕ, List, get_or, drop}
use Rattle.model.specs.Range.{InRange}
use Rattle.model.specs.Images.{most_size}
use Rattle.swaps.proofs.Comparing.{word_looked}
use Rattle.swaps.proofs.Applying.{same_breaks, open_breaks}
use Rattle.ways.specs.State.{Letter, entry_at, held_word}
use Rattle.ways.specs.declared.trying.Held.{Held}
use Rattle.ways.proofs.Relations.{letter_named, word_inside, side_held, absent_fits_not, long, swap_fits, swap_applied, sixteen, in_table, cell_inside}
use Rattle.ways.proofs.trying.fitting_swap.Goals as goal

-- the word's letter and the other one are letters of the table, and letters that a table can have
module _ {cells area : List ℕ} {held : Held} {offset b : ℕ} (q : Letter cells area held offset b) where
  letter_in : InRange q.work.table.size (get_or area (held.word + offset) 0)
  letter_in = letter_named q.work area held q.busy offset q.inside

  other_in : InRange q.work.table.size b
  other_in = in_table q.work b q.named

  letter_16 : InRange most_size (get_or area (held.word + offset) 0)
  letter_16 = sixteen q.work _ letter_in

  other_16 : InRange most_size b
  other_16 = sixteen q.work b other_in

pub overflow_add-a : goal.overflow_add-a
overflow_add-a c = omega (arith, word_inside c.requires.work _ _ c.requires.busy, c.requires.inside)

pub bounds-area-held : goal.bounds-area-held
bounds-area-held c = omega (arith, word_inside c.requires.work _ _ c.requires.busy, c.requires.inside)

pub returns-then-a-b : goal.returns-then-a-b
returns-then-a-b c size g t r =
    same_breaks g.table g.word (entry_at c.args.offset (get_or c.args.area.now (c.args.held.word + c.args.offset) 0) c.args.b) c.if-a-b.true

pub cell_at-to-requires : goal.cell_at-to-requires
cell_at-to-requires c = (letter_16 c.requires, other_16 c.requires)

pub bounds-cells-to : goal.bounds-cells-to
bounds-cells-to c =
    cell_inside c.args.cells.now _ c.args.b _ c.requires.work.of.stands.full (letter_16 c.requires) (other_16 c.requires) c.cell_at-to.ensures

pub returns-then-x-eq-UNDEFINED_LENGTH : goal.returns-then-x-eq-UNDEFINED_LENGTH
returns-then-x-eq-UNDEFINED_LENGTH c size g t r =
    open_breaks g.table g.word (entry_at c.args.offset (get_or c.args.area.now (c.args.held.word + c.args.offset) 0) c.args.b) c.if-a-b.false
    c.args.cells.now g.of.stands (letter_named g _ _ t _ c.requires.inside) (in_table g _ r) c.cell_at-to.result c.cell_at-to.ensures
    c.if-x-eq-UNDEFINED_LENGTH.true

pub cell_word-requires : goal.cell_word-requires
cell_word-requires c =
    let q = c.requires in
    (side_held q.work _ _ q.busy _ q.inside _ _ c.if-a-b.false (letter_in q) (other_in q) _ c.cell_at-to.ensures c.if-x-eq-UNDEFINED_LENGTH.false).0

pub stands_in_word-requires : goal.stands_in_word-requires
stands_in_word-requires c = let q = c.requires in (word_inside q.work _ _ q.busy, omega (arith, q.inside))

pub returns-then-not-stands_in_word : goal.returns-then-not-stands_in_word
returns-then-not-stands_in_word c size g t r =
    absent_fits_not g _ _ t _ c.requires.inside _ _ c.if-a-b.false (letter_named g _ _ t _ c.requires.inside) (in_table g _ r) _
    c.cell_at-to.ensures c.if-x-eq-UNDEFINED_LENGTH.false
    (word_looked c.args.cells.now _ c.cell_word.result.now c.cell_word.ensures.length c.cell_word.ensures.word
    (drop c.args.offset (held_word c.args.area.now c.args.held)) (get_or c.args.area.now (c.args.held.word + c.args.offset) 0) false
    (sym c.stands_in_word.ensures ∙ c.if-not-stands_in_word.true))

pub cell_at-from-requires : goal.cell_at-from-requires
cell_at-from-requires c = (other_16 c.requires, letter_16 c.requires)

pub bounds-cells-from : goal.bounds-cells-from
bounds-cells-from c =
    cell_inside c.args.cells.now c.args.b _ _ c.requires.work.of.stands.full (other_16 c.requires) (letter_16 c.requires) c.cell_at-from.ensures

pub overflow_sub-result : goal.overflow_sub-result
overflow_sub-result c =
    let q = c.requires in
    long q.work _ _ q.busy _ q.inside _ _ c.if-a-b.false (letter_in q) (other_in q) _ c.cell_at-to.ensures c.if-x-eq-UNDEFINED_LENGTH.false
    (word_looked c.args.cells.now _ c.cell_word.result.now c.cell_word.ensures.length c.cell_word.ensures.word
    (drop c.args.offset (held_word c.args.area.now c.args.held)) (get_or c.args.area.now (c.args.held.word + c.args.offset) 0) true
    (sym c.stands_in_word.ensures ∙ c.if-not-stands_in_word.false)) _ c.cell_at-from.ensures

pub returns : goal.returns
returns c size g t r =
    let inside = c.requires.inside in
    let letter = letter_named g _ _ t _ inside in
    let other = in_table g _ r in
    let apart = c.if-a-b.false in
    let defined = c.if-x-eq-UNDEFINED_LENGTH.false in
    let there =
    (word_looked c.args.cells.now _ c.cell_word.result.now c.cell_word.ensures.length c.cell_word.ensures.word
    (drop c.args.offset (held_word c.args.area.now c.args.held)) (get_or c.args.area.now (c.args.held.word + c.args.offset) 0) true
    (sym c.stands_in_word.ensures ∙ c.if-not-stands_in_word.false)) in (
      swap_fits g _ _ t _ inside _ _ apart letter other _ c.cell_at-to.ensures defined there _ c.cell_at-from.ensures,
      swap_applied g _ _ t _ inside _ _ apart letter other _ c.cell_at-to.ensures defined there _ c.cell_at-from.ensures,
    )
