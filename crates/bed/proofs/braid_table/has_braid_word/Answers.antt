-- The first bytes of the cell decide, those of b a or those of b.
use Rattle.std.proofs.Common.{[], ◌∷◌, arith}
use Rattle.bed.proofs.BraidWords.{near_word, far_word, word_decided}
use Rattle.bed.proofs.braid_table.has_braid_word.Goals as goal

pub returns-then-are_adjacent : goal.returns-then-are_adjacent
returns-then-are_adjacent c T s ra rb =
    let a = c.args.a in
    let b = c.args.b in
    word_decided c.args.cells.now T s a b ra rb (b ∷ a ∷ []) (omega arith) (near_word a b c.if-are_adjacent.ensures) c.cell_at-cell.result _
    c.cell_at-cell.ensures (omega arith) c.eq.result c.eq.ensures

pub returns : goal.returns
returns c T s ra rb =
    let a = c.args.a in
    let b = c.args.b in
    word_decided c.args.cells.now T s a b ra rb (b ∷ []) (omega arith) (far_word a b c.if-are_adjacent.ensures) c.cell_at-cell.result _
    c.cell_at-cell.ensures (omega arith) c.eq-2.result c.eq-2.ensures
