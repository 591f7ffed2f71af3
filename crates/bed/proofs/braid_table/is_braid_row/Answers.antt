-- A pair whose second word is another ends the row, and one more pair is as in the braid table.
use Rattle.std.proofs.Common.{refl, arith, below_more}
use Rattle.cells.proofs.Rules.{of_range}
use Rattle.bed.proofs.BraidWords.{pair_of_words, second_of_pair}
use Rattle.bed.proofs.braid_table.is_braid_row.Goals as goal

pub returns-then-not-has_braid_word-2 : goal.returns-then-not-has_braid_word-2
returns-then-not-has_braid_word-2 c T o =
    let a = c.args.a in
    let b = c.loop-b.b in
    let ra = of_range o a c.requires.1 c.requires.2 in
    let rb = of_range o b (omega arith) (omega arith) in
    (λ e. absurd (cc), λ each. (c.if-not-has_braid_word-2.ensures T o.stands rb ra).1 (second_of_pair T a b (each b (omega arith) (omega arith))))

pub loop-b-preserved : goal.loop-b-preserved
loop-b-preserved c T o =
    let a = c.args.a in
    let b = c.loop-b.b in
    let ra = of_range o a c.requires.1 c.requires.2 in
    let rb = of_range o b (omega arith) (omega arith) in
    let first = (c.if-not-has_braid_word.ensures T o.stands ra rb).0 refl in
    let second = (c.if-not-has_braid_word-2.ensures T o.stands rb ra).0 refl in
    below_more _ _ (c.loop-b.invariant T o) (λ low. pair_of_words T a b first second)
