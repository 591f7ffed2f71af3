-- The last letter is the last of the cell's word, where it has one.
use Rattle.mirrors.proofs.Backward.{ends_behind}
use Rattle.mirrors.proofs.sides.last_letter.Goals as goal

pub returns-else-count-eq0 : goal.returns-else-count-eq0
returns-else-count-eq0 c = ends_behind c.args.cells.now c.args.a c.args.cell c.if-count-eq0.false
