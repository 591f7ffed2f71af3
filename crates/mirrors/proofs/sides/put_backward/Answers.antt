-- The letters behind the first but the last are copied and turned around, and the first is put behind them.
use Rattle.std.proofs.Common.{◌∙◌, ap, reverse}
use Rattle.mirrors.proofs.Backward.{put_whole, copied_letters}
use Rattle.mirrors.proofs.sides.put_backward.Goals as goal

pub returns-then-count-gt0 : goal.returns-then-count-gt0
returns-then-count-gt0 c =
    let a = c.args in
    let some = c.if-count-gt0.true in
    put_whole a.cells.now a.a a.cell c.requires.side a.mirror.now a.to c.requires.room some c.reverse.new.self
    (c.reverse.ensures.after
    ∙ ap reverse (copied_letters a.cells.now a.a a.cell c.requires.side a.mirror.now a.to c.requires.room some c.copy_bytes.new.area
    c.copy_bytes.ensures.bytes))
