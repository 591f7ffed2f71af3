-- One more move of the program.
use Rattle.std.proofs.Common.{arith}
use Rattle.images.proofs.Letters.{count_of}
use Rattle.bed.proofs.Moving.{next_moves, next_shows}
use Rattle.bed.proofs.moves.laid.Goals as goal

pub make_move-requires : goal.make_move-requires
make_move-requires c =
    let a = c.args in
    let p = c.requires.0.program in
    next_moves a.program.now a.size c.requires.0.few p.word p.read c.loop-i.i (omega (arith, p.count_is)) c.loop-i.bed (c.loop-i.invariant p.word p.read)
    c.letter_at.result (c.letter_at.ensures p.word p.read)

pub loop-i-preserved : goal.loop-i-preserved
loop-i-preserved c w e =
    let a = c.args in
    next_shows a.program.now a.size c.requires.0.few w e c.loop-i.i (omega (arith, count_of a.program.now a.size a.count c.requires.0 w e)) c.loop-i.bed
    (c.loop-i.invariant w e) c.letter_at.result (c.letter_at.ensures w e) c.make_move.new.self c.make_move.ensures
