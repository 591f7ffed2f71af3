-- The bytes of the bed, or an area that is too short for them.
use Rattle.std.proofs.Common.{◌+◌, take, refl, arith}
use Rattle.images.proofs.Letters.{count_of}
use Rattle.bed.proofs.Answering.{laid_places, bed_short, bed_answers}
use Rattle.bed.proofs.bed.show_program.Goals as goal

pub returns-then-answer-bytes : goal.returns-then-answer-bytes
returns-then-answer-bytes c w e = bed_short c.args.size c.args.moves w c.args.answer.now (c.args.size + 1) refl c.if-answer-bytes.true

pub write_bed-requires : goal.write_bed-requires
write_bed-requires c =
    let m = c.requires.program in
    let p = laid_places c.laid-bed.result c.args.size (take c.moves_made.result m.word) (c.laid-bed.ensures m.word m.read) in
    (omega (arith, p), omega (arith, p), rw p (omega arith))

pub returns : goal.returns
returns c w e =
    let a = c.args in
    let made = c.moves_made in
    bed_answers a.size a.moves w a.answer.now (a.size + 1) refl (omega (arith, c.if-answer-bytes.false)) a.count made.result
    (count_of a.program.now a.size a.count c.requires w e) made.ensures c.laid-bed.result (c.laid-bed.ensures w e) c.write_bed.new.area
    c.write_bed.ensures.bed
