-- What was put and closed fills the area, which has room for it or is left as it was.
use Rattle.std.proofs.Common.{arith}
use Rattle.std.proofs.lemmas.Result.{err_from_is_err_and}
use Rattle.writers.specs.Programs.{program_bits}
use Rattle.writers.proofs.BitWriter.{fills_short, fills_closed}
use Rattle.writers.proofs.Letters.{program_length, program_bits_lem}
use Rattle.writers.proofs.programs.write_program.Goals as goal

pub returns-in_err-bytes : goal.returns-in_err-bytes
returns-in_err-bytes c =
    let p = err_from_is_err_and c.from_residual.result c.from_residual.ensures.1 in
    let a = c.args in
    let l = program_length a.size c.letter_width-width.result c.letter_width-width.ensures a.plain.now in
    rw (p.1, p.2) (fills_short a.area.now (program_bits a.size a.plain.now) _ c.in_err-bytes.ensures.0 (rw (← l) at c.in_err-bytes.ensures.1))

pub returns : goal.returns
returns c =
    let a = c.args in
    let p = c.put_program.ensures in
    let l = program_length a.size c.letter_width-width.result c.letter_width-width.ensures a.plain.now in
    fills_closed a.area.now (program_bits a.size a.plain.now) _ c.new-writer.result c.put_program.new.writer c.close.new.self
    (program_bits_lem a.size a.plain.now) c.new-writer.ensures.begins p c.close.ensures
    (grind (arith, c.new-writer.ensures.same_area, p.same_area, c.close.ensures.same_area)) (λ i. omega (arith, c.type_inv.area i))
    (rw l c.in_ok-bytes.ensures.1) c.in_ok-bytes.bytes (rw l c.in_ok-bytes.ensures.0)
