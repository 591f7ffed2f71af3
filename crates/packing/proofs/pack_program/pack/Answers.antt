-- A refusal is that of the table or of the program. Else the area is filled with the program's image.
use Rattle.std.proofs.Common.{length, map, ap, sym, ◌∙◌, arith}
use Rattle.std.proofs.lemmas.Result.{err_from_is_err_and}
use Rattle.model.specs.Word.{letter}
use Rattle.model.specs.Bits.{pack}
use Rattle.model.specs.Services.{fitted, pack_program, program_under, plain_program_under, unpack_program}
use Rattle.writers.specs.Programs.{program_bits}
use Rattle.writers.proofs.Letters.{program_image_lem}
use Rattle.packing.proofs.Packing.{pack_table_refused, pack_program_refused, pack_read}
use Rattle.packing.proofs.ReadBack.{promised_refused, promised_filled, program_unpacked, program_back}
use Rattle.packing.proofs.pack_program.pack.Goals as goal

pub returns-in_err-size : goal.returns-in_err-size
returns-in_err-size c =
    let t = c.args.table.now in
    let given = c.args.plain.now in
    let area = c.args.answer.now in
    let p = err_from_is_err_and c.from_residual.result c.from_residual.ensures.1 in
    rw (p.1, p.2)
    (promised_refused (pack_program t) (unpack_program t) (program_unpacked t) (plain_program_under t) (program_under t) given area _
    (pack_table_refused t given (length area) _ c.in_err-size.ensures))

pub returns-in_err-read_plain_program : goal.returns-in_err-read_plain_program
returns-in_err-read_plain_program c =
    let t = c.args.table.now in
    let given = c.args.plain.now in
    let area = c.args.answer.now in
    let s = c.in_ok-size.ensures in
    let p = err_from_is_err_and c.from_residual-in_err-read_plain_program.result c.from_residual-in_err-read_plain_program.ensures.1 in
    rw (p.1, p.2)
    (promised_refused (pack_program t) (unpack_program t) (program_unpacked t) (plain_program_under t) (program_under t) given area _
    (pack_program_refused t given (length area) s.table _ s.read s.size_is _ c.in_err-read_plain_program.ensures))

pub returns : goal.returns
returns c =
    let t = c.args.table.now in
    let given = c.args.plain.now in
    let area = c.args.answer.now in
    let s = c.in_ok-size.ensures in
    let n = c.in_ok-size.size in
    let program = c.in_ok-read_plain_program.ensures in
    let image = program_image_lem n given in
    promised_filled (pack_program t) (unpack_program t) (program_unpacked t) (plain_program_under t) (program_under t) given area (pack (program_bits n given))
    (pack_read t given (length area) s.table _ s.read s.size_is (map letter given) program.read ∙ ap (fitted (length area)) image)
    (ap (program_under t) (sym image)
    ∙ program_back t s.table _ s.read s.size_is given (λ i. omega (arith, c.type_inv.plain i)) (map letter given) program.read)
    c.write_program.result c.write_program.new.area c.write_program.ensures
