-- A refusal is that of the table or of the program, or the area is too short. Else the area begins with the letters' bytes.
use Rattle.std.proofs.Common.{length, drop, ◌++◌, ◌+◌, ap, ◌∙◌, arith}
use Rattle.std.proofs.lemmas.Result.{err_from_is_err_and}
use lib.ListN.{length-map}
use Rattle.cells.proofs.Rules.{blank_zeros}
use Rattle.model.specs.Word.{byte}
use Rattle.model.specs.Plain.{plain_program}
use Rattle.model.specs.Services.{unpack_program, program_under, plain_program_under, pack_program}
use Rattle.model.specs.declared.answers.Refusal.TheVariants.{AnswerShort}
use Rattle.packing.proofs.Packing.{short_area, long_area, unpack_table_refused, unpack_program_refused, unpack_read}
use Rattle.packing.proofs.ReadBack.{promised_refused, promised_written, program_packed, plain_program_back}
use Rattle.packing.proofs.unpack_program.unpack.Goals as goal

pub read_table-requires : goal.read_table-requires
read_table-requires c = blank_zeros

pub returns-in_err-size : goal.returns-in_err-size
returns-in_err-size c =
    let t = c.args.table.now in
    let given = c.args.program.now in
    let area = c.args.answer.now in
    let p = err_from_is_err_and c.from_residual.result c.from_residual.ensures.1 in
    rw (p.1, p.2)
    (promised_refused (unpack_program t) (pack_program t) (program_packed t) (program_under t) (plain_program_under t) given area _
    (unpack_table_refused t given (length area) _ c.in_err-size.ensures.table))

pub returns-in_err-read : goal.returns-in_err-read
returns-in_err-read c =
    let t = c.args.table.now in
    let given = c.args.program.now in
    let area = c.args.answer.now in
    let l = c.in_ok-size.ensures.table in
    let p = err_from_is_err_and c.from_residual-in_err-read.result c.from_residual-in_err-read.ensures.1 in
    rw (p.1, p.2)
    (promised_refused (unpack_program t) (pack_program t) (program_packed t) (program_under t) (plain_program_under t) given area _
    (unpack_program_refused t given (length area) l.table _ l.read l.of.sized _ c.in_err-read.ensures))

pub returns-then-answer-bytes : goal.returns-then-answer-bytes
returns-then-answer-bytes c =
    let t = c.args.table.now in
    let given = c.args.program.now in
    let area = c.args.answer.now in
    let l = c.in_ok-size.ensures.table in
    let m = c.in_ok-read.ensures.program in
    promised_refused (unpack_program t) (pack_program t) (program_packed t) (program_under t) (plain_program_under t) given area AnswerShort
    (unpack_read t given (length area) l.table _ l.read l.of.sized m.word m.read
    ∙ short_area (length area) (plain_program m.word) (omega (arith, c.if-answer-bytes.true, m.count_is, length-map m.word byte)))

pub returns : goal.returns
returns c =
    let t = c.args.table.now in
    let given = c.args.program.now in
    let area = c.args.answer.now in
    let l = c.in_ok-size.ensures.table in
    let m = c.in_ok-read.ensures.program in
    promised_written (unpack_program t) (pack_program t) (program_packed t) (program_under t) (plain_program_under t) given area (plain_program m.word)
    c.unpack_letters.new.area _
    (unpack_read t given (length area) l.table _ l.read l.of.sized m.word m.read
    ∙ long_area (length area) (plain_program m.word) (omega (arith, c.if-answer-bytes.false, m.count_is, length-map m.word byte)))
    (length-map m.word byte ∙ m.count_is)
    (c.unpack_letters.ensures.bytes m.word m.read ∙ ap (λ n. plain_program m.word ++ drop n area) {x = 0 + length (plain_program m.word)}
    {y = length (plain_program m.word)} (omega arith))
    (plain_program_back t l.table _ l.read l.of.sized given m.word m.read)
