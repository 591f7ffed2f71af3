-- A letter more is stored at each turn, or refuses the word.
use Rattle.std.proofs.Common.{◌+◌, ◌∙◌, arith}
use Rattle.std.proofs.lemmas.Result.{err_from_is_err_and}
use Rattle.images.specs.Fields.{fault_code}
use Rattle.images.specs.Forms.{letter_in, word_in}
use Rattle.images.proofs.Words.{letters_none, letters_more, letters_refused, word_from, word_letters, letter_unread, letter_said}
use Rattle.images.proofs.tables.read_word.Goals as goal

pub loop-k-init : goal.loop-k-init
loop-k-init c =
    let a = c.args in
    letters_none (letter_in a.form.fields a.form.size) c.take_number.new.self a.form.size a.cells.now a.cell c.in_ok-count.count c.requires
    c.in_ok-count.ensures.small

pub returns-in_err-number-clause-word : goal.returns-in_err-number-clause-word
returns-in_err-number-clause-word c =
    let a = c.args in
    let p = err_from_is_err_and c.from_residual-in_err-number.result c.from_residual-in_err-number.ensures.1 in
    rw (p.1, p.2)
    (word_letters a.form.fields a.form.size a.reader.now c.in_ok-count.count c.take_number.new.self c.in_ok-count.ensures.read
    ∙ letters_refused (letter_in a.form.fields a.form.size) c.take_number.new.self a.form.size a.cells.now a.cell c.in_ok-count.count c.requires
    c.in_ok-count.ensures.small
    c.loop-k.cells c.loop-k.reader c.loop-k.k c.loop-k.invariant (fault_code 1 2 c.in_err-number.field-0.0) c.loop-k-test.true
    (letter_unread a.form.fields a.form.size c.loop-k.reader (fault_code 1 2 c.in_err-number.field-0.0) c.in_err-number.ensures.0))

pub loop-k-preserved : goal.loop-k-preserved
loop-k-preserved c =
    let a = c.args in
    letters_more (letter_in a.form.fields a.form.size) c.take_number.new.self a.form.size a.cells.now a.cell c.in_ok-count.count c.requires
    c.in_ok-count.ensures.small
    c.loop-k.cells c.loop-k.reader c.loop-k.k c.loop-k.invariant (c.in_ok-number.number + 1) c.take_number-in-loop-k.new.self c.loop-k-test.true
    (record { low = omega arith; high = omega (arith, c.in_ok-number.ensures.small) })
    (letter_said a.form.fields a.form.size c.loop-k.reader c.in_ok-number.number c.take_number-in-loop-k.new.self c.in_ok-number.ensures.read)

pub returns-clause-word : goal.returns-clause-word
returns-clause-word c =
    let a = c.args in
    word_from (letter_in a.form.fields a.form.size) c.take_number.new.self a.form.size a.cells.now a.cell c.in_ok-count.count c.requires
    c.in_ok-count.ensures.small
    c.loop-k.cells c.loop-k.reader c.loop-k.k c.loop-k.invariant (word_in a.form.fields a.form.size) a.reader.now
    (word_letters a.form.fields a.form.size a.reader.now c.in_ok-count.count c.take_number.new.self c.in_ok-count.ensures.read) c.loop-k-test.false
