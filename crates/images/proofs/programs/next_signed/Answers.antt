-- The field that is taken has the letter's sign and its number.
use Rattle.std.proofs.Common.{◌+◌, ◌<◌, sym, ap, drop, ◌∙◌, arith}
use Rattle.std.proofs.lemmas.Result.{err_from_is_err_and}
use Rattle.images.proofs.Numbers.{was_taken, was_short}
use Rattle.images.proofs.BitReader.{span}
use Rattle.images.proofs.Signed.{signed_short, sign_small, signed_wrong, signed_taken}
use Rattle.images.proofs.programs.next_signed.Goals as goal

pub returns-in_err-field : goal.returns-in_err-field
returns-in_err-field c =
    let a = c.args in
    let p = err_from_is_err_and c.from_residual.result c.from_residual.ensures.1 in
    let short = was_short (1 + a.width) a.reader.now c.take.new.self c.take.result c.take.ensures _ (sym c.ok_or.ensures.value ∙ c.in_err-field.was) in
    rw (p.1, p.2, short.1) (signed_short a.size a.width c.requires a.reader.now short.0.0, short.0.1)

pub returns-then-size-number : goal.returns-then-size-number
returns-then-size-number c =
    let a = c.args in
    let narrow : a.width < 32 = omega (arith, c.requires.narrow) in
    let taken = was_taken (1 + a.width) a.reader.now c.take.new.self c.take.result c.take.ensures _ (sym c.ok_or.ensures.value ∙ c.in_ok-field.was) in (
      signed_wrong a.size a.width c.requires a.reader.now _ _ taken (rw (span a.width narrow) at c.if-size-number.true),
      taken.after_is ∙ ap (λ w. drop (1 + w) a.reader.now) c.requires.width_is,
    )

pub overflow_cast-result : goal.overflow_cast-result
overflow_cast-result c =
    let a = c.args in
    omega (
      arith,
      sign_small a.size a.width c.requires a.reader.now _ _
          (was_taken (1 + a.width) a.reader.now c.take.new.self c.take.result c.take.ensures _ (sym c.ok_or.ensures.value ∙ c.in_ok-field.was)),
    )

pub returns : goal.returns
returns c =
    let a = c.args in
    let narrow : a.width < 32 = omega (arith, c.requires.narrow) in
    rw (span a.width narrow)
    (signed_taken a.size a.width c.requires a.reader.now _ _
    (was_taken (1 + a.width) a.reader.now c.take.new.self c.take.result c.take.ensures _ (sym c.ok_or.ensures.value ∙ c.in_ok-field.was))
    (rw (span a.width narrow) at c.if-size-number.false))
