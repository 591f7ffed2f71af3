-- A field that is taken says a number, or none of those that it may say.
use Rattle.std.proofs.Common.{◌-◌, ◌<◌, ◌≤◌, ◌∙◌, arith, sym}
use Rattle.std.specs.Option.{SomeIff}
use Rattle.std.proofs.lemmas.Result.{err_from_is_err_and}
use Rattle.images.specs.declared.fields.FieldFault.TheVariants.{Wrong}
use Rattle.images.proofs.Failing.{or_ok, or_err}
use Rattle.images.proofs.Numbers.{was_taken, was_short, field_short, field_read, number_ends, number_below, number_above, number_said}
use Rattle.images.proofs.bit_reader.BitReader.take_number.Goals as goal

pub returns-in_err-value : goal.returns-in_err-value
returns-in_err-value c =
    let p = err_from_is_err_and c.from_residual.result c.from_residual.ensures.1 in
    let short = was_short c.args.width c.args.self.now c.take.new.self c.take.result c.take.ensures _ (sym c.ok_or.ensures.value ∙ c.in_err-value.was) in
    rw (p.1, p.2, short.1) (number_ends c.args.width c.args.low c.args.many c.args.self.now (field_short 1 c.args.width c.args.self.now short.0.0), short.0.1)

pub returns-in_err-number : goal.returns-in_err-number
returns-in_err-number c =
    let value = c.in_ok-value.value in
    let p = err_from_is_err_and c.from_residual-in_err-number.result c.from_residual-in_err-number.ensures.1 in
    let below =
    or_err Wrong (λ o. SomeIff o (c.args.low ≤ value) (value - c.args.low)) c.checked_sub.result c.checked_sub.ensures _
    (sym c.ok_or-2.ensures.value ∙ c.in_err-number.was) in
    rw (p.1, p.2, below.1) (
      number_below c.args.width c.args.low c.args.many c.args.self.now value c.take.new.self
          (field_read c.args.width c.args.self.now c.take.new.self c.take.result c.take.ensures 1 _ (sym c.ok_or.ensures.value ∙ c.in_ok-value.was))
          (omega (arith, below.0)),
      (was_taken c.args.width c.args.self.now c.take.new.self c.take.result c.take.ensures _ (sym c.ok_or.ensures.value ∙ c.in_ok-value.was)).after_is,
    )

pub returns-then-many-number : goal.returns-then-many-number
returns-then-many-number c =
    let value = c.in_ok-value.value in
    let said =
    or_ok Wrong (λ o. SomeIff o (c.args.low ≤ value) (value - c.args.low)) c.checked_sub.result c.checked_sub.ensures _
    (sym c.ok_or-2.ensures.value ∙ c.in_ok-number.was) in (
      number_above c.args.width c.args.low c.args.many c.args.self.now value c.take.new.self
          (field_read c.args.width c.args.self.now c.take.new.self c.take.result c.take.ensures 1 _ (sym c.ok_or.ensures.value ∙ c.in_ok-value.was))
          said.0 (omega (arith, said.1, c.if-many-number.true)),
      (was_taken c.args.width c.args.self.now c.take.new.self c.take.result c.take.ensures _ (sym c.ok_or.ensures.value ∙ c.in_ok-value.was)).after_is,
    )

pub returns : goal.returns
returns c =
    let value = c.in_ok-value.value in
    let said =
    or_ok Wrong (λ o. SomeIff o (c.args.low ≤ value) (value - c.args.low)) c.checked_sub.result c.checked_sub.ensures _
    (sym c.ok_or-2.ensures.value ∙ c.in_ok-number.was) in
    let small : value - c.args.low < c.args.many = omega (arith, said.1, c.if-many-number.false) in
    rw said.1
    (record {
      small = small;
      read =
          number_said c.args.width c.args.low c.args.many c.args.self.now value c.take.new.self
          (field_read c.args.width c.args.self.now c.take.new.self c.take.result c.take.ensures 1 _ (sym c.ok_or.ensures.value ∙ c.in_ok-value.was))
          said.0 small;
    })
