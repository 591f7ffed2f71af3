-- Each field names a letter, whose byte is written.
use Rattle.std.proofs.Common.{◌+◌, ◌*◌, ◌/◌, ◌%◌, ◌^◌, ◌<◌, ◌≤◌, ◌≡◌, subst, sym, ap, ◌∙◌, arith, zero-mul}
use Rattle.std.proofs.Math.Seq.{paste-zero}
use Rattle.model.specs.Images.{count_width, size_width, most_size}
use Rattle.model.specs.Plain.{plain_program}
use Rattle.bits.proofs.Width.{width_small}
use Rattle.images.specs.Fields.{from}
use Rattle.images.specs.BitReader.{TakenAt}
use Rattle.images.specs.Programs.{HasLetter}
use Rattle.images.proofs.BitReader.{span}
use Rattle.images.proofs.Placed.{count_inside}
use Rattle.images.proofs.Letters.{has_letter, count_of, field_there, sign_below, number_below, field_answer, next_letter_bits, unpack_more, unpack_all}
use Rattle.images.proofs.programs.unpack_letters.Goals as goal

pub at-reader-requires : goal.at-reader-requires
at-reader-requires c = let p = c.requires.0 in count_inside c.args.size p.few c.args.image.now p.program.word p.program.read

pub loop-i-init : goal.loop-i-init
loop-i-init c =
    let w = c.letter_width-width.result in (
      record {
        few = c.requires.0.few;
        narrow = subst (λ n. n ≤ size_width) (sym c.letter_width-width.ensures) (width_small c.args.size);
        width_is = c.letter_width-width.ensures;
      },
      c.at-reader.ensures ∙ ap (from c.args.image.now) {x = count_width} {y = count_width + 0 * (1 + w)} (omega (arith, zero-mul (1 + w))),
      λ w e. paste-zero c.args.area.now c.args.at (plain_program w),
    )

pub unwrap-field-requires : goal.unwrap-field-requires
unwrap-field-requires c =
    let p = has_letter c.args.image.now c.args.size c.args.count c.letter_width-width.result c.loop-i.i c.requires.0 c.letter_width-width.ensures
    c.loop-i-test.true in
    let e = c.loop-i.invariant.1 in
    field_there c.args.image.now c.args.size c.letter_width-width.result c.loop-i.i p c.take.result c.take.new.self (rw e at c.take.ensures)

-- the letter, and the field that was taken
has : (c : goal.After-unwrap-field) → HasLetter c.args.image.now c.args.size c.letter_width-width.result c.loop-i.i
has c = has_letter c.args.image.now c.args.size c.args.count c.letter_width-width.result c.loop-i.i c.requires.0 c.letter_width-width.ensures c.loop-i-test.true

taken : (c : goal.After-unwrap-field)
    → TakenAt (from c.args.image.now (count_width + c.loop-i.i * (1 + c.letter_width-width.result))) (1 + c.letter_width-width.result) c.unwrap-field.result
    c.take.new.self
taken c = let e = c.loop-i.invariant.1 in rw (e, c.unwrap-field.ensures) at c.take.ensures

sign : (c : goal.After-unwrap-field) → c.unwrap-field.result / 2 ^ c.letter_width-width.result < 2
sign c = sign_below c.args.image.now c.args.size c.letter_width-width.result c.loop-i.i (has c) c.unwrap-field.result c.take.new.self (taken c)

narrow : (c : goal.After-unwrap-field) → (1 * 2 ^ c.letter_width-width.result) % 4294967296 ≡ 2 ^ c.letter_width-width.result
narrow c = span c.letter_width-width.result (omega (arith, c.loop-i.invariant.0.narrow))

number : (c : goal.After-unwrap-field) → c.unwrap-field.result % ((1 * 2 ^ c.letter_width-width.result) % 4294967296) < most_size
number c =
    rw (narrow c)
    (number_below c.args.image.now c.args.size c.letter_width-width.result c.loop-i.i (has c) c.unwrap-field.result c.take.new.self (taken c))

pub overflow_cast-sign : goal.overflow_cast-sign
overflow_cast-sign c = omega (arith, sign c)

pub overflow_mul-area : goal.overflow_mul-area
overflow_mul-area c = omega (arith, sign c)

pub overflow_add-area : goal.overflow_add-area
overflow_add-area c = omega (arith, sign c, number c)

pub overflow_add-area-in-loop-i : goal.overflow_add-area-in-loop-i
overflow_add-area-in-loop-i c = omega (arith, sign c, number c)

pub loop-i-preserved : goal.loop-i-preserved
loop-i-preserved c =
    let width = c.letter_width-width.result in
    let i = c.loop-i.i in
    let at = c.args.at in (
      c.loop-i.invariant.0,
      next_letter_bits c.args.image.now width i c.unwrap-field.result c.take.new.self (taken c),
      λ w e.
          let n = count_of c.args.image.now c.args.size c.args.count c.requires.0 w e in
          let written = c.loop-i.invariant.2 w e in
          let byte = field_answer c.args.image.now c.args.size width i (has c) c.unwrap-field.result c.take.new.self (taken c) w e in
          rw (narrow c, written, byte) (unpack_more c.args.area.now at w i (omega (arith, c.requires.1)) (omega (arith, c.loop-i-test.true))),
    )

pub returns-clause-bytes : goal.returns-clause-bytes
returns-clause-bytes c =
    λ w e.
    c.loop-i.invariant.2 w e
    ∙ unpack_all c.args.area.now c.args.at w c.loop-i.i
    (count_of c.args.image.now c.args.size c.args.count c.requires.0 w e ∙ omega (arith, c.loop-i.auto.i-end, c.loop-i-test.false))
