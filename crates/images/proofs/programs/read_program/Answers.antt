-- A letter more is passed at each turn, or refuses the image.
use Rattle.std.proofs.Common.{ℕ, ◌<◌, ◌≤◌, ◌≡◌, true, false, Bool, nat_eq, refl, subst, sym, ap, ◌∙◌, arith}
use Rattle.std.specs.declared.result.Result.{Result}
use Rattle.std.proofs.lemmas.Result.{err_from_is_err_and}
use Rattle.model.specs.Images.{count_width, size_width, read_program}
use Rattle.model.specs.Bits.{filling}
use Rattle.model.specs.Plain.{most_letters}
use Rattle.model.specs.declared.answers.Refusal.{Refusal}
use Rattle.model.specs.declared.answers.Refusal.TheVariants.{ImageEnds}
use Rattle.bits.proofs.Width.{width_small}
use Rattle.cells.proofs.Rules.{of_size}
use Rattle.images.specs.Fields.{FieldDone, fault_code, image_refusal}
use Rattle.images.specs.Programs.{SignedDone, ended_by, ProgramDone}
use Rattle.images.specs.declared.programs.Tally.{Tally}
use Rattle.images.specs.declared.programs.ProgramRead.{ProgramRead}
use Rattle.images.proofs.Failing.{or_ok, or_err, mapped_ok, mapped_err, image_code}
use Rattle.images.proofs.Validating.{program, count_ends, value_refused, whole_held, whole_tail}
use Rattle.images.proofs.Measuring.{passed_none, passed_named, passed_light, passed_more, no_back}
use Rattle.images.proofs.programs.read_program.Goals as goal

pub returns-in_err-count : goal.returns-in_err-count
returns-in_err-count c =
    let p = err_from_is_err_and c.from_residual.result c.from_residual.ensures.1 in
    let n = or_err ImageEnds (FieldDone c.args.image.now 0 count_width) c.next_field.result c.next_field.ensures _
    (sym c.ok_or.ensures.value ∙ c.in_err-count.was) in
    rw (p.1, p.2, n.1) (count_ends (program c.args.size) c.args.image.now n.0)

pub loop-init : goal.loop-init
loop-init c =
    let image = c.args.image.now in
    let first = or_ok ImageEnds (FieldDone image 0 count_width) c.next_field.result c.next_field.ensures _ (sym c.ok_or.ensures.value ∙ c.in_ok-count.was) in (
      record {
        few = (of_size c.requires.1).1;
        narrow = subst (λ n. n ≤ size_width) (sym c.letter_width-width.ensures) (width_small c.args.size);
        width_is = c.letter_width-width.ensures;
      },
      rw c.at-reader.ensures (passed_none image c.args.cells.now c.args.size c.in_ok-count.count first),
    )

pub returns-in_err-letter : goal.returns-in_err-letter
returns-in_err-letter c =
    let p = err_from_is_err_and c.from_residual-in_err-letter.result c.from_residual-in_err-letter.ensures.1 in
    let m =
    mapped_err image_refusal (λ r. SignedDone c.loop.reader c.args.size r c.next_signed.new.reader) c.next_signed.result c.map_err.result
    c.map_err.ensures.cases c.next_signed.ensures c.in_err-letter.field-0.0 c.in_err-letter.was in
    rw (p.1, p.2, m.1)
    (image_code m.0 (read_program c.args.size c.args.image.now)
    (value_refused (program c.args.size) c.args.image.now c.in_ok-count.count c.loop.reader c.loop.counter c.loop.invariant.1.validated
    (fault_code 4 5 m.0) c.loop-test.true m.2.0))

pub tallied-tally-requires : goal.tallied-tally-requires
tallied-tally-requires c =
    let x = c.in_ok-letter.letter in
    let s =
    mapped_ok image_refusal (λ r. SignedDone c.loop.reader c.args.size r c.next_signed.new.reader) c.next_signed.result c.map_err.result
    c.map_err.ensures.cases c.next_signed.ensures x c.in_ok-letter.was in
    let i = c.loop.invariant.1 in
    let few : c.loop.counter < most_letters = omega (arith, c.loop-test.true, i.validated.first.small) in
    let light =
    passed_light c.args.image.now c.args.cells.now c.args.size c.requires.0 c.requires.1 c.loop.reader x.sign x.number c.next_signed.new.reader s in
    record {
      full = c.requires.1.stands.full;
      named =
          passed_named c.args.image.now c.args.cells.now c.args.size c.requires.0 c.requires.1 c.loop.reader x.sign x.number c.next_signed.new.reader s;
      backs_fit = omega (arith, s.sign_small, few, i.some);
      weight_fits = omega (arith, light, few, i.light);
    }

pub loop-preserved : goal.loop-preserved
loop-preserved c =
    let x = c.in_ok-letter.letter in
    let s =
    mapped_ok image_refusal (λ r. SignedDone c.loop.reader c.args.size r c.next_signed.new.reader) c.next_signed.result c.map_err.result
    c.map_err.ensures.cases c.next_signed.ensures x c.in_ok-letter.was in (
      c.loop.invariant.0,
      rw c.tallied-tally.ensures
          (passed_more c.args.image.now c.args.cells.now c.args.size c.requires.0 c.requires.1 c.loop.reader x.sign x.number c.next_signed.new.reader s
          c.in_ok-count.count c.loop.tally.backs c.loop.tally.weight c.loop.counter c.loop.invariant.1 c.loop-test.true),
    )

-- by whether a filling follows
by_filling : (P : Result ProgramRead Refusal → Type 0) (count : ℕ) (tally : Tally) (t : Bool) → (t ≡ true → P (ended_by true count tally))
    → (t ≡ false → P (ended_by false count tally)) → P (ended_by t count tally)
by_filling P count tally true whole tail = whole refl
by_filling P count tally false whole tail = tail refl

pub returns : goal.returns
returns c =
    let v = c.loop.invariant.1.validated in
    let count = c.in_ok-count.count in
    rw c.ended.ensures
    (by_filling (ProgramDone c.args.image.now c.args.cells.now c.args.size) count c.loop.tally (filling c.loop.reader)
    (λ f.
    let h = whole_held (program c.args.size) c.args.image.now count c.loop.reader c.loop.counter v c.loop-test.false f in
    record {
      program = record { word = v.done; read = h.read; count_is = h.count_is };
      forward_is = ap (λ n. nat_eq n 0) c.loop.invariant.1.signs ∙ no_back v.done;
      weight_is = c.loop.invariant.1.weighed;
    })
    (λ f. whole_tail (program c.args.size) c.args.image.now count c.loop.reader c.loop.counter v c.loop-test.false f))
