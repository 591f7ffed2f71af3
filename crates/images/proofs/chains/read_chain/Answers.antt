-- An entry more is read at each turn, or refuses the image.
use Rattle.std.proofs.Common.{◌+◌, ◌≤◌, ◌≡◌, subst, sym, ◌∙◌, arith}
use Rattle.std.proofs.lemmas.Result.{err_from_is_err_and}
use Rattle.model.specs.Images.{offset_width, chain_count_width, size_width, read_chain}
use Rattle.model.specs.declared.answers.Refusal.TheVariants.{ImageEnds}
use Rattle.bits.proofs.Width.{width_small}
use Rattle.images.specs.Fields.{FieldDone, from, fault_code, image_refusal}
use Rattle.images.specs.Chains.{entry_of, EntryDone}
use Rattle.images.proofs.Failing.{or_ok, or_err, mapped_ok, mapped_err, image_code}
use Rattle.images.proofs.Validating.{chain, count_ends, validated_none, validated_more, value_refused, whole_held, whole_tail}
use Rattle.images.proofs.chains.read_chain.Goals as goal

pub returns-in_err-count : goal.returns-in_err-count
returns-in_err-count c =
    let p = err_from_is_err_and c.from_residual.result c.from_residual.ensures.1 in
    let n = or_err ImageEnds (FieldDone c.args.image.now 0 chain_count_width) c.next_field.result c.next_field.ensures _
    (sym c.ok_or.ensures.value ∙ c.in_err-count.was) in
    rw (p.1, p.2, n.1) (count_ends (chain c.args.size) c.args.image.now n.0)

pub loop-init : goal.loop-init
loop-init c =
    let image = c.args.image.now in
    let first =
    or_ok ImageEnds (FieldDone image 0 chain_count_width) c.next_field.result c.next_field.ensures _ (sym c.ok_or.ensures.value ∙ c.in_ok-count.was) in (
      record {
        few = c.requires.1;
        narrow = subst (λ n. n ≤ size_width) (sym c.letter_width-width.ensures) (width_small c.args.size);
        width_is = c.letter_width-width.ensures;
      },
      first.inside,
      omega arith,
      validated_none (chain c.args.size) image c.in_ok-count.count first,
    )

pub next_entry-requires : goal.next_entry-requires
next_entry-requires c =
    let i = c.loop.invariant in
    record {
      inside = i.1;
      small = omega (arith, i.2);
      some = c.requires.0;
      few = c.requires.1;
      narrow = i.0.narrow;
      width_is = i.0.width_is;
    }

pub returns-in_err-map_err : goal.returns-in_err-map_err
returns-in_err-map_err c =
    let p = err_from_is_err_and c.from_residual-in_err-map_err.result c.from_residual-in_err-map_err.ensures.1 in
    let m =
    mapped_err image_refusal (EntryDone c.args.image.now c.loop.at c.args.size c.letter_width-width.result) c.next_entry.result c.map_err.result
    c.map_err.ensures.cases c.next_entry.ensures c.in_err-map_err.field-0.0 c.in_err-map_err.was in
    rw (p.1, p.2, m.1)
    (image_code m.0 (read_chain c.args.size c.args.image.now)
    (value_refused (chain c.args.size) c.args.image.now c.in_ok-count.count (from c.args.image.now c.loop.at) c.loop.counter c.loop.invariant.3
    (fault_code 4 5 m.0) c.loop-test.true m.2))

pub overflow_add-at-in-loop-2 : goal.overflow_add-at-in-loop-2
overflow_add-at-in-loop-2 c = omega (arith, c.loop.invariant.2, c.loop.invariant.0.narrow, c.loop-test.true)

pub loop-preserved : goal.loop-preserved
loop-preserved c =
    let i = c.loop.invariant in
    let w = c.letter_width-width.result in
    let e =
    mapped_ok image_refusal (EntryDone c.args.image.now c.loop.at c.args.size w) c.next_entry.result c.map_err.result c.map_err.ensures.cases
    c.next_entry.ensures c.in_ok-map_err.field-0 c.in_ok-map_err.was in
    let next : c.loop.at + offset_width + w + w ≡ c.loop.at + (15 + w + w) = omega arith in (
      i.0,
      omega (arith, e.inside),
      omega (arith, i.2, i.0.narrow),
      validated_more (chain c.args.size) c.args.image.now c.in_ok-count.count (from c.args.image.now c.loop.at) c.loop.counter i.3
          (entry_of c.in_ok-map_err.field-0) (from c.args.image.now (c.loop.at + (15 + w + w))) c.loop-test.true (rw next at e.read),
    )

pub is_filling-requires : goal.is_filling-requires
is_filling-requires c = record { narrow = omega arith; inside = c.loop.invariant.1; small = omega (arith, c.loop.invariant.2) }

pub returns-then-is_filling : goal.returns-then-is_filling
returns-then-is_filling c =
    let v = c.loop.invariant.3 in
    let h = whole_held (chain c.args.size) c.args.image.now c.in_ok-count.count (from c.args.image.now c.loop.at) c.loop.counter v c.loop-test.false
    (sym c.is_filling.ensures ∙ c.if-is_filling.true) in
    record { entries = v.done; read = h.read; count_is = h.count_is }

pub returns-else-is_filling : goal.returns-else-is_filling
returns-else-is_filling c =
    whole_tail (chain c.args.size) c.args.image.now c.in_ok-count.count (from c.args.image.now c.loop.at) c.loop.counter c.loop.invariant.3
    c.loop-test.false (sym c.is_filling.ensures ∙ c.if-is_filling.false)
