-- `ways::ways::ways` meets its contract: the images are read, the weights are checked, and the program is listed.
use Rattle.std.proofs.Common.{arith, sym, subst, ap, length, Err, ◌∙◌}
use Rattle.std.proofs.lemmas.Result.{err_from_is_err_and}
use Rattle.model.specs.Services.{read_forward, read_table_with}
use Rattle.model.specs.declared.answers.Refusal.TheVariants.{UnequalWeights}
use Rattle.images.proofs.RoundTrip.{table_in_range}
use Rattle.cells.proofs.Rules.{blank_zeros}
use Rattle.table_checks.specs.Table.{weights_as}
use Rattle.loading.proofs.Early.{forward_early}
use Rattle.loading.proofs.Reading.{table_with_early}
use Rattle.ways.specs.Service.{Answers, Passed}
use Rattle.ways.proofs.Service.{mapped_ok, mapped_err, weights_told, refused_answers, early_other, ways_unread, ways_unequal, ways_lists, promised}
use Rattle.ways.proofs.ways.ways.Goals as goal

pub read_table_program-requires : goal.read_table_program-requires
read_table_program-requires c = blank_zeros

pub check_weights-requires : goal.check_weights-requires
check_weights-requires c = let t = c.in_ok-read.ensures.runs in (t.table, t.of)

-- the weights were checked
pub list_program-requires : goal.list_program-requires
list_program-requires c =
    let size = c.in_ok-read.read.size in
    let l = c.in_ok-read.ensures in
    let t = l.runs in
    let m = c.in_ok-map_err in
    let passed = mapped_ok UnequalWeights c.check_weights.result c.map_err.result c.map_err.ensures.cases m.field-0 m.was in
    let even = weights_told c.read_table_program.new.cells size t.table t.of c.check_weights.result c.check_weights.ensures ∙ ap weights_as passed in
    record {
      table = t.table;
      passed = record { of = t.of; in_range = table_in_range c.args.table.now t.table l.table_read; even = even };
      forward = t.forward;
    }

pub returns-in_err-read : goal.returns-in_err-read
returns-in_err-read c =
    let a = c.args in
    let table = a.table.now in
    let program = a.program.now in
    let before = a.answer.now in
    let r = c.in_err-read.field-0.0 in
    let e = c.in_err-read.ensures in
    let p = err_from_is_err_and c.from_residual.result c.from_residual.ensures.1 in
    let early = early_other 7 (read_table_with read_forward table program) r (omega arith) e (table_with_early read_forward table program forward_early) in
    rw (p.1, p.2) (promised table program before before (Err r) (refused_answers _ before r (ways_unread table program (length before) r e) early))

pub returns-in_err-map_err : goal.returns-in_err-map_err
returns-in_err-map_err c =
    let a = c.args in
    let table = a.table.now in
    let program = a.program.now in
    let before = a.answer.now in
    let size = c.in_ok-read.read.size in
    let l = c.in_ok-read.ensures in
    let t = l.runs in
    let m = c.in_err-map_err in
    let offends = mapped_err UnequalWeights c.check_weights.result c.map_err.result c.map_err.ensures.cases m.field-0.0 m.was in
    let e = weights_told c.read_table_program.new.cells size t.table t.of c.check_weights.result c.check_weights.ensures ∙ ap weights_as offends.1 in
    let p = err_from_is_err_and c.from_residual-in_err-map_err.result c.from_residual-in_err-map_err.ensures.1 in
    rw (p.1, p.2, offends.2)
    (promised table program before before (Err (UnequalWeights offends.0))
    (refused_answers _ before (UnequalWeights offends.0)
    (ways_unequal table program (length before) t.table l.table_read t.forward.word l.program_read (UnequalWeights offends.0) e)
    (λ n. omega (arith, n))))

pub returns : goal.returns
returns c =
    let a = c.args in
    let table = a.table.now in
    let program = a.program.now in
    let before = a.answer.now in
    let size = c.in_ok-read.read.size in
    let l = c.in_ok-read.ensures in
    let t = l.runs in
    let m = c.in_ok-map_err in
    let told = mapped_ok UnequalWeights c.check_weights.result c.map_err.result c.map_err.ensures.cases m.field-0 m.was in
    let even = weights_told c.read_table_program.new.cells size t.table t.of c.check_weights.result c.check_weights.ensures ∙ ap weights_as told in
    let passed : Passed c.read_table_program.new.cells size t.table =
    record { of = t.of; in_range = table_in_range table t.table l.table_read; even = even } in
    let z = c.list_program in
    promised table program before z.new.answer z.result
    (subst (λ o. Answers o before z.new.answer z.result)
    (sym (ways_lists table program (length before) t.table l.table_read t.forward.word l.program_read even))
    (z.ensures t.table passed t.forward.word t.forward.read))
