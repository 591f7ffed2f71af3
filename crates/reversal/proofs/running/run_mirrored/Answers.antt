-- An image is refused, or the table has no mirror, or the program is run under it.
use Rattle.std.proofs.Common.{rules}
use Rattle.std.proofs.lemmas.Result.{err_from_is_err_and}
use Rattle.model.specs.Mirror.{mirror}
use Rattle.cells.proofs.Rules.{blank_zeros}
use Rattle.reversal.proofs.MirrorRefused.{not_read, no_mirror}
use Rattle.reversal.proofs.running.run_mirrored.Goals as goal

pub read_table_program-requires : goal.read_table_program-requires
read_table_program-requires c = blank_zeros

pub returns-in_err-loaded-clause-run : goal.returns-in_err-loaded-clause-run
returns-in_err-loaded-clause-run c =
    let a = c.args in
    let p = err_from_is_err_and c.from_residual.result c.from_residual.ensures.1 in
    rw (p.1, p.2) (not_read a.table.now a.program.now a.workspace.now _ c.in_err-loaded.ensures)

pub returns-in_err-map_err-clause-run : goal.returns-in_err-map_err-clause-run
returns-in_err-map_err-clause-run c =
    let a = c.args in
    let l = c.in_ok-loaded.ensures in
    let r = c.from_residual-in_err-map_err in
    let p = err_from_is_err_and r.result r.ensures.1 in
    rw (p.1, p.2)
    (no_mirror a.table.now a.program.now a.workspace.now l.runs.table l.runs.accepted.program.word l.table_read l.program_read _ (search rules) (search rules))

pub returns-clause-run : goal.returns-clause-run
returns-clause-run c =
    let l = c.in_ok-loaded.ensures in
    let q = l.runs in
    let w = q.accepted.program in
    record {
      presentation = q.table;
      word = w.word;
      table_read = l.table_read;
      program_read = l.program_read;
      has_mirror = search rules;
      reverses = c.reverse_image.ensures.runs (mirror q.table) (search rules) w.word w.read;
    }
