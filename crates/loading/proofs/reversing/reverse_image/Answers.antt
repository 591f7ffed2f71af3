-- The program does not fit, or it is loaded and reversed.
use Rattle.std.proofs.Common.{◌-◌, length, subst, arith}
use Rattle.engine.specs.Run.{Reverses}
use Rattle.loading.specs.Reversing.{faced}
use Rattle.loading.proofs.Programs.{too_long}
use Rattle.loading.proofs.Facing.{faced_count, faced_ready}
use Rattle.loading.proofs.reversing.reverse_image.Goals as goal

pub returns-then-end-letters-clause-runs : goal.returns-then-end-letters-clause-runs
returns-then-end-letters-clause-runs c T o w e =
    let a = c.args in
    too_long T (faced a.backward w) a.budget a.workspace.now
    (omega (arith, c.if-end-letters.true, faced_count a.loaded.size a.program.now a.loaded.count c.requires.accepted a.backward w e))

pub reversing-requires : goal.reversing-requires
reversing-requires c =
    let a = c.args in
    let q = c.requires.accepted in
    let d = faced_ready a.loaded.size a.program.now a.loaded.count q a.backward q.program.word q.program.read a.workspace.now c.load_program.new.workspace
    (length a.workspace.now - a.loaded.count) (omega (arith, c.if-end-letters.false)) c.load_program.ensures a.cells.now c.requires.table c.requires.of in
    record { searched = d.searched; ready = (c.requires.table, d.serves) }

pub returns-clause-runs : goal.returns-clause-runs
returns-clause-runs c T o w e =
    let a = c.args in
    let d = faced_ready a.loaded.size a.program.now a.loaded.count c.requires.accepted a.backward w e a.workspace.now c.load_program.new.workspace
    (length a.workspace.now - a.loaded.count) (omega (arith, c.if-end-letters.false)) c.load_program.ensures a.cells.now T o in
    subst (λ v. Reverses T v a.budget c.reversing.new.bytes c.reversing.result) d.word (c.reversing.ensures.run T d.serves)
