-- `signed_comparing::running::reverse_signed` meets its contract: the programs are too long, or are loaded and reversed.
use Rattle.std.proofs.Common.{arith, sym, ap, subst, length, ◌≡◌, ◌+◌, ◌-◌, ◌≤◌, ◌++◌, ◌∙◌}
use lib.ListN.{length-append}
use Rattle.model.specs.Word.{inverse}
use Rattle.model.proofs.Impossible.{same_answer}
use Rattle.images.proofs.RoundTrip.{program_in_range}
use Rattle.engine.specs.Run.{Reverses}
use Rattle.engine.proofs.Inverting.{length_inverse}
use Rattle.loading.proofs.Programs.{too_long}
use Rattle.signed_comparing.proofs.Loading.{word_is, word_searched, word_served}
use Rattle.signed_comparing.proofs.running.reverse_signed.Goals as goal

pub returns-then-end-letters-clause-runs : goal.returns-then-end-letters-clause-runs
returns-then-end-letters-clause-runs c T o w v ew ev =
    let one = c.requires.programs.one in
    let two = c.requires.programs.two in
    let fw : one.program.word ≡ w = same_answer one.program.word w (sym one.program.read ∙ ew) in
    let fv : two.program.word ≡ v = same_answer two.program.word v (sym two.program.read ∙ ev) in
    too_long T (inverse w ++ v) c.args.budget c.args.workspace.now
    (omega (
      arith,
      c.if-end-letters.true,
      length-append (inverse w) v,
      length_inverse w,
      ap length fw,
      ap length fv,
      one.program.count_is,
      two.program.count_is,
    ))

pub reversing-requires-clause-searched : goal.reversing-requires-clause-searched
reversing-requires-clause-searched c =
    let a = c.args in
    let p = c.requires in
    let w = p.programs.one.program.word in
    let v = p.programs.two.program.word in
    let pw = program_in_range a.loaded.size p.programs.one.few a.first.now w p.programs.one.program.read in
    let pv = program_in_range a.loaded.size p.programs.two.few a.second.now v p.programs.two.program.read in
    let l = c.load_signed in
    let loaded = l.ensures.word w v p.programs.one.program.read p.programs.two.program.read in
    word_searched a.cells.now a.loaded.size p.table p.of w v pw pv l.new.workspace _ (omega (arith, l.ensures.same_length)) loaded

pub reversing-requires-clause-ready : goal.reversing-requires-clause-ready
reversing-requires-clause-ready c =
    let a = c.args in
    let p = c.requires in
    let w = p.programs.one.program.word in
    let v = p.programs.two.program.word in
    let pw = program_in_range a.loaded.size p.programs.one.few a.first.now w p.programs.one.program.read in
    let pv = program_in_range a.loaded.size p.programs.two.few a.second.now v p.programs.two.program.read in
    let l = c.load_signed in
    let loaded = l.ensures.word w v p.programs.one.program.read p.programs.two.program.read in
    (p.table, word_served a.cells.now a.loaded.size p.table p.of w v pw pv l.new.workspace _ (omega (arith, l.ensures.same_length)) loaded)

pub returns-clause-runs : goal.returns-clause-runs
returns-clause-runs c T o w v ew ev =
    let a = c.args in
    let p = c.requires in
    let pw = program_in_range a.loaded.size p.programs.one.few a.first.now w ew in
    let pv = program_in_range a.loaded.size p.programs.two.few a.second.now v ev in
    let l = c.load_signed in
    let r = c.reversing in
    let right = length a.workspace.now - (a.loaded.firsts + a.loaded.seconds) in
    let inside : right ≤ length l.new.workspace = omega (arith, l.ensures.same_length) in
    let loaded = l.ensures.word w v ew ev in
    subst (λ x. Reverses T x a.budget r.new.bytes r.result) (word_is a.cells.now a.loaded.size T o w v pw pv l.new.workspace right inside loaded)
    (r.ensures.run T (word_served a.cells.now a.loaded.size T o w v pw pv l.new.workspace right inside loaded))
