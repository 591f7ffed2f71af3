-- Programs that do not fit together are not loaded.
use Rattle.std.proofs.Common.{arith}
use Rattle.loading.proofs.LoadedPrograms.{forward_count, pair_too_long}
use Rattle.loading.proofs.reversing.reverse_images.Goals as goal

pub returns-then-end-left-clause-runs : goal.returns-then-end-left-clause-runs
returns-then-end-left-clause-runs c T o u v eu ev =
    let a = c.args in
    let p = c.requires.pair in
    pair_too_long T u v a.budget a.workspace.now
    (omega (
      arith,
      c.if-end-left.true,
      forward_count a.loaded.size a.first.now a.loaded.firsts p.one u eu,
      forward_count a.loaded.size a.second.now a.loaded.seconds p.two v ev,
    ))
