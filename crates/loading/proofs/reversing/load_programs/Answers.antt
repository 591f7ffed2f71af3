-- Both programs are in the workspace as they are reversed.
use Rattle.std.proofs.Common.{sym, refl, arith, ◌∙◌}
use Rattle.engine.proofs.Inverting.{inverted_part}
use Rattle.model.proofs.Impossible.{same_answer}
use Rattle.loading.proofs.LoadedPrograms.{loads_pair}
use Rattle.loading.proofs.reversing.load_programs.Goals as goal

pub returns : goal.returns
returns c =
    let a = c.args in
    let p = c.requires.pair in
    let first = c.unpack_letters in
    let last = c.unpack_letters-2 in
    let i = inverted_part 0 a.loaded.firsts a.loaded.firsts first.new.area c.invert.new.word refl (omega (arith, first.ensures.length, c.requires.room))
    c.invert.ensures in
    record {
      same_length = last.ensures.length ∙ (i.same_length ∙ first.ensures.length);
      loads = λ cells T o u v eu ev.
          loads_pair cells a.loaded.size T o u v a.first.now a.second.now a.loaded.firsts a.loaded.seconds p.few p.one p.two
          (same_answer p.one.word u (sym p.one.read ∙ eu)) (same_answer p.two.word v (sym p.two.read ∙ ev)) a.workspace.now first.new.area
          _ last.new.area c.requires.room first.ensures.bytes i last.ensures.bytes;
    }
