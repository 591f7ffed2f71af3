-- The letters are turned around where the program is read backward.
use Rattle.std.proofs.Common.{◌≡◌, length, sym, ap, ◌∙◌, arith}
use Rattle.model.specs.Plain.{plain_program}
use Rattle.model.specs.Areas.{written}
use Rattle.model.proofs.Impossible.{same_answer}
use Rattle.areas.proofs.Parts.{part_length}
use Rattle.loading.specs.Reversing.{faced}
use Rattle.loading.proofs.Facing.{backward_word}
use Rattle.loading.proofs.reversing.load_program.Goals as goal

pub returns-then-backward : goal.returns-then-backward
returns-then-backward c =
    let a = c.args in
    let u = c.unpack_letters in
    let t = c.reverse in
    let q = c.requires.0.program in
    record {
      same_length = part_length a.right u.new.area t.new.self (omega (arith, c.requires.1, u.ensures.length)) t.ensures.len ∙ u.ensures.length;
      bytes = λ w e.
          let count : length w ≡ a.count = ap length (same_answer w q.word (sym e ∙ q.read)) ∙ q.count_is in
          backward_word a.workspace.now u.new.area t.new.self w a.right (omega (arith, c.requires.1, count)) u.ensures.length (u.ensures.bytes w e)
          t.ensures.after
          ∙ ap (λ b. written a.workspace.now a.right (plain_program (faced b w))) (sym c.if-backward.true);
    }
