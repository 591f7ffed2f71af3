-- `signed_comparing::running::load_signed` meets its contract: the first program is inverted where it stands, and the second follows it.
use Rattle.std.proofs.Common.{arith, sym, ap, subst, length, take, drop, ◌≡◌, ◌≤◌, ◌-◌, ◌+◌, ◌++◌, ◌∙◌}
use Rattle.model.specs.Word.{inverse}
use Rattle.model.proofs.Impossible.{same_answer}
use Rattle.images.proofs.RoundTrip.{program_in_range}
use borrow.Rule.Slice.PartMut.{put_mid}
use Rattle.areas.proofs.Parts.{part_joined}
use Rattle.engine.specs.Gap.{letters}
use Rattle.engine.specs.Words.{Inverted}
use Rattle.engine.proofs.Inverting.{inverted_part}
use Rattle.signed_comparing.proofs.Loading.{both_letters, whole_length}
use Rattle.signed_comparing.proofs.running.load_signed.Goals as goal

pub returns : goal.returns
returns c =
    let a = c.args in
    let size = a.loaded.size in
    let m = a.loaded.firsts in
    let k = a.right + a.loaded.firsts - a.right in
    let one = c.requires.programs.one in
    let two = c.requires.programs.two in
    let mid = c.unpack_letters.new.area in
    let made = c.unpack_letters.ensures in
    let part = c.invert.new.word in
    let b = c.unpack_letters-2 in
    let inside : a.right + a.loaded.firsts ≤ length mid = omega (arith, made.length, c.requires.room) in
    let turned = inverted_part a.right m k mid part (omega arith) inside c.invert.ensures in
    let put = part_joined a.right k mid part (omega (arith, inside)) in
    record {
      same_length = b.ensures.length ∙ (whole_length mid a.right m _ _ (omega (arith, inside)) put turned ∙ made.length);
      word = λ w v ew ev.
          let fw : one.program.word ≡ w = same_answer one.program.word w (sym one.program.read ∙ ew) in
          let fv : two.program.word ≡ v = same_answer two.program.word v (sym two.program.read ∙ ev) in
          subst (λ l. letters (drop a.right l) ≡ inverse w ++ v) (sym (b.ensures.bytes v ev))
          (both_letters size one.few w v (program_in_range size one.few a.first.now w ew) (program_in_range size two.few a.second.now v ev)
          a.workspace.now _ a.right m a.loaded.seconds
          (ap length (sym fw) ∙ one.program.count_is) (ap length (sym fv) ∙ two.program.count_is) c.requires.room _
          (subst (λ l. Inverted (drop a.right l) a.loaded.firsts (drop a.right (put_mid a.right (a.right + a.loaded.firsts - a.right) mid part)))
          (made.bytes w ew) turned)
          (put ∙ ap (λ l. take a.right l ++ drop a.right (put_mid a.right (a.right + a.loaded.firsts - a.right) mid part)) (made.bytes w ew)));
    }
