-- Each word is turned around in its place.
use Rattle.std.proofs.Common.{◌++◌, ap₂, ◌∙◌}
use Rattle.reversal.proofs.ReadBackward.{words_turned}
use Rattle.reversal.proofs.backward.turn_words.Goals as goal

pub returns : goal.returns
returns c first second en e =
    let s = c.split_at_mut-first.ensures in
    ap₂ (λ l r. l ++ r) c.reverse.ensures.after c.reverse-2.ensures.after ∙ words_turned c.args.words.now _ _ c.args.numerator s.front s.back first second en e
