-- The bytes in the other order, each turned, are the inverse.
use Rattle.std.proofs.Common.{◌≡◌, ◌∙◌, ap, rules, arith, length, get_or}
use Rattle.model.specs.Word.{flip, letter}
use Rattle.engine.proofs.Inverting.{inverted_whole}
use Rattle.engine.proofs.words.invert.Goals as goal

pub returns : goal.returns
returns c =
    let word = c.loop-x.word in
    let n : length word ≡ length c.args.word.now = search rules in
    inverted_whole c.args.word.now word n
    (λ k h. c.loop-x.invariant.0 k (omega arith) ∙ ap (λ l. flip (letter (get_or l k 0))) c.reverse.ensures.after)
