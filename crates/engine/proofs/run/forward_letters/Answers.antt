-- The letters that are counted are those that pass the test on their bytes.
use Rattle.std.proofs.Common.{rules, ◌≡◌, ◌∙◌, sym, nat_lt}
use Rattle.std.specs.List.{count_by}
use Rattle.engine.proofs.Counting.{forwards_counted}
use Rattle.engine.proofs.run.forward_letters.Goals as goal

pub returns : goal.returns
returns c =
    let e : c.count.result ≡ count_by (λ x. nat_lt x 128) c.args.word.now = search rules in
    e ∙ sym (forwards_counted c.args.word.now)
