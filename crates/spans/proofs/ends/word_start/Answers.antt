-- The letters before a place are counted.
use Rattle.std.proofs.Common.{◌∙◌, ap, take, drop, ◌-◌, rules, tests}
use Rattle.std.specs.Slice.Iter.{iter_rest}
use Rattle.std.specs.Iterator.Adapters.{rev_source}
use Rattle.std.proofs.lemmas.Iterator.Adapters.{YieldsList-from_rev_slice}
use Rattle.std.proofs.lemmas.Iterator.Search.{YieldsList-from_take_while}
use Rattle.std.proofs.lemmas.Iterator.Consumers.{count_from_yields_List}
use Rattle.spans.proofs.Runs.{is_letter, start_counted}
use Rattle.spans.proofs.ends.word_start.Goals as goal

pub returns : goal.returns
returns c =
    let part = take (c.args.at - c.args.low) (drop c.args.low c.args.area.now) in
    start_counted c.args.area.now c.args.low c.args.at c.count.result
    (count_from_yields_List c.take_while.result _ c.count.ensures.ran
    (YieldsList-from_take_while _ is_letter
    (YieldsList-from_rev_slice part
    (ap (λ s. iter_rest (rev_source s)) c.take_while.ensures.source ∙ (ap iter_rest c.rev.ensures.source ∙ c.iter.ensures.rest)))
    c.take_while.ensures.closure c.take_while.ensures.done (λ x b q k. search (rules, tests)))) c.requires.0 c.requires.1
