-- The letters from a place on are counted.
use Rattle.std.proofs.Common.{◌∙◌, ap, drop, rules, tests}
use Rattle.std.proofs.lemmas.List.{take_rest}
use Rattle.std.specs.Slice.Iter.{iter_rest}
use Rattle.std.proofs.lemmas.Iterator.{YieldsList-from_slice}
use Rattle.std.proofs.lemmas.Iterator.Search.{YieldsList-from_take_while}
use Rattle.std.proofs.lemmas.Iterator.Consumers.{count_from_yields_List}
use Rattle.spans.proofs.Runs.{is_letter, end_counted}
use Rattle.spans.proofs.ends.word_end.Goals as goal

pub returns : goal.returns
returns c =
    let rest = c.iter.ensures.rest ∙ take_rest c.args.area.now c.args.at in
    end_counted c.args.area.now c.args.at c.count.result
    (count_from_yields_List c.take_while.result _ c.count.ensures.ran
    (YieldsList-from_take_while _ is_letter (YieldsList-from_slice (drop c.args.at c.args.area.now) (ap iter_rest c.take_while.ensures.source ∙ rest))
    c.take_while.ensures.closure c.take_while.ensures.done (λ x b q k. search (rules, tests)))) c.requires
