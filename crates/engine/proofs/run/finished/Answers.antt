-- As many letters of a word are forward as it has, at most.
use Rattle.std.proofs.Common.{arith, ap, length}
use lib.Seq.{take_all}
use Rattle.model.specs.Word.{forwards}
use Rattle.engine.specs.Gap.{letters}
use Rattle.engine.proofs.Counting.{counts_few}
use Rattle.engine.proofs.run.finished.Goals as goal

pub overflow_sub-result : goal.overflow_sub-result
overflow_sub-result c =
    let w = c.args.word.now in
    let whole = take_all (length w) w (omega arith) in
    let few = counts_few w (length w) in
    omega (arith, c.forward_letters-numerator.ensures, ap (λ l. length (forwards (letters l))) whole, few)
