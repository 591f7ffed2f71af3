-- A table that does not clear, a pattern that is too light, and a reversing.
use Rattle.std.proofs.Common.{◌≡◌, sym, ap, subst, ◌∙◌, ◌++◌, length, replicate, arith}
use Rattle.std.proofs.lemmas.List.{length-replicate}
use Rattle.std.proofs.lemmas.Result.{err_from_is_err_and}
use Rattle.model.specs.Word.{positive, negative}
use Rattle.model.specs.Reversing.{reversing}
use Rattle.model.specs.Services.{remainder_of}
use Rattle.model.specs.Areas.{workspace_after}
use Rattle.engine.proofs.Ended.{finishable}
use Rattle.remainders.specs.Remainder.{States}
use Rattle.remainders.proofs.Answers.{remainder_zero}
use Rattle.remainders.proofs.Service.{no_clear, pattern_light, pattern_heavy}
use Rattle.remainders.proofs.remainder.remainder_programs.Goals as goal

pub returns-in_err-clear_cells : goal.returns-in_err-clear_cells
returns-in_err-clear_cells c =
    let p = err_from_is_err_and c.from_residual.result c.from_residual.ensures.1 in
    let a = c.args in
    let z = c.in_err-clear_cells.ensures in
    rw (p.1, p.2)
    (record {
      workspace_left = z.workspace;
      states = λ T o u v eu ev. no_clear T u v a.budget (length a.workspace.now) a.answer.now _ (z.clear T o);
    })

pub returns-then-loaded : goal.returns-then-loaded
returns-then-loaded c =
    let a = c.args in
    let w = c.requires.weights in
    let z = c.in_ok-clear_cells.ensures in
    record {
      workspace_left = z.workspace;
      states = λ T o u v eu ev. pattern_light T u v a.budget (length a.workspace.now) a.answer.now (z.clear T o)
          (omega (arith, c.if-loaded.true, w.two T o v ev, w.one T o u eu));
    }

pub answer_ending-result-requires : goal.answer_ending-result-requires
answer_ending-result-requires c =
    let f = c.requires.programs in
    let p = f.pair in
    let x = c.reverse_images-ending in
    finishable f.table (negative p.one.word ++ positive p.two.word) c.args.budget x.new.workspace x.result
    (x.ensures.runs f.table f.of p.one.word p.two.word p.one.read p.two.read)

pub returns : goal.returns
returns c =
    let a = c.args in
    let f = c.requires.programs in
    let p = f.pair in
    let w = c.requires.weights in
    let z = c.in_ok-clear_cells.ensures in
    let x = c.reverse_images-ending in
    let told = c.answer_ending-result in
    let long : length x.new.workspace ≡ length a.workspace.now =
    x.ensures.length ∙ (ap length z.workspace ∙ length-replicate (length a.workspace.now) 0) in
    let word = negative p.one.word ++ positive p.two.word in
    let own = told.ensures f.table word a.budget (x.ensures.runs f.table f.of p.one.word p.two.word p.one.read p.two.read) in
    record {
      workspace_left =
          c.wipe.ensures
          ∙ (ap (λ i. replicate i 0) long
          ∙ sym (ap (λ o. workspace_after o a.workspace.now) own.result
          ∙ remainder_zero (length a.answer.now) (reversing f.table a.budget (length x.new.workspace) word) a.workspace.now));
      states = λ T o u v eu ev. pattern_heavy T u v a.budget (length a.workspace.now) a.answer.now (z.clear T o)
          (omega (arith, c.if-loaded.false, w.two T o v ev, w.one T o u eu))
          (subst (λ i. States (remainder_of (length a.answer.now) (reversing T a.budget i (negative u ++ positive v))) a.answer.now told.new.answer told.result)
          long
          (told.ensures T (negative u ++ positive v) a.budget (x.ensures.runs T o u v eu ev)));
    }
