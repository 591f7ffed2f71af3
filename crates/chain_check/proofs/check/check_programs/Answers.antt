-- Whatever the passage comes to, it comes after the work has begun.
use Rattle.std.proofs.Common.{sym, ap, ◌∙◌, length, replicate}
use Rattle.model.specs.Areas.{workspace_after}
use Rattle.chain_check.proofs.CheckService.{passage_wipes}
use Rattle.chain_check.proofs.check.check_programs.Goals as goal

pub returns : goal.returns
returns c =
    let a = c.args in
    let q = c.requires.forward in
    let es = c.requires.chain in
    let v = c.pass-answer.ensures in
    let m = v.passage q.table q.of q.pair.one.word q.pair.two.word q.pair.one.read q.pair.two.read es.entries es.read in
    record {
      wiped =
          c.wipe.ensures
          ∙ (ap (λ k. replicate k 0) v.length
          ∙ sym (ap (λ x. workspace_after x a.workspace.now) m
          ∙ passage_wipes q.table (length a.workspace.now) q.pair.one.word es.entries q.pair.two.word a.workspace.now));
      passes = v.passage;
    }
