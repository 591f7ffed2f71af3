-- `signed_comparing::weight::same_weight` meets its contract: the two words are gone through in balance.
use Rattle.std.proofs.Common.{arith, ap, ◌∙◌, ◌+◌, ◌-◌, take}
use borrow.Author.Tests.{ne_eqb}
use Rattle.model.specs.Presentation.{weigh}
use Rattle.signed_comparing.proofs.Weighing.{even_lead, second_next, second_light, first_passed, second_passed, first_lighter, second_lighter, even_ends}
use Rattle.signed_comparing.proofs.weight.same_weight.Goals as goal

pub loop-at-init : goal.loop-at-init
loop-at-init c = record {
  first_inside = omega arith;
  second_after = omega arith;
  second_inside = c.requires.3.ordered;
  low = omega arith;
  high = omega arith;
  even = λ T u v t. ap (λ k. weigh T (take k v) + even_lead) {x = 0} {y = c.args.middle - c.args.middle} (omega arith);
}

pub returns-then-at-eq-EVEN : goal.returns-then-at-eq-EVEN
returns-then-at-eq-EVEN c T u v t =
    let a = c.args in
    let l = c.loop-at in
    even_ends a.cells.now a.bytes.now a.middle a.end T u v t l.at.first l.at.second l.at.lead (l.invariant.even T u v t)
    (omega arith) c.if-at-eq-EVEN.true l.invariant.second_after l.invariant.second_inside

pub returns-else-at-eq-EVEN : goal.returns-else-at-eq-EVEN
returns-else-at-eq-EVEN c T u v t =
    let a = c.args in
    let l = c.loop-at in
    ne_eqb l.at.lead even_lead c.if-at-eq-EVEN.false
    ∙ first_lighter a.cells.now a.bytes.now a.middle a.end T u v t l.at.first l.at.second l.at.lead (l.invariant.even T u v t)
    (omega arith) (omega arith)

pub returns-then-at-end : goal.returns-then-at-end
returns-then-at-end c T u v t =
    let a = c.args in
    let l = c.loop-at in
    second_lighter a.cells.now a.bytes.now a.middle a.end T u v t l.at.first l.at.second l.at.lead (l.invariant.even T u v t)
    (omega arith) c.if-at-le-EVEN.false

pub loop-at-preserved-then-at-le-EVEN : goal.loop-at-preserved-then-at-le-EVEN
loop-at-preserved-then-at-le-EVEN c =
    let a = c.args in
    let l = c.loop-at in
    first_passed a.cells.now a.bytes.now a.middle a.end c.requires l.at l.invariant c.pass.new.place c.pass.result (omega arith) c.if-at-le-EVEN.true
    c.pass.ensures.passed c.pass.ensures.weight

pub pass-requires-else-at-le-EVEN : goal.pass-requires-else-at-le-EVEN
pass-requires-else-at-le-EVEN c =
    let a = c.args in
    let p = c.requires in
    let l = c.loop-at in
    second_next a.cells.now a.bytes.now a.middle a.end p.0 p.1 p.2 p.3 l.at.second l.invariant.second_after (omega arith)

pub overflow_sub-at : goal.overflow_sub-at
overflow_sub-at c =
    let a = c.args in
    let p = c.requires in
    let l = c.loop-at in
    let light = second_light a.cells.now a.bytes.now a.middle a.end p.0 p.1 p.2 p.3 l.at.second l.invariant.second_after (omega arith) in
    omega (arith, light, c.pass-else-at-le-EVEN.ensures.weight, c.if-at-le-EVEN.false)

pub loop-at-preserved : goal.loop-at-preserved
loop-at-preserved c =
    let a = c.args in
    let l = c.loop-at in
    let w = c.pass-else-at-le-EVEN in
    second_passed a.cells.now a.bytes.now a.middle a.end c.requires l.at l.invariant w.new.place w.result (omega arith) c.if-at-le-EVEN.false
    w.ensures.passed w.ensures.weight
