-- The words are passed one after the other.
use Rattle.std.proofs.Common.{true, false, arith, sym, length, take, drop, ◌-◌, ◌∙◌}
use Rattle.sets.proofs.Lookup.{passed_none, passed_end, passed_inside, passed_found, passed_more, passed_all, equal_turned}
use Rattle.sets.proofs.listed.is_listed.Goals as goal

pub loop-at-init : goal.loop-at-init
loop-at-init c = (omega arith, λ n vs h. passed_none vs c.args.word.now)

pub word_end-end-requires : goal.word_end-end-requires
word_end-end-requires c =
    let g = c.requires in
    let l = c.args.listing.now in
    passed_end g.0 l (length l) g.1 g.2 c.args.word.now c.loop-at.at (c.loop-at.invariant.1 g.0 g.1 g.2) c.loop-at-test.true

pub returns-then-eq : goal.returns-then-eq
returns-then-eq c n vs h =
    let l = c.args.listing.now in
    let w = c.args.word.now in
    sym (passed_found n l (length l) vs h w c.loop-at.at (c.loop-at.invariant.1 n vs h) c.loop-at-test.true c.word_end-end.result c.word_end-end.ensures
    (equal_turned (take (c.word_end-end.result - c.loop-at.at) (drop c.loop-at.at l)) w true (sym c.eq.ensures ∙ c.if-eq.true)))

pub loop-at-preserved : goal.loop-at-preserved
loop-at-preserved c =
    let g = c.requires in
    let list = c.args.listing.now in
    let w = c.args.word.now in
    let l = c.loop-at in
    let e = c.word_end-end in (
      passed_inside g.0 list (length list) g.1 g.2 w l.at (l.invariant.1 g.0 g.1 g.2) c.loop-at-test.true e.result e.ensures,
      λ n vs h. passed_more n list (length list) vs h w l.at (l.invariant.1 n vs h) c.loop-at-test.true e.result e.ensures
          (equal_turned (take (e.result - l.at) (drop l.at list)) w false (sym c.eq.ensures ∙ c.if-eq.false)),
    )

pub returns : goal.returns
returns c n vs h =
    let l = c.args.listing.now in
    sym (passed_all n l (length l) vs h c.args.word.now c.loop-at.at (c.loop-at.invariant.1 n vs h) (omega arith))
