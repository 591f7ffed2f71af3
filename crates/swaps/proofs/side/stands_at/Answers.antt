-- The first letter is compared, then the word behind it.
use Rattle.std.proofs.Common.{◌≡◌, ◌∙◌, ◌+◌, ◌-◌, ◌∷◌, sym, ap, arith, length, take, drop, length-take, length-drop}
use Rattle.model.specs.Equivalence.{equal}
use Rattle.swaps.proofs.Comparing.{lengths_differ, slices_equal, whole_more}
use Rattle.swaps.proofs.side.stands_at.Goals as goal

pub returns-then-bytes-end : goal.returns-then-bytes-end
returns-then-bytes-end c =
    let a = c.args in
    sym (lengths_differ (take (1 + length a.word.now) (drop a.at a.bytes.now)) (a.a ∷ a.word.now) (simp (length-take, length-drop) (λ e. omega arith)))

pub returns-then-bytes-at : goal.returns-then-bytes-at
returns-then-bytes-at c =
    let a = c.args in
    let n = length a.word.now in
    let m : a.at + (1 + length a.word.now) - (a.at + 1) ≡ length a.word.now = omega arith in
    c.eq.ensures
    ∙ (slices_equal (take (a.at + (1 + n) - (a.at + 1)) (drop (a.at + 1) a.bytes.now)) a.word.now
    ∙ (ap (λ i. equal (take i (drop (a.at + 1) a.bytes.now)) a.word.now) m
    ∙ sym (whole_more a.bytes.now a.at a.a a.word.now n (omega arith) c.if-bytes-at.true)))
