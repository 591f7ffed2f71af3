-- `signed_comparing::fraction::compare_fraction` meets its contract: the weights differ, or N and D are compared by their reversing.
use Rattle.std.proofs.Common.{◌≡◌, ◌+◌, ◌-◌, ◌≤◌, ◌++◌, ◌∙◌, List, ℕ, arith, sym, ap, length, take, drop}
use borrow.Author.Tests.{eqb-true, eqb-false}
use borrow.Rule.Slice.PartMut.{put_mid}
use Rattle.areas.proofs.Parts.{part_joined}
use Rattle.model.specs.Presentation.{weigh}
use Rattle.model.specs.Stated.{compared}
use Rattle.engine.specs.Words.{Inverted}
use Rattle.engine.proofs.Inverting.{inverted_part}
use Rattle.comparing.proofs.Comparing.{unequal_verdict, equal_verdict}
use Rattle.signed_comparing.proofs.Fractions.{after_long, two_words, at_ends}
use Rattle.signed_comparing.proofs.fraction.compare_fraction.Goals as goal

-- D is inverted where it stands behind N
module _ (bytes part : List ℕ) (n d : ℕ) (inside : n + d ≤ length bytes)
    (i : Inverted (take (n + d - n) (drop n bytes)) (length (take (n + d - n) (drop n bytes))) part) where
  abbrev whole : List ℕ
  whole = put_mid n (n + d - n) bytes part

  turned : Inverted (drop n bytes) d (drop n whole)
  turned = inverted_part n d (n + d - n) bytes part (omega arith) inside i

  put : whole ≡ take n bytes ++ drop n whole
  put = part_joined n (n + d - n) bytes part (omega arith)

pub same_weight-requires : goal.same_weight-requires
same_weight-requires c =
    let a = c.args in
    let p = c.requires in
    let n = a.numerator in
    let d = a.denominator in
    let bytes = a.workspace.now in
    let part = c.invert.new.word in (
      p.0,
      p.1,
      p.2,
      two_words a.cells.now bytes n d p.0 p.1 p.2 p.3 _ _ (turned bytes part n d p.3.inside c.invert.ensures)
          (put bytes part n d p.3.inside c.invert.ensures),
    )

pub returns-then-not-same_weight-clause-compares : goal.returns-then-not-same_weight-clause-compares
returns-then-not-same_weight-clause-compares c T u v l =
    let a = c.args in
    let n = a.numerator in
    let d = a.denominator in
    let bytes = a.workspace.now in
    let part = c.invert.new.word in
    let weighed = c.same_weight.ensures T u v (two_words a.cells.now bytes n d T u v l _ _ (turned bytes part n d l.inside c.invert.ensures)
    (put bytes part n d l.inside c.invert.ensures)) in
    unequal_verdict T u v a.budget (length bytes) (eqb-false (weigh T u) (weigh T v) (sym weighed ∙ c.if-not-same_weight.true))

pub reverse_pair-ending-requires : goal.reverse_pair-ending-requires
reverse_pair-ending-requires c =
    let a = c.args in
    let p = c.requires in
    let n = a.numerator in
    let d = a.denominator in
    let bytes = a.workspace.now in
    let part = c.invert.new.word in
    let m = c.move_to_end in (
      p.0,
      p.1,
      p.2,
      at_ends a.cells.now bytes n d p.0 p.1 p.2 p.3 _ _ (turned bytes part n d p.3.inside c.invert.ensures)
          (put bytes part n d p.3.inside c.invert.ensures) m.new.bytes m.ensures,
    )

pub returns-clause-compares : goal.returns-clause-compares
returns-clause-compares c T u v l =
    let a = c.args in
    let n = a.numerator in
    let d = a.denominator in
    let bytes = a.workspace.now in
    let part = c.invert.new.word in
    let m = c.move_to_end in
    let r = c.reverse_pair-ending in
    let i = turned bytes part n d l.inside c.invert.ensures in
    let j = put bytes part n d l.inside c.invert.ensures in
    let weighed = c.same_weight.ensures T u v (two_words a.cells.now bytes n d T u v l _ _ i j) in
    let long = r.ensures.length ∙ (m.ensures.same_length ∙ after_long a.cells.now bytes n d T u v l _ _ i j) in
    ap compared c.judge.ensures
    ∙ equal_verdict T u v a.budget (length bytes) (eqb-true (weigh T u) (weigh T v) (sym weighed ∙ c.if-not-same_weight.false)) r.new.room long r.result
    (r.ensures.reverses T u v (at_ends a.cells.now bytes n d T u v l _ _ i j m.new.bytes m.ensures))
