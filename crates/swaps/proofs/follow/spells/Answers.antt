-- The program's letters are its word's, which is compared letter by letter.
use Rattle.std.proofs.Common.{◌≡◌, ◌∙◌, sym, ap, arith, length, get_or}
use lib.Seq.{take_all}
use Rattle.model.specs.Word.{positive}
use Rattle.model.specs.Equivalence.{equal}
use Rattle.model.proofs.Impossible.{same_answer}
use Rattle.swaps.proofs.Comparing.{lengths_differ, number_at, spelled_start, spelled_more, spelled_fails, rest_done}
use Rattle.swaps.proofs.follow.spells.Goals as goal

pub returns-then-word-count : goal.returns-then-word-count
returns-then-word-count c v e =
    let f = same_answer c.requires.forward.word v (sym c.requires.forward.read ∙ e) in
    let n : length v ≡ c.args.count = ap length (sym f) ∙ c.requires.forward.count_is in
    sym (lengths_differ c.args.word.now v (λ g. c.if-word-count.true (omega arith)))

pub loop-i-init : goal.loop-i-init
loop-i-init c v e =
    let f = same_answer c.requires.forward.word v (sym c.requires.forward.read ∙ e) in
    let n : length v ≡ c.args.count = ap length (sym f) ∙ c.requires.forward.count_is in
    let w = c.args.word.now in
    ap (λ l. equal l v) (sym (take_all (length w) w (omega arith))) ∙ spelled_start w v (length w) (omega arith)

pub returns-then-letter-letter_at : goal.returns-then-letter-letter_at
returns-then-letter-letter_at c v e =
    let f = same_answer c.requires.forward.word v (sym c.requires.forward.read ∙ e) in
    let n : length v ≡ c.args.count = ap length (sym f) ∙ c.requires.forward.count_is in
    let w = c.args.word.now in
    let i = c.loop-i.i in
    let g : c.letter_at.result ≡ get_or v i 0 =
    c.letter_at.ensures (positive c.requires.forward.word) c.requires.forward.read_signed
    ∙ (number_at c.requires.forward.word i ∙ ap (λ u. get_or u i 0) f) in
    sym (c.loop-i.invariant v e ∙ spelled_fails w v (length w) (omega arith) (omega arith) i (omega arith) (λ h. c.if-letter-letter_at.true (h ∙ sym g)))

pub loop-i-preserved : goal.loop-i-preserved
loop-i-preserved c v e =
    let f = same_answer c.requires.forward.word v (sym c.requires.forward.read ∙ e) in
    let n : length v ≡ c.args.count = ap length (sym f) ∙ c.requires.forward.count_is in
    let w = c.args.word.now in
    let i = c.loop-i.i in
    let g : c.letter_at.result ≡ get_or v i 0 =
    c.letter_at.ensures (positive c.requires.forward.word) c.requires.forward.read_signed
    ∙ (number_at c.requires.forward.word i ∙ ap (λ u. get_or u i 0) f) in
    c.loop-i.invariant v e ∙ spelled_more w v (length w) (omega arith) (omega arith) i (omega arith) (c.if-letter-letter_at.false ∙ g)

pub returns : goal.returns
returns c v e = sym (c.loop-i.invariant v e ∙ rest_done c.args.word.now v 0 0 (length c.args.word.now) c.loop-i.i (omega arith))
