-- An inner residual that is no word is the side's; where both are words, the third is.
use Rattle.std.proofs.Common.{◌∙◌, ap, length, [], ◌∷◌}
use Rattle.std.proofs.lemmas.Result.{err_from_is_err_and}
use Rattle.model.specs.Checks.{under}
use Rattle.table_checks.proofs.Sides.{without_third, without_second, a_word, first_halts, first_missing, second_halts, second_missing, both_found}
use Rattle.table_checks.proofs.Sides.{found_rule, found_cell}
use Rattle.table_checks.proofs.residuals.side.Goals as goal

pub returns-in_err-letter_residual-clause-works : goal.returns-in_err-letter_residual-clause-works
returns-in_err-letter_residual-clause-works c T t =
    let p = err_from_is_err_and c.from_residual.result c.from_residual.ensures.1 in
    let a = c.args in
    let k = a.triple in
    rw (p.1, p.2)
    (first_halts T a.budget (length a.bytes.now) k.a k.b k.c a.bytes.now c.in_err-letter_residual.field-0.0
    (c.in_err-letter_residual.ensures T (without_third t)))

pub returns-then-is_none-clause-works : goal.returns-then-is_none-clause-works
returns-then-is_none-clause-works c T t =
    let a = c.args in
    let k = a.triple in
    first_missing T a.budget (length a.bytes.now) k.a k.b k.c a.bytes.now c.in_ok-letter_residual.field-0 c.if-is_none.ensures
    (c.in_ok-letter_residual.ensures T (without_third t))

pub returns-in_err-letter_residual-2-clause-works : goal.returns-in_err-letter_residual-2-clause-works
returns-in_err-letter_residual-2-clause-works c T t =
    let h = c.from_residual-in_err-letter_residual-2 in
    let p = err_from_is_err_and h.result h.ensures.1 in
    let a = c.args in
    let k = a.triple in
    let first = under T a.budget (length a.bytes.now) (k.a ∷ []) (k.b ∷ []) in
    let x = a_word first c.in_ok-letter_residual.field-0 c.if-is_none.ensures (c.in_ok-letter_residual.ensures T (without_third t)) in
    rw (p.1, p.2)
    (second_halts T a.budget (length a.bytes.now) k.a k.b k.c x.0 x.1 a.bytes.now c.in_err-letter_residual-2.field-0.0
    (c.in_err-letter_residual-2.ensures T (without_second t)))

pub returns-then-is_none-2-clause-works : goal.returns-then-is_none-2-clause-works
returns-then-is_none-2-clause-works c T t =
    let a = c.args in
    let k = a.triple in
    let first = under T a.budget (length a.bytes.now) (k.a ∷ []) (k.b ∷ []) in
    let x = a_word first c.in_ok-letter_residual.field-0 c.if-is_none.ensures (c.in_ok-letter_residual.ensures T (without_third t)) in
    second_missing T a.budget (length a.bytes.now) k.a k.b k.c x.0 x.1 a.bytes.now c.in_ok-letter_residual-2.field-0 c.if-is_none-2.ensures
    (c.in_ok-letter_residual-2.ensures T (without_second t))

pub word_residual-requires-clause-defined : goal.word_residual-requires-clause-defined
word_residual-requires-clause-defined c =
    let a = c.args in
    let k = a.triple in
    let T = c.requires.0 in
    let t = c.requires.1 in
    let room = length a.bytes.now in
    let x = a_word (under T a.budget room (k.a ∷ []) (k.b ∷ [])) c.in_ok-letter_residual.field-0 c.if-is_none.ensures
    (c.in_ok-letter_residual.ensures T (without_third t)) in
    let y = a_word (under T a.budget room (k.a ∷ []) (k.c ∷ [])) c.in_ok-letter_residual-2.field-0 c.if-is_none-2.ensures
    (c.in_ok-letter_residual-2.ensures T (without_second t)) in (
      found_cell T a.budget room k.a k.b x.1 t t.lettered.0 t.lettered.1.0,
      found_cell T a.budget room k.a k.c y.1 t t.lettered.0 t.lettered.1.1.0,
    )

pub returns-clause-works : goal.returns-clause-works
returns-clause-works c T t =
    let a = c.args in
    let k = a.triple in
    let room = length a.bytes.now in
    let q = c.word_residual in
    let x = a_word (under T a.budget room (k.a ∷ []) (k.b ∷ [])) c.in_ok-letter_residual.field-0 c.if-is_none.ensures
    (c.in_ok-letter_residual.ensures T (without_third t)) in
    let y = a_word (under T a.budget room (k.a ∷ []) (k.c ∷ [])) c.in_ok-letter_residual-2.field-0 c.if-is_none-2.ensures
    (c.in_ok-letter_residual-2.ensures T (without_second t)) in
    let whole =
    both_found T a.budget (length q.new.bytes) k.a k.b k.c x.0 (ap (λ i. under T a.budget i (k.a ∷ []) (k.b ∷ [])) q.ensures.length ∙ x.1) y.0
    (ap (λ i. under T a.budget i (k.a ∷ []) (k.c ∷ [])) q.ensures.length ∙ y.1) in
    rw whole
    (q.ensures.works T t x.0 _ y.0 _ (found_rule T a.budget room k.a k.b x.1) (found_rule T a.budget room k.a k.c y.1))
