-- The one step of two letters, told by the lengths of their cells.
use Rattle.std.proofs.Common.{◌≡◌, ◌∙◌, sym, ap, arith, List, [], ◌∷◌, ℕ, length, get_or, Ok, Some}
use Rattle.model.specs.Word.{positive}
use Rattle.model.specs.Presentation.{Presentation}
use Rattle.cells.specs.Layout.{cell_at}
use Rattle.cells.specs.Stands.{Serves}
use Rattle.cells.proofs.Rules.{open_cell, Rule}
use Rattle.table_checks.proofs.Working.{letters_long, letters_open, letters_spent, letters_wide, letters_found}
use Rattle.table_checks.proofs.CellWords.{rule_of}
use Rattle.table_checks.proofs.residuals.letter_residual.Goals as goal

-- the two words of a pair that is not open, and their lengths
module _ {cells : List ℕ} {a b : ℕ} (T : Presentation) (t : Serves cells (positive (a ∷ b ∷ [])) T) {to : ℕ} (et : to ≡ cell_at a b)
    (there : get_or cells to 0 ≡ 255 → ⊥) where
  words : Rule cells T a b
  words = rule_of t a b t.lettered.0 t.lettered.1.0 (λ e. there (ap (λ i. get_or cells i 0) et ∙ e))

  to_count : get_or cells to 0 ≡ length words.x
  to_count = ap (λ i. get_or cells i 0) et ∙ words.to.count

  from_count : {from : ℕ} → from ≡ cell_at b a → get_or cells from 0 ≡ length words.y
  from_count e = ap (λ i. get_or cells i 0) e ∙ words.from.count

pub returns-then-room-lt2 : goal.returns-then-room-lt2
returns-then-room-lt2 c T t = letters_long T c.args.room c.args.a c.args.b c.args.budget c.if-room-lt2.true

pub returns-then-x-eq-UNDEFINED_LENGTH : goal.returns-then-x-eq-UNDEFINED_LENGTH
returns-then-x-eq-UNDEFINED_LENGTH c T t =
    let a = c.args in
    letters_open T a.room a.a a.b c.if-room-lt2.false a.budget
    (open_cell a.cells.now T t.stands a.a a.b t.lettered.0 t.lettered.1.0
    (sym (ap (λ i. get_or a.cells.now i 0) c.cell_at.ensures) ∙ c.if-x-eq-UNDEFINED_LENGTH.true))

pub returns-then-budget-eq0 : goal.returns-then-budget-eq0
returns-then-budget-eq0 c T t =
    let a = c.args in
    let w = words T t c.cell_at.ensures c.if-x-eq-UNDEFINED_LENGTH.false in
    letters_spent T a.room a.a a.b c.if-room-lt2.false w.x w.y w.rule a.budget c.if-budget-eq0.true

pub returns-then-room-x : goal.returns-then-room-x
returns-then-room-x c T t =
    let a = c.args in
    let there = c.if-x-eq-UNDEFINED_LENGTH.false in
    let w = words T t c.cell_at.ensures there in
    letters_wide T a.room a.a a.b c.if-room-lt2.false w.x w.y w.rule a.budget c.if-budget-eq0.false
    (omega (arith, to_count T t c.cell_at.ensures there, from_count T t c.cell_at.ensures there c.cell_at-2.ensures))

pub returns : goal.returns
returns c T t =
    let a = c.args in
    let there = c.if-x-eq-UNDEFINED_LENGTH.false in
    let w = words T t c.cell_at.ensures there in
    let n = to_count T t c.cell_at.ensures there in
    ap (λ k. Ok (Some k)) n
    ∙ letters_found T a.room a.a a.b c.if-room-lt2.false w.x w.y w.rule a.budget c.if-budget-eq0.false
    (omega (arith, n, from_count T t c.cell_at.ensures there c.cell_at-2.ensures))
