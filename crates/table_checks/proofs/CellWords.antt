-- Two words of the cells, C(a,b) and C(a,c), loaded for a reversing: the inverse of the first, then the second.
use mathlib.Core.Path.{◌≡◌, refl, sym, ap, ◌∙◌}
use mathlib.Core.List.{List, ◌++◌}
use Prim.Native.Nat.{ℕ, ◌+◌, ◌-◌, ◌≤◌}
use native.Mathlib.Omega.{arith}
use lib.ListN.{length, take, drop, get_or}
use Rattle.model.specs.Word.{Word, Positive, positive, negative, inverse}
use Rattle.model.specs.Presentation.{Presentation, complement, complete}
use Rattle.engine.specs.Gap.{letters, word_at, Searched}
use Rattle.cells.specs.Layout.{cell_at, cell_length}
use Rattle.model.specs.Range.{InRange}
use Rattle.model.specs.Images.{most_size, most_length}
use Rattle.cells.proofs.Rules.{cell_word, WordAt, Rule, inside, word_cell}
use Rattle.cells.specs.Stands.{Serves}
use Rattle.engine.specs.Turn.{Pushed}
use Rattle.engine.proofs.Lettering.{length_negative}
use Rattle.engine.proofs.Pushes.{pushed_as, pushed_kept}
use Rattle.engine.proofs.Stepping.{cell_letters_lem}
use Rattle.engine.proofs.Loads.{pushed_front, pushed_end, loaded, load_searched, load_serves}

-- the cell of a pair of letters that the presentation has
module _ {cells : List ℕ} {T : Presentation} {word : Word} (s : Serves cells word T) (a b : ℕ) (ra : InRange T.size a) (rb : InRange T.size b) where
  pub cell_of : (x y : Positive) → complete T a b ≡ complement x y → WordAt cells (cell_at a b) T.size x
  cell_of = cell_word cells T s.stands a b ra rb

  pub rule_of : (get_or cells (cell_at a b) 0 ≡ 255 → ⊥) → Rule cells T a b
  rule_of h = word_cell cells T s.stands a b ra rb h

  pub short_cell : (get_or cells (cell_at a b) 0 ≡ 255 → ⊥) → get_or cells (cell_at a b) 0 ≤ most_length
  short_cell h = let r = rule_of h in omega (arith, r.to.count, r.to.short)

  pub cell_inside : cell_at a b + cell_length ≤ length cells
  cell_inside = inside cells T s.stands a b ra rb

module _ {cells bytes mid last : List ℕ} (a b c : ℕ) {to_b to_c : ℕ} (eb : to_b ≡ cell_at a b) (ec : to_c ≡ cell_at a c)
    (p : Pushed (inverse (letters (take (get_or cells to_b 0) (drop (to_b + 1) cells)))) bytes (get_or cells to_b 0) (get_or cells to_b 0) mid)
    (q : Pushed (letters (take (get_or cells to_c 0) (drop (to_c + 1) cells))) mid (length bytes) (get_or cells to_c 0) last)
    (room : get_or cells to_b 0 + get_or cells to_c 0 ≤ length bytes)
    (T : Presentation) (few : T.size ≤ most_size) {x y : Positive} (cx : WordAt cells (cell_at a b) T.size x)
    (cy : WordAt cells (cell_at a c) T.size y) where
  x_count : get_or cells to_b 0 ≡ length x
  x_count = ap (λ i. get_or cells i 0) eb ∙ cx.count

  y_count : get_or cells to_c 0 ≡ length y
  y_count = ap (λ i. get_or cells i 0) ec ∙ cy.count

  first : Pushed (negative x) bytes (get_or cells to_b 0) (get_or cells to_b 0) mid
  first = pushed_as (ap inverse (cell_letters_lem few cx (to_b + 1) (get_or cells to_b 0) (ap (λ i. i + 1) eb) x_count)) refl p

  second : Pushed (positive y) mid (length bytes) (get_or cells to_c 0) last
  second = pushed_as (cell_letters_lem few cy (to_c + 1) (get_or cells to_c 0) (ap (λ i. i + 1) ec) y_count) refl q

  pub left_word : letters (take (get_or cells to_b 0) last) ≡ negative x
  left_word =
      ap letters (pushed_kept q (get_or cells to_b 0) (omega arith))
      ∙ pushed_front first (length_negative x ∙ sym x_count) (omega arith)

  pub right_word : letters (drop (length bytes - get_or cells to_c 0) last) ≡ positive y
  right_word = pushed_end (sym p.same_length) second

  last_length : length last ≡ length bytes
  last_length = q.same_length ∙ p.same_length

  pub words_loaded : word_at last (get_or cells to_b 0) (length bytes - get_or cells to_c 0) ≡ negative x ++ positive y
  words_loaded =
      loaded last (get_or cells to_b 0) (length bytes - get_or cells to_c 0) x y (omega arith) (omega (arith, last_length)) left_word right_word

  pub words_searched : Searched last (get_or cells to_b 0) (length bytes - get_or cells to_c 0)
  words_searched =
      load_searched last (get_or cells to_b 0) (length bytes - get_or cells to_c 0) x y (omega arith) (omega (arith, last_length)) left_word right_word

  pub words_served : {word : Word} → Serves cells word T → Serves cells (word_at last (get_or cells to_b 0) (length bytes - get_or cells to_c 0)) T
  words_served s =
      load_serves last (get_or cells to_b 0) (length bytes - get_or cells to_c 0) x y (omega arith) (omega (arith, last_length)) left_word right_word
      s.stands cx.lettered cy.lettered
