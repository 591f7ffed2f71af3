-- Cells written out part after part, whatever a pair is written as: the words of a pair, the pairs of a row, the rows of a table.
use mathlib.Core.Path.{◌≡◌, refl, sym, ap, subst, ◌∙◌}
use mathlib.Core.List.{List, [], ◌∷◌, ◌++◌, append-nil}
use Prim.Native.Nat.{ℕ, ◌+◌, ◌-◌, ◌^◌, ◌≤◌, ◌<◌}
use native.Mathlib.Omega.{arith}
use native.Mathlib.Numerals.{add-one}
use lib.ListN.{length, get_or, take, drop, length-append, length-drop}
use Rattle.std.proofs.lemmas.List.{ext_get_or, get_or-take, get_or-drop}
use lib.Seq.{take-suc, take_all, length-take-le}
use Rattle.model.specs.Word.{Positive}
use Rattle.model.specs.Presentation.{Presentation, Complement, undefined, complement}
use Rattle.model.specs.Outcome.{Outcome}
use Rattle.model.specs.Images.{weight_width}
use Rattle.model.specs.Enumeration.{concat_map}
use Rattle.model.proofs.Lists.{concat_append}
use Rattle.cells.specs.Kept.{HoldsPair}
use Rattle.cells.specs.Layout.{Letters, cell_at, cell_length, weight_at}
use Rattle.cells.specs.Stands.{HoldsWord, HoldsWeights}
use Rattle.images.specs.Tables.{HoldsRow, RowsHeld, Loaded}
use Rattle.writers.specs.Held.{HoldsSomePair, HoldsSomeRow, HoldsSomeTable}

-- WORDS

-- one part more of a list, whatever its parts are written as
pub parts_more : {A : Type 0} (f : A → List ℕ) (xs : List A) (i : ℕ) (d : A) → i < length xs
    → concat_map f (take i xs) ++ f (get_or xs i d) ≡ concat_map f (take (i + 1) xs)
parts_more f xs i d h =
    ap (λ l. concat_map f (take i xs) ++ l) (sym (append-nil (f (get_or xs i d))))
    ∙ (sym (concat_append f (take i xs) (get_or xs i d ∷ []))
    ∙ ap (concat_map f) (sym (take-suc xs i d h) ∙ ap (λ k. take k xs) (sym (add-one i))))

-- the bytes behind a cell's first, as many as it says, are the word that it holds
pub letters_held : {size : ℕ} {cells : List ℕ} {cell n : ℕ} {x : Positive} → HoldsWord size cells cell x → n ≡ get_or cells cell 0
    → cell + cell_length ≤ length cells → take n (drop (cell + 1) cells) ≡ x
letters_held {cells} {cell} {n} {x} h e inside =
    let l : length (take n (drop (cell + 1) cells)) ≡ length x =
    length-take-le n (drop (cell + 1) cells) (omega (arith, h.count, h.in_range.short, length-drop (cell + 1) cells)) ∙ (e ∙ h.count) in
    ext_get_or 0 (take n (drop (cell + 1) cells)) x l
    (λ i g.
    let small : i < n = omega (arith, h.count) in
    get_or-take n (drop (cell + 1) cells) i 0 small ∙ (get_or-drop (cell + 1) cells i 0 ∙ h.letters i (omega arith)))

-- PAIRS

module _ (size : ℕ) (cells : List ℕ) (a b : ℕ) where
  pub both_words : (pair : Complement) → HoldsPair size cells a b pair → (get_or cells (cell_at a b) 0 ≡ 255 → ⊥)
      → (x : Positive) × (y : Positive) × (pair ≡ complement x y) × HoldsWord size cells (cell_at a b) x × HoldsWord size cells (cell_at b a) y
  both_words undefined h d = absurd (d h.there)
  both_words (complement x y) h d = (x, y, refl, h.there, h.back)

-- ROWS

module _ (size : ℕ) (cells : List ℕ) (a : ℕ) (row : List Complement) (holds : HoldsRow size cells a row) (wide : length row + a ≡ size) where
  pub row_pair : (b : ℕ) → a < b → b ≤ size → HoldsPair size cells a b (get_or row (b - a - 1) undefined)
  row_pair b low high =
      let e : a + 1 + (b - a - 1) ≡ b = omega arith in
      subst (λ q. HoldsPair size cells a q (get_or row (b - a - 1) undefined)) e (holds (b - a - 1) (omega arith))

module _ (f : Complement → List ℕ) (size : ℕ) (cells : List ℕ) (a : ℕ) (row : List Complement) (holds : HoldsRow size cells a row)
    (wide : length row + a ≡ size) where
  pub row_more : (b : ℕ) → a < b → b ≤ size → concat_map f (take (b - a - 1) row) ++ f (get_or row (b - a - 1) undefined)
      ≡ concat_map f (take (b + 1 - a - 1) row)
  row_more b low high =
      let e : b - a - 1 + 1 ≡ b + 1 - a - 1 = omega arith in
      parts_more f row (b - a - 1) undefined (omega arith) ∙ ap (λ k. concat_map f (take k row)) e

  pub row_length : (b : ℕ) → a < b → b ≤ size → length (concat_map f (take (b - a - 1) row)) + length (f (get_or row (b - a - 1) undefined))
      ≡ length (concat_map f (take (b + 1 - a - 1) row))
  row_length b low high =
      sym (length-append (concat_map f (take (b - a - 1) row)) (f (get_or row (b - a - 1) undefined))) ∙ ap length (row_more b low high)

-- the pairs of a row that the cells hold
pub row_pairs : {size : ℕ} {cells : List ℕ} {a : ℕ} → HoldsSomeRow size cells a → (b : ℕ) → a < b → b ≤ size
    → HoldsSomePair size cells a b × Letters a b
row_pairs {size} {cells} {a} w b low high = (
  record { pair = get_or w.row (b - a - 1) undefined; holds = row_pair size cells a w.row w.holds w.row_length b low high },
  (
    record { low = w.positive; high = omega (arith, w.below, w.few) },
    record { low = omega (arith, w.positive); high = omega (arith, w.few) },
  ),
)

-- TABLES

module _ (size : ℕ) (cells : List ℕ) (rows : List (List Complement)) (listed : RowsHeld size cells rows) where
  pub table_row : (a : ℕ) → 1 ≤ a → a ≤ size → HoldsRow size cells a (get_or rows (a - 1) [])
  table_row a low high =
      let e : 1 + (a - 1) ≡ a = omega arith in
      subst (λ p. HoldsRow size cells p (get_or rows (a - 1) [])) e (listed.holds (a - 1) (omega (arith, listed.many)))

  pub table_width : (a : ℕ) → 1 ≤ a → a ≤ size → length (get_or rows (a - 1) []) + a ≡ size
  table_width a low high = omega (arith, listed.widths (a - 1) (omega (arith, listed.many)))

-- the rows of a table that the cells hold
pub table_rows : {size : ℕ} {cells : List ℕ} → HoldsSomeTable size cells → (a : ℕ) → 1 ≤ a → a ≤ size → HoldsSomeRow size cells a
table_rows {size} {cells} t a low high =
    record {
      positive = low;
      below = high;
      few = t.few;
      row = get_or t.rows (a - 1) [];
      row_length = table_width size cells t.rows t.listed a low high;
      holds = table_row size cells t.rows t.listed a low high;
    }

module _ (f : Complement → List ℕ) (size : ℕ) (cells : List ℕ) (rows : List (List Complement)) (listed : RowsHeld size cells rows) where
  pub table_more : (a : ℕ) → 1 ≤ a → a ≤ size
      → concat_map (concat_map f) (take (a - 1) rows) ++ concat_map f (get_or rows (a - 1) []) ≡ concat_map (concat_map f) (take (a + 1 - 1) rows)
  table_more a low high =
      let e : a - 1 + 1 ≡ a + 1 - 1 = omega arith in
      parts_more (concat_map f) rows (a - 1) [] (omega (arith, listed.many)) ∙ ap (λ k. concat_map (concat_map f) (take k rows)) e

  pub table_all : (a : ℕ) → size < a → concat_map (concat_map f) (take (a - 1) rows) ≡ concat_map (concat_map f) rows
  table_all a h = ap (concat_map (concat_map f)) (take_all (a - 1) rows (omega (arith, listed.many)))

  pub rows_length : (a : ℕ) → 1 ≤ a → a ≤ size → length (concat_map (concat_map f) (take (a - 1) rows)) + length (concat_map f (get_or rows (a - 1) []))
      ≡ length (concat_map (concat_map f) (take (a + 1 - 1) rows))
  rows_length a low high =
      sym (length-append (concat_map (concat_map f) (take (a - 1) rows)) (concat_map f (get_or rows (a - 1) []))) ∙ ap length (table_more a low high)

-- WEIGHTS, of letters that are written by f

module _ (size : ℕ) (cells excess : List ℕ) (h : HoldsWeights size cells excess) where
  weight_there : (a : ℕ) → 1 ≤ a → a ≤ size → get_or cells (weight_at a) 0 ≡ get_or excess (a - 1) 0
  weight_there a low high =
      let e : 1 + (a - 1) ≡ a = omega arith in
      subst (λ i. get_or cells (weight_at i) 0 ≡ get_or excess (a - 1) 0) e (h.holds (a - 1) (omega (arith, h.many)))

  pub weight_light : (a : ℕ) → 1 ≤ a → a ≤ size → get_or cells (weight_at a) 0 < 2 ^ weight_width
  weight_light a low high = subst (λ v. v < 2 ^ weight_width) (sym (weight_there a low high)) (h.light (a - 1) (omega (arith, h.many)))

  pub weight_more : (f : ℕ → List ℕ) (a : ℕ) → 1 ≤ a → a ≤ size → concat_map f (take (a - 1) excess) ++ f (get_or cells (weight_at a) 0) ≡ concat_map f
      (take (a + 1 - 1) excess)
  weight_more f a low high =
      let e : a - 1 + 1 ≡ a + 1 - 1 = omega arith in
      ap (λ v. concat_map f (take (a - 1) excess) ++ f v) (weight_there a low high)
      ∙ (parts_more f excess (a - 1) 0 (omega (arith, h.many)) ∙ ap (λ k. concat_map f (take k excess)) e)

-- what a loaded table holds, to be written out
pub loaded_weights : {o : Outcome Presentation} {cells : List ℕ} {size : ℕ} (t : Loaded o cells size) → HoldsWeights size cells t.table.excess
loaded_weights {cells} t = subst (λ n. HoldsWeights n cells t.table.excess) t.of.sized t.of.stands.weights
