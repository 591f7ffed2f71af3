-- Letters taken out of the word, and a letter with a word put in their place.
use mathlib.Core.Path.{◌≡◌, ap, ap₂, ◌∙◌}
use mathlib.Core.List.{List, ◌∷◌, ◌++◌}
use Prim.Native.Nat.{ℕ, suc, ◌+◌, ◌-◌, ◌≤◌}
use native.Mathlib.Omega.{arith}
use lib.ListN.{length, take, drop, length-append, length-take, length-drop}
use lib.Seq.{drop_at, take-append-le, take-take, length-take-le}
use Rattle.model.specs.Areas.{written}
use Rattle.swaps.specs.Held.{held_at, Placed}
use Rattle.swaps.specs.Entry.{WordHeld}

module _ (before : List ℕ) (left right taken b : ℕ) (word : List ℕ) (count : ℕ) (n : length word ≡ count) (p : Placed before left right)
    (t : right + taken ≤ length before) where
  abbrev made : List ℕ
  made = take left before ++ ((b ∷ word) ++ drop (right + taken) before)

  module _ (h : left + (1 + count) ≤ right + taken) where
    abbrev start : ℕ
    start = right + taken - (1 + count)

    start_fits : length (take start before) ≡ start
    start_fits = length-take-le start before (omega (arith, t))

    behind : start + suc (length word) ≡ right + taken
    behind = omega (arith, n)

    pub after_length : (after : List ℕ) → after ≡ written before start (b ∷ word) → length after ≡ length before
    after_length after e = ap length e ∙ simp (length-append, length-take, length-drop) (omega (arith, n, t))

    there : take left (written before start (b ∷ word)) ≡ take left before
    there =
        take-append-le left (take start before) ((b ∷ word) ++ drop (start + suc (length word)) before) (omega (arith, start_fits))
        ∙ take-take left start before (omega arith)

    rest : drop start (written before start (b ∷ word)) ≡ (b ∷ word) ++ drop (right + taken) before
    rest =
        drop_at (take start before) ((b ∷ word) ++ drop (start + suc (length word)) before) start start_fits
        ∙ ap (λ i. (b ∷ word) ++ drop i before) behind

    pub holds_made : (after : List ℕ) → after ≡ written before start (b ∷ word) → WordHeld made after left start
    unfolding held_at
    holds_made after e =
        record {
          placed = record { ordered = omega arith; inside = omega (arith, after_length after e, t) };
          word_is = ap (λ l. take left l ++ drop start l) e ∙ ap₂ (λ f l. f ++ l) there rest;
        }
