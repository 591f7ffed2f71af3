-- Cells written and kept: different cells lie apart, what a cell holds stays as long as its bytes do, and a pair written into its two cells stands there.
use mathlib.Core.Path.{◌≡◌, subst, ◌∙◌}
use mathlib.Core.Logic.{◌≢◌, ◌⊎◌, inl, inr, ⊎_elim}
use mathlib.Core.List.{List}
use Prim.Native.Nat.{ℕ, ◌+◌, ◌≤◌, ◌<◌}
use native.Mathlib.Omega.{arith}
use lib.ListN.{length, set, get_or, length-set}
use lib.Seq.{get_or-set_same, get_or-set_other}
use Rattle.model.specs.Word.{Positive}
use Rattle.model.specs.Presentation.{Complement, undefined, complement}
use Rattle.model.proofs.Numbers.{below_or}
use Rattle.cells.specs.Layout.{Letters, cell_at, cell_length, cell_bytes}
use Rattle.cells.specs.Stands.{HoldsWord, HoldsFirst}
use Rattle.cells.specs.Kept.{KeptOutside, SameCell, HoldsPair, KeptPair}

-- different cells lie apart
pub apart : (p q a b k : ℕ) → Letters p q → Letters a b → ((p ≡ a) × (q ≡ b) → ⊥) → k < cell_length
    → (cell_at p q + k < cell_at a b) ⊎ (cell_at a b + cell_length ≤ cell_at p q + k)
apart p q a b k lp la d h =
    ⊎_elim
    (λ (l : cell_at p q < cell_at a b). inl (omega arith))
    (λ (l : cell_at a b ≤ cell_at p q).
    ⊎_elim
    (λ (m : cell_at a b < cell_at p q). inr (omega arith))
    (λ (m : cell_at p q ≤ cell_at a b).
    let first : p ≡ a = omega (arith, lp.0.low, lp.1.low, lp.1.high, la.0.low, la.1.low, la.1.high) in
    let second : q ≡ b = omega (arith, lp.0.low, lp.1.low, lp.1.high, la.0.low, la.1.low, la.1.high) in
    absurd (d (first, second)))
    (below_or (cell_at a b) (cell_at p q)))
    (below_or (cell_at p q) (cell_at a b))

-- a byte stored in a cell
pub kept_store : (before : List ℕ) (cell : ℕ) (cells : List ℕ) (i v : ℕ) → KeptOutside before cell cells → cell ≤ i → i < cell + cell_length
    → KeptOutside before cell (set cells i v)
kept_store before cell cells i v k low high j o =
    get_or-set_other cells i j v 0 (λ e. ⊎_elim (λ (h : j < cell). omega arith) (λ (h : cell + cell_length ≤ j). omega arith) o) ∙ k j o

pub kept_cell : (before after : List ℕ) (p q a b : ℕ) → Letters p q → Letters a b → ((p ≡ a) × (q ≡ b) → ⊥) → KeptOutside before (cell_at a b) after
    → SameCell before after p q
kept_cell before after p q a b lp la d kept k h = kept (cell_at p q + k) (apart p q a b k lp la d h)

pub same_cell_after : (before mid after : List ℕ) (p q : ℕ) → SameCell before mid p q → SameCell mid after p q → SameCell before after p q
same_cell_after before mid after p q f g k h = g k h ∙ f k h

-- the first byte of a cell
pub first_byte : (before after : List ℕ) (p q : ℕ) → SameCell before after p q → get_or after (cell_at p q) 0 ≡ get_or before (cell_at p q) 0
first_byte before after p q s =
    let zero_th : cell_at p q + 0 ≡ cell_at p q = omega arith in
    subst (λ i. get_or after i 0 ≡ get_or before i 0) zero_th (s 0 (omega arith))

-- what a cell holds stays as long as its bytes do
pub holds_word_kept : (size : ℕ) (before after : List ℕ) (p q : ℕ) (x : Positive) → SameCell before after p q → HoldsWord size before (cell_at p q) x
    → HoldsWord size after (cell_at p q) x
holds_word_kept size before after p q x s h =
    record {
      count = first_byte before after p q s ∙ h.count;
      letters = λ k l.
          let e : cell_at p q + (1 + k) ≡ cell_at p q + 1 + k = omega arith in
          subst (λ i. get_or after i 0 ≡ get_or before i 0) e (s (1 + k) (omega (arith, h.in_range.short))) ∙ h.letters k l;
      in_range = h.in_range;
    }

pub holds_kept : (size : ℕ) (before after : List ℕ) (p q : ℕ) (c : Complement) → SameCell before after p q → HoldsFirst size before (cell_at p q) c
    → HoldsFirst size after (cell_at p q) c
holds_kept size before after p q undefined s h = first_byte before after p q s ∙ h
holds_kept size before after p q (complement x y) s h = holds_word_kept size before after p q x s h

pub swap_letters : (a b : ℕ) → Letters a b → Letters b a
swap_letters a b l = (record { low = l.1.low; high = l.1.high }, record { low = l.0.low; high = l.0.high })

pub cell_inside : (a b : ℕ) → Letters a b → cell_at a b + cell_length ≤ cell_bytes
cell_inside a b letters = omega (arith, letters.0.low, letters.0.high, letters.1.low, letters.1.high)

-- THE TWO CELLS OF A PAIR of different letters

module _ (before : List ℕ) (a b : ℕ) (letters : Letters a b) where
  abbrev turned : Letters b a
  turned = swap_letters a b letters

  module _ (size : ℕ) (differ : a ≢ b) (full : length before ≡ cell_bytes) where
    pub undefined_held : HoldsPair size (set (set before (cell_at a b) 255) (cell_at b a) 255) a b undefined
    undefined_held =
        record {
          there =
              get_or-set_other (set before (cell_at a b) 255) (cell_at b a) (cell_at a b) 255 0
              (λ e. differ (omega (arith, letters.0.low, letters.0.high, letters.1.low, letters.1.high)))
              ∙ get_or-set_same before (cell_at a b) 255 0 (omega (arith, cell_inside a b letters));
          back = get_or-set_same (set before (cell_at a b) 255) (cell_at b a) 255 0
              (omega (arith, cell_inside b a turned, length-set before (cell_at a b) 255));
        }

  pub undefined_kept : KeptPair before a b (set (set before (cell_at a b) 255) (cell_at b a) 255)
  undefined_kept p q l d₁ d₂ k h =
      get_or-set_other (set before (cell_at a b) 255) (cell_at b a) (cell_at p q + k) 255 0
      (λ e. ⊎_elim (λ (x : cell_at p q + k < cell_at b a). omega arith) (λ (x : cell_at b a + cell_length ≤ cell_at p q + k). omega arith)
      (apart p q b a k l turned d₂ h))
      ∙ get_or-set_other before (cell_at a b) (cell_at p q + k) 255 0
      (λ e. ⊎_elim (λ (x : cell_at p q + k < cell_at a b). omega arith) (λ (x : cell_at a b + cell_length ≤ cell_at p q + k). omega arith)
      (apart p q a b k l letters d₁ h))

  module _ (mid after : List ℕ) (first : KeptOutside before (cell_at a b) mid) (second : KeptOutside mid (cell_at b a) after) where
    pub words_held : (size : ℕ) → a ≢ b → (x y : Positive) → HoldsWord size mid (cell_at a b) x → HoldsWord size after (cell_at b a) y
        → HoldsPair size after a b (complement x y)
    words_held size differ x y there back =
        record { there = holds_word_kept size mid after a b x (kept_cell mid after a b b a letters turned (λ e. differ e.0) second) there; back = back }

    pub words_kept : KeptPair before a b after
    words_kept p q l d₁ d₂ =
        same_cell_after before mid after p q (kept_cell before mid p q a b l letters d₁ first) (kept_cell mid after p q b a l turned d₂ second)
