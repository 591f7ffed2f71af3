-- The words in the area, each with its mark.
use mathlib.Core.List.{List, [], ◌∷◌, ◌++◌, map, Memᴰ}
use Rattle.std.specs.Prelude.{true, false, ◌≡◌, ℕ, ◌≤◌, ◌<◌, length, take, get_or, Option, Some, None}
use Rattle.model.specs.Word.{Positive}
use Rattle.model.specs.Enumeration.{concat_map}
use Rattle.model.specs.Ways.{earlier, Ordered}
use Rattle.spans.specs.Ends.{is_ending}

-- a word with the byte that ends it
pub record Marked : Type 0 where
  pub word : Positive
  pub mark : ℕ

abbrev pub entry_bytes : Marked → List ℕ
entry_bytes m = m.word ++ (m.mark ∷ [])

abbrev pub spelled : List Marked → List ℕ
spelled ms = concat_map entry_bytes ms

abbrev pub words : List Marked → List Positive
words ms = map (λ m. m.word) ms

-- no byte of the word ends it, and its mark does
pub record Legible (m : Marked) : Type 0 where
  pub letters : (i : ℕ) → i < length m.word → is_ending (get_or m.word i 0) ≡ false
  pub ends : is_ending m.mark ≡ true

-- the first bytes of the area are these words
pub record Spells (area : List ℕ) (used : ℕ) (ms : List Marked) : Type 0 where
  pub fits : used ≤ length area
  pub bytes : take used area ≡ spelled ms
  pub legible : (m : Marked) → Memᴰ m ms → Legible m
  pub ordered : Ordered (words ms)

abbrev pub Searched : List ℕ → ℕ → Type 0
Searched area used = (ms : List Marked) × Spells area used ms

-- a word is among those listed, as far as their order tells
pub record Listed (ms : List Marked) (v : Positive) : Type 0 where
  pub one : Marked
  pub among : Memᴰ one ms
  pub not_before : earlier v one.word ≡ false
  pub not_after : earlier one.word v ≡ false

-- v has its place at a byte: between those before and those after it
pub record Fits (ms : List Marked) (v : Positive) (at : ℕ) : Type 0 where
  pub before : List Marked
  pub after : List Marked
  pub parts : ms ≡ before ++ after
  pub at_is : at ≡ length (spelled before)
  pub earlier_all : (m : Marked) → Memᴰ m before → earlier m.word v ≡ true
  pub later_all : (m : Marked) → Memᴰ m after → earlier v m.word ≡ true

abbrev pub PlaceMeans : List Marked → Positive → Option ℕ → Type 0
PlaceMeans ms v None = Listed ms v
PlaceMeans ms v (Some at) = Fits ms v at
