-- Bytes moved on, and bytes put in their place.
use Rattle.std.specs.Prelude.{List, ◌⊎◌, cond, ◌≡◌, ℕ, ◌+◌, ◌≤◌, ◌<◌, ltb, length, get_or}
use Rattle.ways.specs.declared.swap.Swap.{Swap}
use Rattle.ways.specs.Swap.{new_length}

-- the bytes from `at` to `used` stand `by` places on; those before, and those that nothing is moved to, are as they were
pub record Shifted (before : List ℕ) (at used by : ℕ) (after : List ℕ) : Type 0 where
  pub same_length : length after ≡ length before
  pub below : (i : ℕ) → i < at → get_or after i 0 ≡ get_or before i 0
  pub moved : (i : ℕ) → at ≤ i → i < used → get_or after (i + by) 0 ≡ get_or before i 0
  pub above : (i : ℕ) → used + by ≤ i → get_or after i 0 ≡ get_or before i 0

-- where a byte stands after that
abbrev pub moved_on : ℕ → ℕ → ℕ → ℕ
moved_on byte at by = cond (ltb byte at) byte (byte + by)

-- some bytes stand from a place on; the others are as they were
pub record Put (before : List ℕ) (at : ℕ) (bytes after : List ℕ) : Type 0 where
  pub same_length : length after ≡ length before
  pub below : (i : ℕ) → i < at → get_or after i 0 ≡ get_or before i 0
  pub put : (i : ℕ) → i < length bytes → get_or after (at + i) 0 ≡ get_or bytes i 0
  pub above : (i : ℕ) → at + length bytes ≤ i → get_or after i 0 ≡ get_or before i 0

-- the length of the word that a swap is made in
abbrev pub old_length : Swap → ℕ
old_length s = s.offset + s.taken + s.rest

-- the old word is not where the new one is put
abbrev pub Apart : Swap → ℕ → Type 0
Apart s at = (s.word + old_length s ≤ at) ⊎ (at + new_length s + 1 ≤ s.word)

-- the old word ends before the place, or stands behind it
pub record Beside (s : Swap) (at used : ℕ) : Type 0 where
  pub place : at ≤ used
  pub inside : s.word + old_length s ≤ used
  pub before : s.word < at → s.word + old_length s ≤ at

-- bytes put at a place, and those from there to `used` moved on
pub record Opened (before : List ℕ) (at used : ℕ) (bytes after : List ℕ) : Type 0 where
  pub same_length : length after ≡ length before
  pub below : (i : ℕ) → i < at → get_or after i 0 ≡ get_or before i 0
  pub put : (i : ℕ) → i < length bytes → get_or after (at + i) 0 ≡ get_or bytes i 0
  pub moved : (i : ℕ) → at ≤ i → i < used → get_or after (i + length bytes) 0 ≡ get_or before i 0
  pub above : (i : ℕ) → used + length bytes ≤ i → get_or after i 0 ≡ get_or before i 0
