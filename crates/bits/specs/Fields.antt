-- Fields in bytes, most significant bit first: of 0 to 16 bits where they are read, of 0 to 32 where they are written. A position counts bits from the
-- first byte's highest.
use Rattle.std.specs.Prelude.{List, ◌++◌, ◌≡◌, ℕ, ◌+◌, ◌*◌, ◌%◌, ◌^◌, ◌≤◌, ◌<◌, length, take, drop}
use Rattle.model.specs.Bits.{bits_of, digits}
use Rattle.model.specs.Areas.{written}

-- the widest field that is read
abbrev pub most_width : ℕ
most_width = 16

-- the field lies inside the bytes, and the position after it is a `usize`
pub record Inside (bytes : List ℕ) (at width : ℕ) : Type 0 where
  pub narrow : width ≤ most_width
  pub inside : at + width ≤ 8 * length bytes
  pub small : at + width < 2 ^ 64

-- .. to be written
pub record Writable (bytes : List ℕ) (at width : ℕ) : Type 0 where
  pub narrow : width ≤ 32
  pub inside : at + width ≤ 8 * length bytes
  pub small : at + width < 2 ^ 64

-- a field's run in the byte of its first bit: some of its bits, and no more than the byte has
pub record RunOf (at width r : ℕ) : Type 0 where
  pub part : r ≤ width
  pub inside : at % 8 + r ≤ 8
  pub some : 0 < width → 0 < r

-- the bytes after a field was written: its bits are the value's last `width` digits, and every other bit is as it was
pub record Written (before : List ℕ) (at width value : ℕ) (after : List ℕ) : Type 0 where
  pub same_length : length after ≡ length before
  pub bits : bits_of after ≡ take at (bits_of before) ++ (digits width value ++ drop (at + width) (bits_of before))

-- bits were put at a position, and every other bit is as it was
pub record Appended (before : List ℕ) (at : ℕ) (new : List ℕ) (after : List ℕ) : Type 0 where
  pub same_length : length after ≡ length before
  pub bits : bits_of after ≡ written (bits_of before) at new
