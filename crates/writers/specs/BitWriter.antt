-- What a writer has put into an area: the bits of the bytes that it wrote, and those that it holds.
use Rattle.std.specs.Prelude.{List, ◌++◌, ◌≡◌, ℕ, ◌+◌, ◌-◌, ◌*◌, ◌^◌, ◌≤◌, ◌<◌, length, take, drop, set}
use Rattle.model.specs.Bits.{bits_of, digits}
use Rattle.writers.specs.declared.bit_writer.BitWriter.{BitWriter}

-- all bits that were put
abbrev pub laid : BitWriter → List ℕ
laid w = bits_of (take w.next w.area.now) ++ digits w.held w.bits

-- a writer at the beginning of an area
pub record Begins (area : List ℕ) (w : BitWriter) : Type 0 where
  pub area_is : w.area.now ≡ area
  pub first : w.next ≡ 0
  pub none : w.held ≡ 0
  pub zero : w.bits ≡ 0

-- bits were put behind those put before, if the area has room for them; the bytes from `next` on are as they were
pub record Puts (w : BitWriter) (new : List ℕ) (w' : BitWriter) : Type 0 where
  pub same_area : w'.area.ghost_name ≡ w.area.ghost_name
  pub same_length : length w'.area.now ≡ length w.area.now
  pub forth : w.next ≤ w'.next
  pub rest : drop w'.next w'.area.now ≡ drop w'.next w.area.now
  pub bits : length (laid w) + length new ≤ 8 * length w.area.now → laid w' ≡ laid w ++ new

-- the bits that are held were written, filled to a byte, if the area has room for it
pub record Closes (w w' : BitWriter) : Type 0 where
  pub same_area : w'.area.ghost_name ≡ w.area.ghost_name
  pub none : w.held ≡ 0 → w'.area.now ≡ w.area.now
  pub full : w.next ≡ length w.area.now → w'.area.now ≡ w.area.now
  pub filled : 0 < w.held → w.next < length w.area.now → w'.area.now ≡ set w.area.now w.next (w.bits * 2 ^ (8 - w.held))
