-- The chain's image while it is made: the count, entries from the front, slots of faces not done at the back, the filling, and the area's rest.
use Rattle.std.specs.Prelude.{List, ◌++◌, ◌≡◌, ℕ, ◌+◌, ◌-◌, ◌*◌, length, drop}
use Rattle.model.specs.Bits.{bits_of, digits}
use Rattle.model.specs.Equivalence.{Entry}
use Rattle.model.specs.Enumeration.{concat_map}
use Rattle.model.specs.Images.{entry_width, entry_position, entry_bits, chain_count_width}
use Rattle.model.specs.Services.{chain_bytes}

-- the filling, then the bytes after the image
abbrev pub tail_bits : ℕ → ℕ → List ℕ → List ℕ
tail_bits n total area = digits (8 * chain_bytes n total - entry_position n total) 0 ++ drop (8 * chain_bytes n total) (bits_of area)

pub record Layout (n total : ℕ) (area : List ℕ) (entries slots : List Entry) (answer : List ℕ) : Type 0 where
  pub same_length : length answer ≡ length area
  pub free : ℕ
  pub gap : List ℕ
  pub counted : length entries + (free + length slots) ≡ total
  pub gap_length : length gap ≡ free * entry_width n
  pub bits : bits_of answer
      ≡ digits chain_count_width total ++ (concat_map (entry_bits n) entries ++ (gap ++ (concat_map (entry_bits n) slots ++ tail_bits n total area)))
