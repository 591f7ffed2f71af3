-- What writing and reading an entry of a chain's image does.
use Rattle.std.specs.Prelude.{List, ◌++◌, ◌≡◌, ℕ, ◌+◌, ◌*◌, ◌≤◌, ◌<◌, length, drop}
use Rattle.model.specs.Bits.{bits_of}
use Rattle.model.specs.Equivalence.{Entry}
use Rattle.model.specs.Images.{entry_width, entry_position, entry_bits, most_size}
use Rattle.model.specs.Range.{EntryInRange}
use Rattle.entries.specs.declared.entry.ChainEntry.{ChainEntry}

-- an entry lies inside the area
pub record EntryInside (n index : ℕ) (area : List ℕ) : Type 0 where
  pub some : 1 ≤ n
  pub few : n ≤ most_size
  pub low : index < 65536
  pub inside : entry_position n index + entry_width n ≤ 8 * length area

-- the model's entry and the code's
pub record Same (e : Entry) (s : ChainEntry) : Type 0 where
  pub offset : s.offset ≡ e.offset
  pub a : s.a ≡ e.a
  pub b : s.b ≡ e.b

-- the entry that was read is the one that stands there
abbrev pub ReadsEntry : ℕ → ℕ → List ℕ → ChainEntry → Type 0
ReadsEntry n index area s =
    (e : Entry) (rest : List ℕ) → EntryInRange n e → drop (entry_position n index) (bits_of area) ≡ entry_bits n e ++ rest → Same e s
