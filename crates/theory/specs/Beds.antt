-- Specification 6.11: what holds of beds, and what the bytes of an answer say of them.
-- The promise of bed cites it. Proved from the definitions alone: `equal_beds` in proofs/Beds.antt, `bed_laws` and `bed_meaning` in proofs/Totals.antt.
-- Main names: `EqualBeds`, `BedLaws`, `BedMeaning`.
use Rattle.std.specs.Prelude.{◌≡◌, List, [], ◌∷◌, ◌++◌, cond, ℕ, suc, ◌+◌, ◌-◌, ◌*◌, ◌≤◌, ltb, length, take, drop, ℤ, pos, negsuc, ◌+ℤ◌, ◌-ℤ◌}
use Rattle.model.specs.Word.{Word, Positive, positive, negative, forwards, backs}
use Rattle.model.specs.Presentation.{Presentation}
use Rattle.model.specs.Equivalence.{Joined}
use Rattle.model.specs.Enumeration.{range}
use Rattle.model.specs.Reversing.{Reduces, Finishes}
use Rattle.model.specs.Range.{ProgramInRange}
use Rattle.model.specs.Bed.{Bed, first_bed, laid, bed_after, Rearranged, Within, bed_bytes}
use Rattle.model.specs.Plain.{most_letters}

-- WORDS THAT LEAVE EQUAL BEDS

-- from every bed of so many places, run to the end
abbrev pub LeaveEqual : ℕ → Word → Word → Type 0
LeaveEqual places w v = (B : Bed) → length B.bobbins ≡ places → laid w B ≡ laid v B

-- under a braid table
pub record EqualBeds (T : Presentation) : Type 0 where
  -- joined programs
  pub joined : (u v : Positive) → Joined T u v → LeaveEqual (suc T.size) (positive u) (positive v)
  -- the words of a reversing, whichever sites its steps are taken at
  pub reduced : (w v : Word) (k : ℕ) → Reduces T w v k → LeaveEqual (suc T.size) w v
  -- so a program whose reversing finishes, and its numerator followed by the denominator's undoing
  pub finished : (w : Word) (n d : Positive) (k : ℕ) → Finishes T w n d k → LeaveEqual (suc T.size) w (positive n ++ negative d)

-- BOBBINS AND TOTALS

abbrev pub added : List ℤ → ℤ
added [] = pos 0
added (t ∷ ts) = t +ℤ added ts

-- forward letters less back letters
abbrev pub balance : Word → ℤ
balance w = pos (length (forwards w)) -ℤ pos (length (backs w))

-- of a bed of n letters, after the word that was run
pub record BedHolds (n : ℕ) (run : Word) (B : Bed) : Type 0 where
  -- the bobbins are 1 to n + 1 in some order
  pub order : Rearranged B.bobbins (range 1 (suc n))
  -- the totals add up to the forward moves less the back moves
  pub sum : added B.totals ≡ balance run
  -- no total is below -4,095 or above 4,095
  pub within : Within most_letters B.totals

-- .. at every place of a program
abbrev pub BedLaws : Type 0
BedLaws = (n : ℕ) (w : Word) → ProgramInRange n w → (k : ℕ) → BedHolds n (take k w) (bed_after n k w)

-- WHAT AN ANSWER'S BYTES SAY

-- a number of 16 bits as a total
abbrev pub signed : ℕ → ℤ
signed x = cond (ltb x 32768) (pos x) (negsuc (65535 - x))

-- the totals in some bytes, two each
abbrev pub totals_in : List ℕ → List ℤ
totals_in [] = []
totals_in (h ∷ []) = []
totals_in (h ∷ l ∷ bytes) = signed (256 * h + l) ∷ totals_in bytes

-- the bed in some bytes, of so many places
abbrev pub bed_in : ℕ → List ℕ → Bed
bed_in places bytes = record { bobbins = take places bytes; totals = totals_in (drop places bytes) }

-- the bytes of an answer for the first `moves` letters of a program under a braid table
pub record BedMeaning (T : Presentation) (w : Word) (moves : ℕ) (bytes : List ℕ) : Type 0 where
  -- they are read as the bed: two bytes hold each total exactly
  pub reads : bed_in (suc T.size) bytes ≡ bed_after T.size moves w
  pub holds : BedHolds T.size (take moves w) (bed_in (suc T.size) bytes)
  -- where the program was run to the end, every program joined to it has these bytes
  pub joined : length w ≤ moves → (u v : Positive) → w ≡ positive u → Joined T u v → bytes ≡ bed_bytes (laid (positive v) (first_bed T.size))
  -- and where its reversing finishes, so has the numerator followed by the denominator's undoing
  pub finished : length w ≤ moves → (n d : Positive) (k : ℕ) → Finishes T w n d k → bytes ≡ bed_bytes (laid (positive n ++ negative d) (first_bed T.size))
  -- the same from every bed of as many places, and of every program at each of its places
  pub equal_beds : EqualBeds T
  pub every_place : BedLaws
