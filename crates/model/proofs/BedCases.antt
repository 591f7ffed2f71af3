-- Cases of specification 6.11, computed of the definitions of Bed.antt: the bed after some moves, full twists, and each refusal in its place.
use mathlib.Core.List.{List, [], ◌∷◌, ◌++◌}
use mathlib.Core.Bool.{true, false}
use mathlib.Core.Path.{refl}
use Prim.Native.Nat.{ℕ, ◌^◌}
use lib.ListN.{replicate}
use lib.IntN.{pos, negsuc}
use Rattle.model.specs.Word.{back, positive, negative}
use Rattle.model.specs.Presentation.{Presentation, complement, complete}
use Rattle.model.specs.Bits.{field, finish}
use Rattle.model.specs.Images.{read_table, read_program, table_image, program_image}
use Rattle.model.specs.Outcome.{unplaced, answered, refused}
use Rattle.model.specs.Areas.{output_after}
use Rattle.model.specs.Bed.{is_braid, bed_after, total_bytes, read_braid, bed}
use Rattle.model.proofs.Case.{Case, ◌gives◌, All}
use Rattle.model.proofs.Samples.{braid3, braid1, open2, three, broken3, unequal2, endless3, image, log, braid_bytes, first, first_bytes}

-- the braid table of 2 letters, with whatever weights
abbrev braid2 : List ℕ → Presentation
braid2 ws = record { size = 2; excess = ws; rows = (complement (2 ∷ 1 ∷ []) (1 ∷ 2 ∷ []) ∷ []) ∷ [] ∷ [] }

abbrev pub braid_tables : List {1} Case
braid_tables =
    (is_braid braid1 gives true) ∷
    (is_braid (braid2 (0 ∷ 0 ∷ [])) gives true) ∷
    -- weights play no part
    (is_braid (braid2 (0 ∷ 7 ∷ [])) gives true) ∷
    (is_braid braid3 gives true) ∷
    (is_braid open2 gives false) ∷
    (is_braid broken3 gives false) ∷
    (is_braid unequal2 gives false) ∷
    (is_braid endless3 gives false) ∷
    -- one completion differs: C(2,3), C(3,2), or C(1,3)
    (is_braid (three (complement (2 ∷ 1 ∷ []) (1 ∷ 2 ∷ [])) (complement (3 ∷ []) (1 ∷ [])) (complement (3 ∷ 3 ∷ []) (2 ∷ 3 ∷ []))) gives false) ∷
    (is_braid (three (complement (2 ∷ 1 ∷ []) (1 ∷ 2 ∷ [])) (complement (3 ∷ []) (1 ∷ [])) (complement (3 ∷ 2 ∷ []) (2 ∷ 2 ∷ []))) gives false) ∷
    (is_braid (three (complement (2 ∷ 1 ∷ []) (1 ∷ 2 ∷ [])) (complement (3 ∷ 1 ∷ []) (1 ∷ [])) (complement (3 ∷ 2 ∷ []) (2 ∷ 3 ∷ []))) gives false) ∷ []

abbrev pub beds : List {1} Case
beds =
    -- the example's program -3 1 -2 1 2, move by move
    (bed_after 3 0 first gives record { bobbins = 1 ∷ 2 ∷ 3 ∷ 4 ∷ []; totals = replicate 6 (pos 0) }) ∷
    (bed_after 3 1 first gives record { bobbins = 1 ∷ 2 ∷ 4 ∷ 3 ∷ []; totals = pos 0 ∷ pos 0 ∷ pos 0 ∷ pos 0 ∷ pos 0 ∷ negsuc 0 ∷ [] }) ∷
    (bed_after 3 2 first gives record { bobbins = 2 ∷ 1 ∷ 4 ∷ 3 ∷ []; totals = pos 1 ∷ pos 0 ∷ pos 0 ∷ pos 0 ∷ pos 0 ∷ negsuc 0 ∷ [] }) ∷
    (bed_after 3 3 first gives record { bobbins = 2 ∷ 4 ∷ 1 ∷ 3 ∷ []; totals = pos 1 ∷ pos 0 ∷ negsuc 0 ∷ pos 0 ∷ pos 0 ∷ negsuc 0 ∷ [] }) ∷
    (bed_after 3 4 first gives record { bobbins = 4 ∷ 2 ∷ 1 ∷ 3 ∷ []; totals = pos 1 ∷ pos 0 ∷ negsuc 0 ∷ pos 0 ∷ pos 1 ∷ negsuc 0 ∷ [] }) ∷
    (bed_after 3 5 first gives record { bobbins = 4 ∷ 1 ∷ 2 ∷ 3 ∷ []; totals = pos 2 ∷ pos 0 ∷ negsuc 0 ∷ pos 0 ∷ pos 1 ∷ negsuc 0 ∷ [] }) ∷
    -- its numerator 1 1 2 3, then the undoing of its denominator 1 3 2
    (bed_after 3 7 (positive (1 ∷ 1 ∷ 2 ∷ 3 ∷ []) ++ negative (1 ∷ 3 ∷ 2 ∷ [])) gives bed_after 3 5 first) ∷
    -- joined programs
    (bed_after 3 3 (positive (1 ∷ 2 ∷ 1 ∷ [])) gives bed_after 3 3 (positive (2 ∷ 1 ∷ 2 ∷ []))) ∷
    -- the bobbins return after a full twist, and each two crossed twice
    (bed_after 2 6 (positive (1 ∷ 2 ∷ 1 ∷ 2 ∷ 1 ∷ 2 ∷ [])) gives record { bobbins = 1 ∷ 2 ∷ 3 ∷ []; totals = replicate 3 (pos 2) }) ∷
    (bed_after 3 12 (positive (1 ∷ 2 ∷ 3 ∷ 1 ∷ 2 ∷ 3 ∷ 1 ∷ 2 ∷ 3 ∷ 1 ∷ 2 ∷ 3 ∷ [])) gives record { bobbins = 1 ∷ 2 ∷ 3 ∷ 4 ∷ []; totals = replicate 6 (pos 2) })
    ∷
    -- the bytes of a total
    (total_bytes (pos 4095) gives 0x0f ∷ 0xff ∷ []) ∷
    (total_bytes (negsuc 4094) gives 0xf0 ∷ 0x01 ∷ []) ∷
    (total_bytes (negsuc 0) gives 0xff ∷ 0xff ∷ []) ∷ []

-- the bytes of the bed after all moves of the example's program
abbrev last_bytes : List ℕ
last_bytes = 4 ∷ 1 ∷ 2 ∷ 3 ∷ 0 ∷ 2 ∷ 0 ∷ 0 ∷ 255 ∷ 255 ∷ 0 ∷ 0 ∷ 0 ∷ 1 ∷ 255 ∷ 255 ∷ []

abbrev pub bed_calls : List {1} Case
bed_calls =
    (bed braid_bytes first_bytes 5 32768 gives answered last_bytes) ∷
    -- a k past the end, also where 16 or 64 bits do not hold it
    (bed braid_bytes first_bytes 6 32768 gives answered last_bytes) ∷
    (bed braid_bytes first_bytes 65536 32768 gives answered last_bytes) ∷
    (bed braid_bytes first_bytes (2 ^ 64) 32768 gives answered last_bytes) ∷
    (bed braid_bytes first_bytes 1 32768 gives answered (1 ∷ 2 ∷ 4 ∷ 3 ∷ 0 ∷ 0 ∷ 0 ∷ 0 ∷ 0 ∷ 0 ∷ 0 ∷ 0 ∷ 0 ∷ 0 ∷ 255 ∷ 255 ∷ [])) ∷
    -- one letter, two bobbins
    (bed (image braid1) (log 1 (back 1 ∷ [])) 1 4 gives answered (2 ∷ 1 ∷ 255 ∷ 255 ∷ [])) ∷
    -- 13 where the area has less than 16 bytes
    (bed braid_bytes first_bytes 5 16 gives answered last_bytes) ∷
    (bed braid_bytes first_bytes 5 15 gives refused 13 unplaced) ∷
    (bed braid_bytes first_bytes 0 15 gives refused 13 unplaced) ∷
    -- the table's 1 to 3, then 15, then the program's 4 to 6, then 13
    (bed [] [] 5 0 gives refused 1 unplaced) ∷
    (bed (0x20 ∷ 0x04 ∷ 0xb0 ∷ []) [] 5 0 gives refused 2 unplaced) ∷
    (bed (0x01 ∷ []) [] 5 0 gives refused 3 unplaced) ∷
    (bed (image open2) [] 5 0 gives refused 15 unplaced) ∷
    (bed (image endless3) first_bytes 5 32768 gives refused 15 unplaced) ∷
    (bed braid_bytes [] 5 0 gives refused 4 unplaced) ∷
    (bed braid_bytes (0x00 ∷ 0x36 ∷ []) 0 0 gives refused 5 unplaced) ∷
    (bed braid_bytes (0x00 ∷ 0x5c ∷ 0x28 ∷ 0x21 ∷ []) 0 0 gives refused 6 unplaced) ∷
    -- the area after an answer, and after a refusal
    (output_after (λ b. b) (bed (image braid1) (log 1 []) 0 5) (replicate 5 9) gives 1 ∷ 2 ∷ 0 ∷ 0 ∷ 9 ∷ []) ∷
    (output_after (λ b. b) (bed (image braid1) (log 1 []) 0 3) (replicate 3 9) gives replicate 3 9) ∷ []

-- every case holds
pub record BedCases : Type 0 where
  pub braid_tables_hold : All braid_tables
  pub beds_hold : All beds
  pub bed_calls_hold : All bed_calls

braid_tables_hold : All braid_tables
unfolding table_image program_image field finish read_table read_program is_braid read_braid bed complete
braid_tables_hold = (refl, (refl, (refl, (refl, (refl, (refl, (refl, (refl, (refl, (refl, (refl, tt)))))))))))

beds_hold : All beds
unfolding table_image program_image field finish read_table read_program is_braid read_braid bed complete
beds_hold = (refl, (refl, (refl, (refl, (refl, (refl, (refl, (refl, (refl, (refl, (refl, (refl, (refl, tt)))))))))))))

bed_calls_hold : All bed_calls
unfolding table_image program_image field finish read_table read_program is_braid read_braid bed complete
bed_calls_hold = (
  refl,
  (
    refl,
    (refl, (refl, (refl, (refl, (refl, (refl, (refl, (refl, (refl, (refl, (refl, (refl, (refl, (refl, (refl, (refl, (refl, tt))))))))))))))))),
  ),
)

pub bed_cases_hold : BedCases
bed_cases_hold =
    record {
      braid_tables_hold = braid_tables_hold;
      beds_hold = beds_hold;
      bed_calls_hold = bed_calls_hold;
    }
