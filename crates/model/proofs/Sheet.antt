-- Cases of specification 10, through images as the services take them: the images of B and S, and cases 1, 3, 5, 15, 24, 16, 17, 9, 18, 13, 19.
use mathlib.Core.List.{List, [], ◌∷◌}
use mathlib.Core.Path.{refl}
use Rattle.model.specs.Word.{forward, back}
use Rattle.model.specs.Presentation.{complete}
use Rattle.model.specs.Equivalence.{applied}
use Rattle.model.specs.Reversing.{next, run, reversing}
use Rattle.model.specs.Checks.{residual, under, side, against, cube_at, cleared}
use Rattle.model.specs.Outcome.{unplaced, pair_of, triple_of, answered, refused}
use Rattle.model.specs.Bits.{field, finish}
use Rattle.model.specs.Images.{read_table, read_program, read_chain, table_image, program_image, chain_image}
use Rattle.model.specs.Services.{reverse, clear, read_forward, compare, comparison, check, followed, same_after, different_after, joins}
use Rattle.model.proofs.Case.{Case, ◌gives◌, All}
use Rattle.model.proofs.Samples.{braid3, braid1, open2, broken3, unequal2, heavy2, image, log, pattern, braid_bytes, first, first_bytes, second}

abbrev pub sheet : List {1} Case
sheet =
    -- the images of tables B and S
    (image braid3 gives braid_bytes) ∷
    (image braid1 gives 0x00 ∷ []) ∷
    -- case 1: the program's image
    (log 3 first gives first_bytes) ∷
    -- case 1
    (reverse braid_bytes first_bytes 65535 32768 32768 gives
    answered (record { numerator = 1 ∷ 1 ∷ 2 ∷ 3 ∷ []; denominator = 1 ∷ 3 ∷ 2 ∷ []; steps = 5 })) ∷
    -- case 3, allowance 4
    (reverse braid_bytes first_bytes 4 32768 32768 gives refused 11 unplaced) ∷
    -- case 5
    (reverse braid_bytes (log 3 second) 65535 32768 32768 gives
    answered (record { numerator = 1 ∷ 2 ∷ 3 ∷ []; denominator = 2 ∷ 1 ∷ []; steps = 7 })) ∷
    -- case 15, and case 24 in a workspace of 32,768 bytes
    (compare braid_bytes (pattern 3 (1 ∷ 2 ∷ 1 ∷ [])) (pattern 3 (2 ∷ 1 ∷ 2 ∷ [])) 65535 32768 gives answered (same_after 5 1)) ∷
    (check braid_bytes (pattern 3 (1 ∷ 2 ∷ 1 ∷ [])) (pattern 3 (2 ∷ 1 ∷ 2 ∷ [])) (chain_image 3 (record { offset = 0; a = 1; b = 2 } ∷ []))
    32768 gives answered joins) ∷
    -- case 16, 1 and 2
    (compare braid_bytes (pattern 3 (1 ∷ [])) (pattern 3 (2 ∷ [])) 65535 32768 gives answered (different_after 1)) ∷
    -- case 17
    (compare (image braid1) (pattern 1 []) (pattern 1 []) 65535 0 gives answered (same_after 0 0)) ∷
    -- case 9, -1 2; and case 18
    (reverse (image open2) (log 2 (back 1 ∷ forward 2 ∷ [])) 65535 32768 32768 gives refused 10 (pair_of 1 2)) ∷
    (compare (image open2) (pattern 2 (1 ∷ [])) (pattern 2 (2 ∷ [])) 65535 32768 gives answered (different_after 0)) ∷
    -- case 13, table K; L and R of its triple 1 2 3 (specification 4.7)
    (clear (image broken3) 65535 32768 gives refused 9 (triple_of 1 2 3)) ∷
    (side broken3 65535 32768 1 2 3 gives residual (1 ∷ [])) ∷
    (side broken3 65535 32768 2 1 3 gives residual []) ∷
    -- case 19: the same call with weights 1, and with weights 1 and 2
    (compare (image unequal2) (pattern 2 []) (pattern 2 []) 65535 32768 gives refused 8 (pair_of 1 2)) ∷
    (compare (image heavy2) (pattern 2 []) (pattern 2 []) 65535 32768 gives answered (same_after 0 0)) ∷ []

pub sheet_holds : All sheet
unfolding table_image program_image chain_image field finish read_table read_program read_chain read_forward reverse compare comparison check followed applied
    clear
    cleared under side against cube_at reversing run next complete
sheet_holds = (refl, (refl, (refl, (refl, (refl, (refl, (refl, (refl, (refl, (refl, (refl, (refl, (refl, (refl, (refl, (refl, (refl, tt)))))))))))))))))
