-- Cases of specification 6.14, computed of the definitions of Ways.antt: the order of words, listings, and each refusal in its place.
use mathlib.Core.List.{List, [], ◌∷◌}
use mathlib.Core.Bool.{true, false}
use mathlib.Core.Path.{refl}
use lib.ListN.{replicate}
use Rattle.model.specs.Word.{back}
use Rattle.model.specs.Presentation.{complete}
use Rattle.model.specs.Equivalence.{applied}
use Rattle.model.specs.Bits.{field, finish}
use Rattle.model.specs.Images.{read_table, read_program, table_image, program_image}
use Rattle.model.specs.Outcome.{unplaced, pair_of, answered, refused}
use Rattle.model.specs.Services.{read_forward}
use Rattle.model.specs.Ways.{earlier, inserted, closure, listing, listing_bytes, ways, ways_area}
use Rattle.model.proofs.Case.{Case, ◌gives◌, All}
use Rattle.model.proofs.Samples.{braid3, braid1, open2, broken3, heavy2, unequal2, image, log, pattern, braid_bytes}

abbrev pub orders : List {1} Case
orders =
    -- the first letter that differs decides, whatever follows and however long the words are
    (earlier (1 ∷ 3 ∷ []) (2 ∷ 1 ∷ []) gives true) ∷
    (earlier (2 ∷ 1 ∷ []) (1 ∷ 3 ∷ []) gives false) ∷
    (earlier (1 ∷ 2 ∷ 1 ∷ []) (2 ∷ 2 ∷ []) gives true) ∷
    (earlier (2 ∷ 2 ∷ []) (1 ∷ 2 ∷ 1 ∷ []) gives false) ∷
    (earlier (10 ∷ []) (9 ∷ []) gives false) ∷
    -- a word, and one that begins it: neither comes first
    (earlier (1 ∷ 2 ∷ []) (1 ∷ 2 ∷ []) gives false) ∷
    (earlier (1 ∷ []) (1 ∷ 2 ∷ []) gives false) ∷
    (earlier (1 ∷ 2 ∷ []) (1 ∷ []) gives false) ∷
    -- one more word at its place, and one that is there
    (inserted (2 ∷ 1 ∷ []) ((1 ∷ 3 ∷ []) ∷ (2 ∷ 2 ∷ []) ∷ []) gives (1 ∷ 3 ∷ []) ∷ (2 ∷ 1 ∷ []) ∷ (2 ∷ 2 ∷ []) ∷ []) ∷
    (inserted (2 ∷ 2 ∷ []) ((1 ∷ 3 ∷ []) ∷ (2 ∷ 2 ∷ []) ∷ []) gives (1 ∷ 3 ∷ []) ∷ (2 ∷ 2 ∷ []) ∷ []) ∷ []

abbrev pub listings : List {1} Case
listings =
    -- the empty word, a letter, and letters whose pair is open, are joined to themselves alone
    (listing braid3 ([]) gives ([]) ∷ []) ∷
    (listing braid1 (1 ∷ 1 ∷ []) gives (1 ∷ 1 ∷ []) ∷ []) ∷
    (listing open2 (2 ∷ 1 ∷ []) gives (2 ∷ 1 ∷ []) ∷ []) ∷
    -- one relation, from either side
    (listing braid3 (1 ∷ 2 ∷ 1 ∷ []) gives (1 ∷ 2 ∷ 1 ∷ []) ∷ (2 ∷ 1 ∷ 2 ∷ []) ∷ []) ∷
    (listing braid3 (2 ∷ 1 ∷ 2 ∷ []) gives (1 ∷ 2 ∷ 1 ∷ []) ∷ (2 ∷ 1 ∷ 2 ∷ []) ∷ []) ∷
    (listing braid3 (3 ∷ 1 ∷ []) gives (1 ∷ 3 ∷ []) ∷ (3 ∷ 1 ∷ []) ∷ []) ∷
    -- a word that is reached in two ways is listed once
    (listing braid3 (1 ∷ 3 ∷ 1 ∷ 3 ∷ []) gives (1 ∷ 1 ∷ 3 ∷ 3 ∷ []) ∷ (1 ∷ 3 ∷ 1 ∷ 3 ∷ []) ∷ (1 ∷ 3 ∷ 3 ∷ 1 ∷ []) ∷ (3 ∷ 1 ∷ 1 ∷ 3 ∷ []) ∷ (3 ∷ 1 ∷ 3 ∷ 1 ∷ [])
    ∷ (3 ∷ 3 ∷ 1 ∷ 1 ∷ []) ∷ []) ∷
    -- words of different lengths, in order of their letters
    (listing heavy2 (2 ∷ 2 ∷ []) gives (1 ∷ 2 ∷ 1 ∷ []) ∷ (2 ∷ 2 ∷ []) ∷ []) ∷
    (listing heavy2 (2 ∷ 2 ∷ 2 ∷ 2 ∷ []) gives (1 ∷ 2 ∷ 1 ∷ 1 ∷ 2 ∷ 1 ∷ []) ∷ (1 ∷ 2 ∷ 1 ∷ 2 ∷ 2 ∷ []) ∷ (2 ∷ 1 ∷ 2 ∷ 1 ∷ 2 ∷ []) ∷ (2 ∷ 2 ∷ 1 ∷ 2 ∷ 1 ∷ [])
    ∷ (2 ∷ 2 ∷ 2 ∷ 2 ∷ []) ∷ []) ∷
    -- the cube rule plays no part
    (listing broken3 (1 ∷ 2 ∷ []) gives (1 ∷ 2 ∷ []) ∷ (1 ∷ 3 ∷ []) ∷ (2 ∷ 1 ∷ []) ∷ (3 ∷ 1 ∷ []) ∷ []) ∷
    -- the 16 words of the half twist of 4 strands
    (listing braid3 (1 ∷ 2 ∷ 1 ∷ 3 ∷ 2 ∷ 1 ∷ []) gives
    (1 ∷ 2 ∷ 1 ∷ 3 ∷ 2 ∷ 1 ∷ []) ∷ (1 ∷ 2 ∷ 3 ∷ 1 ∷ 2 ∷ 1 ∷ []) ∷ (1 ∷ 2 ∷ 3 ∷ 2 ∷ 1 ∷ 2 ∷ []) ∷ (1 ∷ 3 ∷ 2 ∷ 1 ∷ 3 ∷ 2 ∷ []) ∷ (1 ∷ 3 ∷ 2 ∷ 3 ∷ 1 ∷ 2 ∷ [])
    ∷ (2 ∷ 1 ∷ 2 ∷ 3 ∷ 2 ∷ 1 ∷ []) ∷ (2 ∷ 1 ∷ 3 ∷ 2 ∷ 1 ∷ 3 ∷ []) ∷ (2 ∷ 1 ∷ 3 ∷ 2 ∷ 3 ∷ 1 ∷ []) ∷ (2 ∷ 3 ∷ 1 ∷ 2 ∷ 1 ∷ 3 ∷ [])
    ∷ (2 ∷ 3 ∷ 1 ∷ 2 ∷ 3 ∷ 1 ∷ []) ∷ (2 ∷ 3 ∷ 2 ∷ 1 ∷ 2 ∷ 3 ∷ []) ∷ (3 ∷ 1 ∷ 2 ∷ 1 ∷ 3 ∷ 2 ∷ []) ∷ (3 ∷ 1 ∷ 2 ∷ 3 ∷ 1 ∷ 2 ∷ [])
    ∷ (3 ∷ 2 ∷ 1 ∷ 2 ∷ 3 ∷ 2 ∷ []) ∷ (3 ∷ 2 ∷ 1 ∷ 3 ∷ 2 ∷ 3 ∷ []) ∷ (3 ∷ 2 ∷ 3 ∷ 1 ∷ 2 ∷ 3 ∷ []) ∷ []) ∷ []

abbrev pub ways_calls : List {1} Case
ways_calls =
    (ways braid_bytes (pattern 3 (1 ∷ 2 ∷ 1 ∷ [])) 8 gives answered ((1 ∷ 2 ∷ 1 ∷ []) ∷ (2 ∷ 1 ∷ 2 ∷ []) ∷ [])) ∷
    (listing_bytes ((1 ∷ 2 ∷ 1 ∷ []) ∷ (2 ∷ 2 ∷ []) ∷ []) gives 1 ∷ 2 ∷ 1 ∷ 0 ∷ 2 ∷ 2 ∷ 0 ∷ []) ∷
    -- 13 by the bytes: two words of 8 bytes, where the area has 7
    (ways braid_bytes (pattern 3 (1 ∷ 2 ∷ 1 ∷ [])) 7 gives refused 13 unplaced) ∷
    -- the empty word has a byte, its end
    (ways braid_bytes (pattern 3 []) 1 gives answered ([] ∷ [])) ∷
    (ways braid_bytes (pattern 3 []) 0 gives refused 13 unplaced) ∷
    -- the table's 1 to 3, the program's 4 to 7, then 8 with its pair, then 13
    (ways [] [] 0 gives refused 1 unplaced) ∷
    (ways (0x20 ∷ 0x04 ∷ 0xb0 ∷ []) [] 0 gives refused 2 unplaced) ∷
    (ways (0x01 ∷ []) [] 0 gives refused 3 unplaced) ∷
    (ways (image unequal2) [] 0 gives refused 4 unplaced) ∷
    (ways braid_bytes (0x00 ∷ 0x36 ∷ []) 0 gives refused 5 unplaced) ∷
    (ways braid_bytes (0x00 ∷ 0x11 ∷ []) 0 gives refused 6 unplaced) ∷
    (ways (image unequal2) (log 2 (back 1 ∷ [])) 0 gives refused 7 unplaced) ∷
    (ways (image unequal2) (pattern 2 (1 ∷ [])) 0 gives refused 8 (pair_of 1 2)) ∷
    -- the area after an answer, after 13, and after another refusal
    (ways_area (ways braid_bytes (pattern 3 (3 ∷ 1 ∷ [])) 7) (replicate 7 9) gives 1 ∷ 3 ∷ 0 ∷ 3 ∷ 1 ∷ 0 ∷ 9 ∷ []) ∷
    (ways_area (ways braid_bytes (pattern 3 (3 ∷ 1 ∷ [])) 5) (replicate 5 9) gives replicate 5 0) ∷
    (ways_area (ways (image unequal2) (pattern 2 (1 ∷ [])) 5) (replicate 5 9) gives replicate 5 9) ∷ []

-- every case holds
pub record WaysCases : Type 0 where
  pub orders_hold : All orders
  pub listings_hold : All listings
  pub ways_calls_hold : All ways_calls

orders_hold : All orders
unfolding complete applied table_image program_image field finish read_table read_program read_forward closure listing ways
orders_hold = (refl, (refl, (refl, (refl, (refl, (refl, (refl, (refl, (refl, (refl, tt))))))))))

listings_hold : All listings
unfolding complete applied table_image program_image field finish read_table read_program read_forward closure listing ways
listings_hold = (refl, (refl, (refl, (refl, (refl, (refl, (refl, (refl, (refl, (refl, (refl, tt)))))))))))

ways_calls_hold : All ways_calls
unfolding complete applied table_image program_image field finish read_table read_program read_forward closure listing ways
ways_calls_hold = (refl, (refl, (refl, (refl, (refl, (refl, (refl, (refl, (refl, (refl, (refl, (refl, (refl, (refl, (refl, (refl, tt))))))))))))))))

pub ways_cases_hold : WaysCases
ways_cases_hold =
    record {
      orders_hold = orders_hold;
      listings_hold = listings_hold;
      ways_calls_hold = ways_calls_hold;
    }
