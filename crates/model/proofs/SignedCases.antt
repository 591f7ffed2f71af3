-- Cases of specification 6.18, computed of the definitions of Signed.antt: the order of the pairs, the room beside the set, what is added to it, sets,
-- verdicts with the steps of both reversings, stops of the set and of the programs, and each refusal in its place.
use mathlib.Core.List.{List, [], ◌∷◌, ◌++◌}
use mathlib.Core.Path.{refl}
use Prim.Native.Nat.{ℕ}
use lib.ListN.{length, replicate}
use Rattle.model.specs.Word.{forward, back, Word, positive, negative}
use Rattle.model.specs.Presentation.{Presentation, undefined, complement, complete}
use Rattle.model.specs.Reversing.{finished, open_pair, stopped, no_budget, no_room, next, run, reversing}
use Rattle.model.specs.Enumeration.{Two}
use Rattle.model.specs.Bits.{field, finish}
use Rattle.model.specs.Images.{read_table, read_program, table_image, program_image}
use Rattle.model.specs.Outcome.{unplaced, pair_of, triple_of, mirror_triple_of, the_set, Outcome, answered, refused, mapped}
use Rattle.model.specs.Checks.{under, side, against, cube_at, cleared}
use Rattle.model.specs.Mirror.{mirror, mirror_check}
use Rattle.model.specs.Areas.{workspace_after}
use Rattle.model.specs.Signed.{first_words, places_at, set_bytes, beside, added_to, taken_pairs, grown_from, grown_set, SignedVerdict, same_after_both}
use Rattle.model.specs.Signed.{different_after_both, signed_comparison, compare_signed}
use Rattle.model.proofs.Case.{Case, ◌gives◌, All}
use Rattle.model.proofs.Samples.{braid1, braid2, open2, three, broken3, unequal2, heavy2, mirror_fails3, image, log, braid_bytes}

-- TABLES AND CALLS

-- 1 1 = 2 2 and 1 2 3 = 3 3 2, the pair 2, 3 open: the cube check takes 1 step and 4 bytes, that of the mirror 2 and 7
abbrev mirror_stops3 : Presentation
mirror_stops3 = three (complement (1 ∷ []) (2 ∷ [])) (complement (2 ∷ 3 ∷ []) (3 ∷ 2 ∷ [])) undefined

-- 1 commutes with 2 and with 3, and all other pairs are open
abbrev open_later4 : Presentation
open_later4 =
    record {
      size = 4;
      excess = replicate 4 0;
      rows =
          (complement (2 ∷ []) (1 ∷ []) ∷ complement (3 ∷ []) (1 ∷ []) ∷ undefined ∷ []) ∷ (undefined ∷ undefined ∷ []) ∷ (undefined ∷ []) ∷ [] ∷ [];
    }

-- 1 2 1 = 2 1 2, and 3 commutes with both
abbrev apart3 : Presentation
apart3 = three (complement (2 ∷ 1 ∷ []) (1 ∷ 2 ∷ [])) (complement (3 ∷ []) (1 ∷ [])) (complement (3 ∷ []) (2 ∷ []))

-- two places
abbrev at : ℕ → ℕ → Two
at i j = record { a = i; b = j }

-- calls with the images of a table and of two programs; with empty programs
abbrev under2 : Word → Word → ℕ → ℕ → Outcome SignedVerdict
under2 w v budget room = compare_signed (image braid2) (log 2 w) (log 2 v) budget room

abbrev under_h : Word → Word → ℕ → ℕ → Outcome SignedVerdict
under_h w v budget room = compare_signed (image heavy2) (log 2 w) (log 2 v) budget room

abbrev idle : Presentation → ℕ → ℕ → Outcome SignedVerdict
idle T budget room = compare_signed (image T) (log T.size []) (log T.size []) budget room

-- a full twist of 3 strands
abbrev twist : Word
twist = positive (1 ∷ 2 ∷ 1 ∷ 1 ∷ 2 ∷ 1 ∷ [])

-- THE SET

abbrev pub growings : List {1} Case
growings =
    (first_words 2 gives ([] ∷ (1 ∷ []) ∷ (2 ∷ []) ∷ [])) ∷
    -- the pairs of a place: with the later word second, then first
    (places_at 0 gives at 0 0 ∷ []) ∷
    (places_at 2 gives at 0 2 ∷ at 1 2 ∷ at 2 0 ∷ at 2 1 ∷ at 2 2 ∷ []) ∷
    -- the room is what the words and their zero bytes leave; where they alone are too long, there is none for the empty word either
    (set_bytes ([] ∷ (1 ∷ []) ∷ (2 ∷ 1 ∷ []) ∷ []) gives 6) ∷
    (beside braid1 1 5 ([] ∷ (1 ∷ []) ∷ []) (back 1 ∷ forward 1 ∷ []) gives finished [] [] 1 0) ∷
    (beside braid1 1 4 ([] ∷ (1 ∷ []) ∷ []) (back 1 ∷ forward 1 ∷ []) gives stopped no_room) ∷
    (beside braid1 1 3 ([] ∷ (1 ∷ []) ∷ []) [] gives finished [] [] 0 0) ∷
    (beside braid1 1 2 ([] ∷ (1 ∷ []) ∷ []) [] gives stopped no_room) ∷
    -- a numerator comes to the end unless it is there letter for letter: one that begins a word, or is joined to it, is another word
    (added_to ((1 ∷ 2 ∷ 1 ∷ []) ∷ (2 ∷ []) ∷ []) (finished (2 ∷ []) (1 ∷ []) 3 3) gives answered ((1 ∷ 2 ∷ 1 ∷ []) ∷ (2 ∷ []) ∷ [])) ∷
    (added_to ((1 ∷ 2 ∷ 1 ∷ []) ∷ (2 ∷ []) ∷ []) (finished (1 ∷ 2 ∷ []) [] 3 3) gives answered ((1 ∷ 2 ∷ 1 ∷ []) ∷ (2 ∷ []) ∷ (1 ∷ 2 ∷ []) ∷ [])) ∷
    (added_to ((1 ∷ 2 ∷ 1 ∷ []) ∷ []) (finished (2 ∷ 1 ∷ 2 ∷ []) [] 3 3) gives answered ((1 ∷ 2 ∷ 1 ∷ []) ∷ (2 ∷ 1 ∷ 2 ∷ []) ∷ [])) ∷
    -- 22 for a word after 256; one that is there is no reason
    (mapped length (added_to (replicate 255 []) (finished (1 ∷ []) [] 0 0)) gives answered 256) ∷
    (added_to (replicate 256 []) (finished (1 ∷ []) [] 0 0) gives refused 22 unplaced) ∷
    (mapped length (added_to (replicate 256 []) (finished [] [] 0 0)) gives answered 256) ∷
    -- 21 names the back move first; stops name the set
    (added_to [] (open_pair 2 1 3) gives refused 21 (pair_of 2 1)) ∷
    (added_to [] (stopped no_budget) gives refused 11 the_set) ∷
    (added_to [] (stopped no_room) gives refused 12 the_set) ∷ []

abbrev pub sets : List {1} Case
sets =
    -- 2 words, 3 bytes; the last pair has 2 letters
    (grown_set braid1 1 5 gives answered ([] ∷ (1 ∷ []) ∷ [])) ∷
    (grown_set braid1 1 4 gives refused 12 the_set) ∷
    (grown_set braid1 1 3 gives refused 12 the_set) ∷
    (grown_set braid1 1 2 gives refused 12 the_set) ∷
    (grown_set braid1 0 5 gives refused 11 the_set) ∷
    -- 5 words, 11 bytes; the pair 2 1, 1 2 comes to 6 letters
    (grown_set braid2 3 17 gives answered ([] ∷ (1 ∷ []) ∷ (2 ∷ []) ∷ (2 ∷ 1 ∷ []) ∷ (1 ∷ 2 ∷ []) ∷ [])) ∷
    (grown_set braid2 3 16 gives refused 12 the_set) ∷
    (grown_set braid2 3 11 gives refused 12 the_set) ∷
    (grown_set braid2 3 5 gives refused 12 the_set) ∷
    (grown_set braid2 3 4 gives refused 12 the_set) ∷
    (grown_set braid2 2 17 gives refused 11 the_set) ∷
    -- a word is added after the pair that brings it, not by its letters
    (grown_set heavy2 4 22 gives answered ([] ∷ (1 ∷ []) ∷ (2 ∷ []) ∷ (2 ∷ 1 ∷ []) ∷ (2 ∷ 1 ∷ 2 ∷ []) ∷ (1 ∷ 2 ∷ []) ∷ [])) ∷
    (grown_set heavy2 4 21 gives refused 12 the_set) ∷
    -- three moves: 3 commutes with the others and brings no word
    (grown_set apart3 3 19 gives answered ([] ∷ (1 ∷ []) ∷ (2 ∷ []) ∷ (3 ∷ []) ∷ (2 ∷ 1 ∷ []) ∷ (1 ∷ 2 ∷ []) ∷ [])) ∷
    (grown_set apart3 3 18 gives refused 12 the_set) ∷
    -- 2 1 as the 257th word; as the 256th, after which a pair takes 2 steps
    (taken_pairs braid2 1 1000 (at 0 1 ∷ []) ((1 ∷ []) ∷ (2 ∷ []) ∷ replicate 254 []) gives refused 22 unplaced) ∷
    (taken_pairs braid2 1 1000 (at 0 1 ∷ at 255 255 ∷ []) ((1 ∷ []) ∷ (2 ∷ []) ∷ replicate 253 []) gives refused 11 the_set) ∷ []

-- THE PROGRAMS

abbrev pub sames : List {1} Case
sames =
    -- the same letters, and none
    (under2 [] [] 100 100 gives answered (same_after_both 0 0)) ∷
    (under2 (forward 1 ∷ back 2 ∷ []) (forward 1 ∷ back 2 ∷ []) 100 100 gives answered (same_after_both 1 1)) ∷
    -- a pair put in, in either order, at an end and inside; N and D need not be empty
    (under2 [] (forward 1 ∷ back 1 ∷ []) 100 100 gives answered (same_after_both 0 1)) ∷
    (under2 [] (back 1 ∷ forward 1 ∷ []) 100 100 gives answered (same_after_both 1 0)) ∷
    (under2 [] (forward 1 ∷ forward 2 ∷ back 2 ∷ back 1 ∷ []) 100 100 gives answered (same_after_both 0 2)) ∷
    (under2 (forward 1 ∷ forward 2 ∷ []) (forward 1 ∷ back 2 ∷ forward 2 ∷ forward 2 ∷ []) 100 100 gives answered (same_after_both 3 0)) ∷
    (under2 (forward 1 ∷ back 1 ∷ []) (forward 2 ∷ back 2 ∷ []) 100 100 gives answered (same_after_both 1 5)) ∷
    -- a swap, of forward moves, of back moves, and of both
    (under2 (positive (1 ∷ 2 ∷ 1 ∷ [])) (positive (2 ∷ 1 ∷ 2 ∷ [])) 100 100 gives answered (same_after_both 5 0)) ∷
    (under2 (negative (1 ∷ 2 ∷ 1 ∷ [])) (negative (2 ∷ 1 ∷ 2 ∷ [])) 100 100 gives answered (same_after_both 0 5)) ∷
    (under2 (back 1 ∷ forward 2 ∷ []) (forward 2 ∷ forward 1 ∷ back 2 ∷ back 1 ∷ []) 100 100 gives answered (same_after_both 3 2)) ∷
    -- conjugates
    (under2 (forward 1 ∷ forward 2 ∷ back 1 ∷ []) (back 2 ∷ forward 1 ∷ forward 2 ∷ []) 100 100 gives answered (same_after_both 4 1)) ∷
    (under2 (forward 2 ∷ forward 1 ∷ back 2 ∷ []) (back 1 ∷ forward 2 ∷ forward 1 ∷ []) 100 100 gives answered (same_after_both 4 1)) ∷
    (under2 (forward 1 ∷ back 2 ∷ back 1 ∷ []) (back 2 ∷ back 1 ∷ forward 2 ∷ []) 100 100 gives answered (same_after_both 3 2)) ∷
    -- a full twist commutes with every program
    (under2 (forward 1 ∷ back 2 ∷ twist) (twist ++ (forward 1 ∷ back 2 ∷ [])) 100 100 gives answered (same_after_both 15 1)) ∷
    -- 1 2 1 = 2 2, where 2 weighs 2
    (under_h (forward 1 ∷ forward 2 ∷ forward 1 ∷ back 2 ∷ []) (forward 2 ∷ []) 100 100 gives answered (same_after_both 3 1)) ∷
    -- three moves: 3 -1 2 and -1 3 2
    (compare_signed (image apart3) (log 3 (forward 3 ∷ back 1 ∷ forward 2 ∷ [])) (log 3 (back 1 ∷ forward 3 ∷ forward 2 ∷ [])) 100 100
    gives answered (same_after_both 6 2)) ∷ []

abbrev pub differents : List {1} Case
differents =
    -- moves that do not commute, forward, with signs, and squared; a commutator; two conjugates
    (under2 (forward 1 ∷ forward 2 ∷ []) (forward 2 ∷ forward 1 ∷ []) 100 100 gives answered (different_after_both 3 1)) ∷
    (under2 (forward 1 ∷ back 2 ∷ []) (back 2 ∷ forward 1 ∷ []) 100 100 gives answered (different_after_both 2 2)) ∷
    (under2 (forward 1 ∷ forward 1 ∷ back 2 ∷ back 2 ∷ []) (back 2 ∷ back 2 ∷ forward 1 ∷ forward 1 ∷ []) 100 100
    gives answered (different_after_both 11 18)) ∷
    (under2 (forward 1 ∷ forward 2 ∷ back 1 ∷ back 2 ∷ []) [] 100 100 gives answered (different_after_both 0 3)) ∷
    (under2 (forward 1 ∷ forward 2 ∷ back 1 ∷ []) (forward 2 ∷ forward 1 ∷ back 2 ∷ []) 100 100 gives answered (different_after_both 3 6)) ∷
    -- N and D of unequal weight: 0 steps of the second reversing, also after steps of the first
    (under2 (forward 1 ∷ []) (forward 1 ∷ forward 1 ∷ []) 100 100 gives answered (different_after_both 1 0)) ∷
    (under2 (forward 1 ∷ []) (back 1 ∷ []) 100 100 gives answered (different_after_both 0 0)) ∷
    (under2 [] (forward 1 ∷ forward 1 ∷ back 2 ∷ []) 100 100 gives answered (different_after_both 0 0)) ∷
    -- weights and not lengths: 2 weighs as much as 1 1 and not as 1
    (under_h [] (forward 2 ∷ back 1 ∷ back 1 ∷ []) 100 100 gives answered (different_after_both 0 3)) ∷
    (under_h [] (forward 2 ∷ back 1 ∷ []) 100 100 gives answered (different_after_both 0 0)) ∷ []

abbrev pub stops : List {1} Case
stops =
    -- the set takes 3 steps and 17 bytes, and its stops name it
    (under2 [] [] 2 17 gives refused 11 the_set) ∷
    (under2 [] [] 3 16 gives refused 12 the_set) ∷
    (under2 [] [] 3 17 gives answered (same_after_both 0 0)) ∷
    -- then each reversing has the whole allowance; the stops of both name the programs
    (under2 (back 1 ∷ forward 2 ∷ []) (forward 2 ∷ forward 1 ∷ back 2 ∷ back 1 ∷ []) 3 17 gives answered (same_after_both 3 2)) ∷
    (under2 (positive (1 ∷ 2 ∷ 1 ∷ [])) (positive (2 ∷ 1 ∷ 2 ∷ [])) 4 17 gives refused 11 unplaced) ∷
    (under2 (positive (1 ∷ 2 ∷ 1 ∷ [])) (positive (2 ∷ 1 ∷ 2 ∷ [])) 5 17 gives answered (same_after_both 5 0)) ∷
    (under2 [] (positive (replicate 4 1) ++ negative (replicate 4 1)) 3 17 gives refused 11 unplaced) ∷
    (under2 [] (positive (replicate 4 1) ++ negative (replicate 4 1)) 4 17 gives answered (same_after_both 0 4)) ∷
    -- and the whole workspace, of which the set has nothing left
    (under2 [] (positive (replicate 9 1) ++ negative (replicate 9 1)) 100 17 gives refused 12 unplaced) ∷
    (under2 [] (positive (replicate 9 1) ++ negative (replicate 8 1)) 100 17 gives answered (different_after_both 0 0)) ∷
    (under2 [] (positive (replicate 5 1) ++ negative (replicate 5 2)) 100 17 gives refused 12 unplaced) ∷
    (under2 [] (positive (replicate 4 1) ++ negative (replicate 4 2)) 100 17 gives answered (different_after_both 0 28)) ∷ []

abbrev pub refusals : List {1} Case
refusals =
    -- 1 to 3; 4 to 6 of the first program, then of the second; there is no 7
    (compare_signed [] [] [] 0 0 gives refused 1 unplaced) ∷
    (compare_signed (0x20 ∷ 0x04 ∷ 0xb0 ∷ []) [] [] 0 0 gives refused 2 unplaced) ∷
    (compare_signed (0x01 ∷ []) [] [] 0 0 gives refused 3 unplaced) ∷
    (compare_signed (image broken3) [] (0x00 ∷ 0x11 ∷ []) 0 0 gives refused 4 unplaced) ∷
    (compare_signed braid_bytes (0x00 ∷ 0x36 ∷ []) [] 0 0 gives refused 5 unplaced) ∷
    (compare_signed braid_bytes (0x00 ∷ 0x11 ∷ []) [] 0 0 gives refused 6 unplaced) ∷
    (compare_signed (image broken3) (log 3 []) [] 0 0 gives refused 4 unplaced) ∷
    (compare_signed braid_bytes (log 3 []) (0x00 ∷ 0x36 ∷ []) 0 0 gives refused 5 unplaced) ∷
    (compare_signed braid_bytes (log 3 []) (0x00 ∷ 0x11 ∷ []) 0 0 gives refused 6 unplaced) ∷
    -- 16 with its relation, 8, 9; and 17 with a triple of the mirror, before the set, which would meet an open pair
    (idle broken3 0 0 gives refused 16 (pair_of 2 3)) ∷
    (idle unequal2 0 0 gives refused 8 (pair_of 1 2)) ∷
    (idle (mirror mirror_fails3) 100 100 gives refused 9 (triple_of 1 3 2)) ∷
    (idle mirror_fails3 100 100 gives refused 17 (mirror_triple_of 1 3 2)) ∷
    -- stops: of the table's cube check, of the mirror's, of the set
    (idle mirror_stops3 0 100 gives refused 11 (triple_of 1 2 3)) ∷
    (idle mirror_stops3 1 100 gives refused 11 (mirror_triple_of 1 2 3)) ∷
    (idle mirror_stops3 100 3 gives refused 12 (triple_of 1 2 3)) ∷
    (idle mirror_stops3 100 6 gives refused 12 (mirror_triple_of 1 2 3)) ∷
    (idle mirror_stops3 100 7 gives refused 12 the_set) ∷
    -- 21 with the open pair that is met first, by its later letter and then by its earlier one
    (idle open2 1 7 gives refused 21 (pair_of 1 2)) ∷
    (idle open2 1 6 gives refused 12 the_set) ∷
    (idle mirror_stops3 2 100 gives refused 21 (pair_of 2 3)) ∷
    (idle open_later4 100 100 gives refused 21 (pair_of 2 3)) ∷
    -- the workspace: as found after 16 and 8, all zero after 21 and after a verdict
    (workspace_after (idle broken3 0 2) (7 ∷ 8 ∷ []) gives 7 ∷ 8 ∷ []) ∷
    (workspace_after (idle unequal2 0 2) (7 ∷ 8 ∷ []) gives 7 ∷ 8 ∷ []) ∷
    (workspace_after (idle open2 1 7) (replicate 7 9) gives replicate 7 0) ∷
    (workspace_after (idle braid1 1 5) (replicate 5 9) gives replicate 5 0) ∷ []

-- every case holds
pub record SignedCases : Type 0 where
  pub growings_hold : All growings
  pub sets_hold : All sets
  pub sames_hold : All sames
  pub differents_hold : All differents
  pub stops_hold : All stops
  pub refusals_hold : All refusals

growings_hold : All growings
unfolding complete mirror_check cleared reversing run next under side against cube_at read_table read_program table_image program_image field finish grown_from
    grown_set signed_comparison compare_signed
growings_hold = (refl, (refl, (refl, (refl, (refl, (refl, (refl, (refl, (refl, (refl, (refl, (refl, (refl, (refl, (refl, (refl, (refl, tt)))))))))))))))))

sets_hold : All sets
unfolding complete mirror_check cleared reversing run next under side against cube_at read_table read_program table_image program_image field finish grown_from
    grown_set signed_comparison compare_signed
sets_hold = (refl, (refl, (refl, (refl, (refl, (refl, (refl, (refl, (refl, (refl, (refl, (refl, (refl, (refl, (refl, (refl, (refl, tt)))))))))))))))))

sames_hold : All sames
unfolding complete mirror_check cleared reversing run next under side against cube_at read_table read_program table_image program_image field finish grown_from
    grown_set signed_comparison compare_signed
sames_hold = (refl, (refl, (refl, (refl, (refl, (refl, (refl, (refl, (refl, (refl, (refl, (refl, (refl, (refl, (refl, (refl, tt))))))))))))))))

differents_hold : All differents
unfolding complete mirror_check cleared reversing run next under side against cube_at read_table read_program table_image program_image field finish grown_from
    grown_set signed_comparison compare_signed
differents_hold = (refl, (refl, (refl, (refl, (refl, (refl, (refl, (refl, (refl, (refl, tt))))))))))

stops_hold : All stops
unfolding complete mirror_check cleared reversing run next under side against cube_at read_table read_program table_image program_image field finish grown_from
    grown_set signed_comparison compare_signed
stops_hold = (refl, (refl, (refl, (refl, (refl, (refl, (refl, (refl, (refl, (refl, (refl, (refl, tt))))))))))))

refusals_hold : All refusals
unfolding complete mirror_check cleared reversing run next under side against cube_at read_table read_program table_image program_image field finish grown_from
    grown_set signed_comparison compare_signed
refusals_hold = (
  refl,
  (
    refl,
    (
      refl,
      (
        refl,
        (
          refl,
          (
            refl,
            (
              refl,
              (
                refl,
                (
                  refl,
                  (
                    refl,
                    (refl, (refl, (refl, (refl, (refl, (refl, (refl, (refl, (refl, (refl, (refl, (refl, (refl, (refl, (refl, (refl, tt)))))))))))))))),
                  ),
                ),
              ),
            ),
          ),
        ),
      ),
    ),
  ),
)

pub signed_cases_hold : SignedCases
signed_cases_hold =
    record {
      growings_hold = growings_hold;
      sets_hold = sets_hold;
      sames_hold = sames_hold;
      differents_hold = differents_hold;
      stops_hold = stops_hold;
      refusals_hold = refusals_hold;
    }
