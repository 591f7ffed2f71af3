-- Cases of specification 6.17 and 10, computed of the definitions of Notation.antt: texts and their trees, texts that are none, what patterns mean, and each
-- refusal in its place. A text is written as its bytes, under a comment that shows it.
use mathlib.Core.List.{List, [], ◌∷◌, ◌++◌}
use mathlib.Core.Bool.{true, false}
use mathlib.Core.Option.{none, some}
use mathlib.Core.Path.{refl}
use Prim.Native.Nat.{ℕ, zero, suc}
use lib.ListN.{replicate}
use Rattle.model.specs.Word.{forward, back}
use Rattle.model.specs.Outcome.{unplaced, answered, refused}
use Rattle.model.specs.Bits.{field, finish}
use Rattle.model.specs.Images.{read_table}
use Rattle.model.specs.Plain.{plain_program}
use Rattle.model.specs.Areas.{output_after}
use Rattle.model.specs.Notation.{Pattern, nothing, ◌then◌, Item, item, move, bracket, meaning, moves, highest, decimal, pattern_text, read_item, read_items}
use Rattle.model.specs.Notation.{read_pattern, read_text, imported, import}
use Rattle.model.proofs.Case.{Case, ◌gives◌, All}
use Rattle.model.proofs.Samples.{braid_bytes}

-- a move by its number alone
abbrev plain : ℕ → Item
plain a = item false (move a) none

-- -(1 2)^2
abbrev undone_twice : Pattern
undone_twice = item true (bracket (plain 1 then plain 2 then nothing)) (some 2) then nothing

-- 1 inside so many brackets
abbrev nested : ℕ → Pattern
nested zero = plain 1 then nothing
nested (suc k) = item false (bracket (nested k)) none then nothing

-- 1^99 inside so many brackets, each with the count 99
abbrev powers : ℕ → Pattern
powers zero = item false (move 1) (some 99) then nothing
powers (suc k) = item false (bracket (powers k)) (some 99) then nothing

abbrev powers_text : ℕ → List ℕ
powers_text k = pattern_text (powers k)

-- how trees are written
abbrev pub writings : List {1} Case
writings =
    (decimal 0 gives 48 ∷ []) ∷
    (decimal 9 gives 57 ∷ []) ∷
    (decimal 10 gives 49 ∷ 48 ∷ []) ∷
    (decimal 99 gives 57 ∷ 57 ∷ []) ∷
    -- -(1 2)^2
    (pattern_text undone_twice gives 45 ∷ 40 ∷ 49 ∷ 32 ∷ 50 ∷ 41 ∷ 94 ∷ 50 ∷ []) ∷
    -- 1^1 1: a count of 1 that is written, and one that is not
    (pattern_text (item false (move 1) (some 1) then plain 1 then nothing) gives 49 ∷ 94 ∷ 49 ∷ 32 ∷ 49 ∷ []) ∷
    -- ()
    (pattern_text (item false (bracket nothing) none then nothing) gives 40 ∷ 41 ∷ []) ∷ []

-- texts that are read, each as its tree
abbrev pub readings : List {1} Case
readings =
    -- -(1 2)^2
    (read_text (45 ∷ 40 ∷ 49 ∷ 32 ∷ 50 ∷ 41 ∷ 94 ∷ 50 ∷ []) gives answered undone_twice) ∷
    -- nothing
    (read_text [] gives answered nothing) ∷
    -- ()
    (read_text (40 ∷ 41 ∷ []) gives answered (item false (bracket nothing) none then nothing)) ∷
    -- 1
    (read_text (49 ∷ []) gives answered (plain 1 then nothing)) ∷
    -- 1^1
    (read_text (49 ∷ 94 ∷ 49 ∷ []) gives answered (item false (move 1) (some 1) then nothing)) ∷
    -- -2^0
    (read_text (45 ∷ 50 ∷ 94 ∷ 48 ∷ []) gives answered (item true (move 2) (some 0) then nothing)) ∷
    -- 99^99 10
    (read_text (57 ∷ 57 ∷ 94 ∷ 57 ∷ 57 ∷ 32 ∷ 49 ∷ 48 ∷ []) gives answered (item false (move 99) (some 99) then plain 10 then nothing)) ∷
    -- (1 -2)^3 4
    (read_text (40 ∷ 49 ∷ 32 ∷ 45 ∷ 50 ∷ 41 ∷ 94 ∷ 51 ∷ 32 ∷ 52 ∷ []) gives answered
    (item false (bracket (plain 1 then item true (move 2) none then nothing)) (some 3) then plain 4 then nothing)) ∷
    -- brackets eight deep
    (read_text (replicate 8 40 ++ (49 ∷ replicate 8 41)) gives answered (nested 8)) ∷ []

-- texts that are none
abbrev pub others : List {1} Case
others =
    -- ` 1`
    (read_text (32 ∷ 49 ∷ []) gives refused 19 unplaced) ∷
    -- `1 `
    (read_text (49 ∷ 32 ∷ []) gives refused 19 unplaced) ∷
    -- `1  2`
    (read_text (49 ∷ 32 ∷ 32 ∷ 50 ∷ []) gives refused 19 unplaced) ∷
    -- `1^`
    (read_text (49 ∷ 94 ∷ []) gives refused 19 unplaced) ∷
    -- `^2`
    (read_text (94 ∷ 50 ∷ []) gives refused 19 unplaced) ∷
    -- `--1`
    (read_text (45 ∷ 45 ∷ 49 ∷ []) gives refused 19 unplaced) ∷
    -- `1^2^3`
    (read_text (49 ∷ 94 ∷ 50 ∷ 94 ∷ 51 ∷ []) gives refused 19 unplaced) ∷
    -- `01`
    (read_text (48 ∷ 49 ∷ []) gives refused 19 unplaced) ∷
    -- `0`
    (read_text (48 ∷ []) gives refused 19 unplaced) ∷
    -- `100`
    (read_text (49 ∷ 48 ∷ 48 ∷ []) gives refused 19 unplaced) ∷
    -- `1^00`
    (read_text (49 ∷ 94 ∷ 48 ∷ 48 ∷ []) gives refused 19 unplaced) ∷
    -- `1^100`
    (read_text (49 ∷ 94 ∷ 49 ∷ 48 ∷ 48 ∷ []) gives refused 19 unplaced) ∷
    -- `1^-1`
    (read_text (49 ∷ 94 ∷ 45 ∷ 49 ∷ []) gives refused 19 unplaced) ∷
    -- `( 1)`
    (read_text (40 ∷ 32 ∷ 49 ∷ 41 ∷ []) gives refused 19 unplaced) ∷
    -- `(1 )`
    (read_text (40 ∷ 49 ∷ 32 ∷ 41 ∷ []) gives refused 19 unplaced) ∷
    -- `(1`
    (read_text (40 ∷ 49 ∷ []) gives refused 19 unplaced) ∷
    -- `1)`
    (read_text (49 ∷ 41 ∷ []) gives refused 19 unplaced) ∷
    -- `(1)(2)`
    (read_text (40 ∷ 49 ∷ 41 ∷ 40 ∷ 50 ∷ 41 ∷ []) gives refused 19 unplaced) ∷
    -- `1-2`
    (read_text (49 ∷ 45 ∷ 50 ∷ []) gives refused 19 unplaced) ∷
    -- `-`
    (read_text (45 ∷ []) gives refused 19 unplaced) ∷
    -- `- 1`
    (read_text (45 ∷ 32 ∷ 49 ∷ []) gives refused 19 unplaced) ∷
    -- `1 ^2`
    (read_text (49 ∷ 32 ∷ 94 ∷ 50 ∷ []) gives refused 19 unplaced) ∷
    -- `()^`
    (read_text (40 ∷ 41 ∷ 94 ∷ []) gives refused 19 unplaced) ∷
    -- `x`
    (read_text (120 ∷ []) gives refused 19 unplaced) ∷
    -- `1,2`
    (read_text (49 ∷ 44 ∷ 50 ∷ []) gives refused 19 unplaced) ∷
    -- `-(1`
    (read_text (45 ∷ 40 ∷ 49 ∷ []) gives refused 19 unplaced) ∷
    -- 1a tab between2.
    (read_text (49 ∷ 9 ∷ 50 ∷ []) gives refused 19 unplaced) ∷
    -- brackets nine deep
    (read_text (replicate 9 40 ++ (49 ∷ replicate 9 41)) gives refused 19 unplaced) ∷ []

-- what patterns mean
abbrev pub meanings : List {1} Case
meanings =
    -- -(1 2)^2
    (meaning undone_twice gives back 2 ∷ back 1 ∷ back 2 ∷ back 1 ∷ []) ∷
    -- -(1 -2^3 (3))
    (meaning (item true (bracket (plain 1 then item true (move 2) (some 3) then item false (bracket (plain 3 then nothing)) none then nothing)) none then
    nothing) gives back 3 ∷ forward 2 ∷ forward 2 ∷ forward 2 ∷ back 1 ∷ []) ∷
    -- a count of 0 means nothing
    (meaning (item true (bracket (plain 1 then nothing)) (some 0) then plain 2 then nothing) gives forward 2 ∷ []) ∷
    -- 1^1 and 1
    (meaning (item false (move 1) (some 1) then nothing) gives meaning (plain 1 then nothing)) ∷
    -- how many, without listing them: 99 to the ninth
    (moves (powers 8) gives 913517247483640899) ∷
    (moves undone_twice gives 4) ∷
    -- the highest number, also under a count of 0
    (highest (plain 2 then item false (bracket (plain 7 then plain 3 then nothing)) (some 0) then nothing) gives 7) ∷
    (highest nothing gives 0) ∷ []

-- import, under the braid table of 3 moves
abbrev pub calls : List {1} Case
calls =
    -- -(1 2)^2
    (import braid_bytes (45 ∷ 40 ∷ 49 ∷ 32 ∷ 50 ∷ 41 ∷ 94 ∷ 50 ∷ []) 4 gives answered (back 2 ∷ back 1 ∷ back 2 ∷ back 1 ∷ [])) ∷
    -- its bytes, in an area of five
    (output_after plain_program (import braid_bytes (45 ∷ 40 ∷ 49 ∷ 32 ∷ 50 ∷ 41 ∷ 94 ∷ 50 ∷ []) 5) (7 ∷ 7 ∷ 7 ∷ 7 ∷ 7 ∷ []) gives 130 ∷ 129 ∷ 130 ∷ 129 ∷ 7
    ∷ [])
    ∷
    -- 13 by the moves, and the area as it was
    (import braid_bytes (45 ∷ 40 ∷ 49 ∷ 32 ∷ 50 ∷ 41 ∷ 94 ∷ 50 ∷ []) 3 gives refused 13 unplaced) ∷
    -- no moves need no area: nothing, (1 2)^0, ()^99 -()
    (import braid_bytes [] 0 gives answered []) ∷
    (import braid_bytes (40 ∷ 49 ∷ 32 ∷ 50 ∷ 41 ∷ 94 ∷ 48 ∷ []) 0 gives answered []) ∷
    (import braid_bytes (40 ∷ 41 ∷ 94 ∷ 57 ∷ 57 ∷ 32 ∷ 45 ∷ 40 ∷ 41 ∷ []) 0 gives answered []) ∷
    -- -1^2 3
    (import braid_bytes (45 ∷ 49 ∷ 94 ∷ 50 ∷ 32 ∷ 51 ∷ []) 3 gives answered (back 1 ∷ back 1 ∷ forward 3 ∷ [])) ∷
    -- 4, 4^0, (1 99)^0: a move that the table has not, also under a count of 0
    (import braid_bytes (52 ∷ []) 9 gives refused 5 unplaced) ∷
    (import braid_bytes (52 ∷ 94 ∷ 48 ∷ []) 9 gives refused 5 unplaced) ∷
    (import braid_bytes (40 ∷ 49 ∷ 32 ∷ 57 ∷ 57 ∷ 41 ∷ 94 ∷ 48 ∷ []) 9 gives refused 5 unplaced) ∷
    -- 19 comes before 5: 4^0 x
    (import braid_bytes (52 ∷ 94 ∷ 48 ∷ 32 ∷ 120 ∷ []) 9 gives refused 19 unplaced) ∷
    -- 5 comes before 20, and 20 before 13: (1^99)^42, and with a 4 behind it
    (import braid_bytes (40 ∷ 49 ∷ 94 ∷ 57 ∷ 57 ∷ 41 ∷ 94 ∷ 52 ∷ 50 ∷ []) 0 gives refused 20 unplaced) ∷
    (import braid_bytes (40 ∷ 49 ∷ 94 ∷ 57 ∷ 57 ∷ 41 ∷ 94 ∷ 52 ∷ 50 ∷ 32 ∷ 52 ∷ []) 0 gives refused 5 unplaced) ∷
    -- 4,095 moves, for which there is no room, and 4,096
    (import braid_bytes (40 ∷ 49 ∷ 94 ∷ 57 ∷ 57 ∷ 41 ∷ 94 ∷ 52 ∷ 49 ∷ 32 ∷ 49 ∷ 94 ∷ 51 ∷ 54 ∷ []) 0 gives refused 13 unplaced) ∷
    (import braid_bytes (40 ∷ 49 ∷ 94 ∷ 57 ∷ 57 ∷ 41 ∷ 94 ∷ 52 ∷ 49 ∷ 32 ∷ 49 ∷ 94 ∷ 51 ∷ 55 ∷ []) 0 gives refused 20 unplaced) ∷
    -- 99 to the ninth, and the same under a count of 0
    (import braid_bytes (powers_text 8) 4095 gives refused 20 unplaced) ∷
    (import braid_bytes (40 ∷ (powers_text 7 ++ (41 ∷ 94 ∷ 48 ∷ []))) 0 gives answered []) ∷
    -- the table comes first
    (import (32 ∷ []) (120 ∷ []) 0 gives refused 1 unplaced) ∷ []

-- every case holds
pub record NotationCases : Type 0 where
  pub writings_hold : All writings
  pub readings_hold : All readings
  pub others_hold : All others
  pub meanings_hold : All meanings
  pub calls_hold : All calls

writings_hold : All writings
unfolding field finish read_table read_item read_items read_pattern read_text imported import
writings_hold = (refl, (refl, (refl, (refl, (refl, (refl, (refl, tt)))))))

readings_hold : All readings
unfolding field finish read_table read_item read_items read_pattern read_text imported import
readings_hold = (refl, (refl, (refl, (refl, (refl, (refl, (refl, (refl, (refl, tt)))))))))

others_hold : All others
unfolding field finish read_table read_item read_items read_pattern read_text imported import
others_hold = (
  refl,
  (
    refl,
    (
      refl,
      (
        refl,
        (
          refl,
          (
            refl,
            (
              refl,
              (
                refl,
                (
                  refl,
                  (
                    refl,
                    (
                      refl,
                      (
                        refl,
                        (
                          refl,
                          (
                            refl,
                            (refl, (refl, (refl, (refl, (refl, (refl, (refl, (refl, (refl, (refl, (refl, (refl, (refl, (refl, tt)))))))))))))),
                          ),
                        ),
                      ),
                    ),
                  ),
                ),
              ),
            ),
          ),
        ),
      ),
    ),
  ),
)

meanings_hold : All meanings
unfolding field finish read_table read_item read_items read_pattern read_text imported import
meanings_hold = (refl, (refl, (refl, (refl, (refl, (refl, (refl, (refl, tt))))))))

calls_hold : All calls
unfolding field finish read_table read_item read_items read_pattern read_text imported import
calls_hold = (refl, (refl, (refl, (refl, (refl, (refl, (refl, (refl, (refl, (refl, (refl, (refl, (refl, (refl, (refl, (refl, (refl, (refl, tt))))))))))))))))))

pub notation_cases_hold : NotationCases
notation_cases_hold =
    record {
      writings_hold = writings_hold;
      readings_hold = readings_hold;
      others_hold = others_hold;
      meanings_hold = meanings_hold;
      calls_hold = calls_hold;
    }
