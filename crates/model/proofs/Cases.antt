-- Further sample cases, many of them of specification 10, computed as those in Sheet.antt are: the order of the endings and of the checks, each
-- refusal of each kind of image, and the lent areas.
use mathlib.Core.List.{List, [], ◌∷◌}
use mathlib.Core.Path.{refl}
use Prim.Native.Nat.{ℕ}
use lib.ListN.{replicate}
use Rattle.model.specs.Word.{forward, back}
use Rattle.model.specs.Presentation.{undefined, complement, complete}
use Rattle.model.specs.Equivalence.{Entry, applied}
use Rattle.model.specs.Reversing.{next, run, reversing}
use Rattle.model.specs.Checks.{under, side, against, cube_at, cleared}
use Rattle.model.specs.Outcome.{unplaced, pair_of, triple_of, answered, refused}
use Rattle.model.specs.Bits.{field, finish}
use Rattle.model.specs.Images.{read_table, read_program, read_chain, table_image, program_image, chain_image}
use Rattle.model.specs.Plain.{plain_table, read_plain_table, read_plain_program}
use Rattle.model.specs.Services.{Fraction, reverse, clear, read_forward, compare, comparison, chain, check, followed, pack_table, unpack_table, pack_program}
use Rattle.model.specs.Services.{unpack_program, same_after, different_after, listed_after, unlisted_after, remainder, finishing, moves_after, none_after}
use Rattle.model.specs.Services.{joins, breaks, ends_elsewhere}
use Rattle.model.specs.Areas.{fraction_bytes, remainder_bytes, output_after, workspace_after}
use Rattle.model.proofs.Case.{Case, ◌gives◌, All}
use Rattle.model.proofs.Samples.{braid1, open2, three, broken3, two, unequal2, heavy2, endless3, image, log, pattern, braid_bytes, first_bytes}

-- the first program's answer
abbrev first_answer : Fraction
first_answer = record { numerator = 1 ∷ 1 ∷ 2 ∷ 3 ∷ []; denominator = 1 ∷ 3 ∷ 2 ∷ []; steps = 5 }

abbrev entry : ℕ → ℕ → ℕ → Entry
entry offset a b = record { offset = offset; a = a; b = b }

-- The order of the four endings, and the answer area of reverse.
abbrev pub endings : List {1} Case
endings =
    -- allowance 5 finishes the first program
    (reverse braid_bytes first_bytes 5 32768 32768 gives answered first_answer) ∷
    -- its longest word has 9 letters
    (reverse braid_bytes first_bytes 65535 9 32768 gives answered first_answer) ∷
    (reverse braid_bytes first_bytes 65535 8 32768 gives refused 12 unplaced) ∷
    -- a starting word that is too long is (iv), whatever else holds of it
    (reverse braid_bytes first_bytes 0 4 32768 gives refused 12 unplaced) ∷
    (reverse braid_bytes (pattern 3 (1 ∷ 2 ∷ [])) 65535 1 32768 gives refused 12 unplaced) ∷
    -- (i) before (iii): a word that is finished takes no step
    (reverse braid_bytes (pattern 3 (1 ∷ 2 ∷ [])) 0 2 2 gives answered (record { numerator = 1 ∷ 2 ∷ []; denominator = []; steps = 0 })) ∷
    -- (ii) before (iii)
    (reverse (image open2) (log 2 (back 1 ∷ forward 2 ∷ [])) 0 32768 32768 gives refused 10 (pair_of 1 2)) ∷
    -- 10 names the back letter first
    (reverse (image open2) (log 2 (back 2 ∷ forward 1 ∷ [])) 65535 32768 32768 gives refused 10 (pair_of 2 1)) ∷
    -- (iii) before (iv): the next word has 4 letters
    (reverse braid_bytes (log 3 (back 1 ∷ forward 2 ∷ [])) 0 3 32768 gives refused 11 unplaced) ∷
    (reverse braid_bytes (log 3 (back 1 ∷ forward 2 ∷ [])) 1 3 32768 gives refused 12 unplaced) ∷
    -- a pair that vanishes is a step
    (reverse braid_bytes (log 3 (back 1 ∷ forward 1 ∷ [])) 65535 2 0 gives answered (record { numerator = []; denominator = []; steps = 1 })) ∷
    (reverse braid_bytes (log 3 (back 1 ∷ forward 1 ∷ [])) 0 2 0 gives refused 11 unplaced) ∷
    -- 13 where the area is shorter than N and D together
    (reverse braid_bytes first_bytes 65535 32768 7 gives answered first_answer) ∷
    (reverse braid_bytes first_bytes 65535 32768 6 gives refused 13 unplaced) ∷
    -- an empty program with empty areas
    (reverse (image braid1) (log 1 []) 0 0 0 gives answered (record { numerator = []; denominator = []; steps = 0 })) ∷ []

-- The cube check: undefined sides, stops with their triple, and the bytes that L keeps.
abbrev pub triples : List {1} Case
triples =
    -- braid tables pass
    (clear braid_bytes 65535 32768 gives answered tt) ∷
    -- two letters make no triple
    (clear (image open2) 0 0 gives answered tt) ∷
    -- R alone is defined
    (clear (image (three (complement [] []) undefined (complement (3 ∷ []) (2 ∷ [])))) 65535 32768 gives refused 9 (triple_of 1 2 3)) ∷
    -- L alone is defined
    (clear (image (three (complement [] []) (complement (3 ∷ []) (1 ∷ [])) undefined)) 65535 32768 gives refused 9 (triple_of 1 2 3)) ∷
    -- both are undefined
    (clear (image (three (complement (2 ∷ []) (1 ∷ [])) undefined undefined)) 65535 32768 gives answered tt) ∷
    -- later triples count too
    (clear (image (three (complement (2 ∷ []) (3 ∷ [])) (complement [] []) (complement [] []))) 65535 32768 gives refused 9 (triple_of 1 3 2)) ∷
    (clear (image (three (complement (2 ∷ []) (1 ∷ [])) (complement (2 ∷ []) (2 ∷ [])) (complement [] []))) 65535 32768 gives refused 9 (triple_of 2 3 1)) ∷
    -- 11 in a triple: five steps suffice for each reversing of the braid table
    (clear braid_bytes 5 32768 gives answered tt) ∷
    (clear braid_bytes 4 32768 gives refused 11 (triple_of 1 2 3)) ∷
    (clear (image (three (complement (3 ∷ 2 ∷ []) (1 ∷ 3 ∷ [])) (complement [] []) (complement (1 ∷ []) (2 ∷ [])))) 1 40 gives refused 11 (triple_of 1 3 2)) ∷
    -- 12 in a triple
    (clear braid_bytes 65535 1 gives refused 12 (triple_of 1 2 3)) ∷
    (clear (image (three (complement (2 ∷ []) (3 ∷ [])) (complement (2 ∷ 2 ∷ []) (2 ∷ 3 ∷ [])) (complement (2 ∷ []) (2 ∷ [])))) 2 4 gives refused 12
    (triple_of 2 3 1)) ∷
    -- L keeps its bytes while R is worked out: without them a room of 8 would do
    (clear braid_bytes 65535 11 gives answered tt) ∷
    (clear braid_bytes 65535 10 gives refused 12 (triple_of 1 2 3)) ∷
    -- a table whose reversings never end
    (clear (image endless3) 60 32768 gives refused 11 (triple_of 1 2 3)) ∷
    (clear (image endless3) 60 20 gives refused 12 (triple_of 1 2 3)) ∷
    -- 8 comes before the first triple is looked at
    (clear (image (three (complement (2 ∷ []) (3 ∷ [])) (complement [] []) (complement (1 ∷ 1 ∷ []) []))) 0 0 gives refused 8 (pair_of 2 3)) ∷ []

-- Table images and plain tables: refusals 1, 2 and 3, in both orders of 1 and 2.
abbrev pub tables : List {1} Case
tables =
    -- 1: an empty image, one that ends within the weights, and one that is cut
    (unpack_table [] 99 gives refused 1 unplaced) ∷
    (unpack_table (0x2f ∷ []) 99 gives refused 1 unplaced) ∷
    (unpack_table (0x20 ∷ 0x04 ∷ 0x90 ∷ 0x86 ∷ 0x30 ∷ 0x92 ∷ 0x92 ∷ []) 99 gives refused 1 unplaced) ∷
    -- 2: with n = 3 a field of 3 names no letter
    (unpack_table (0x20 ∷ 0x04 ∷ 0xb0 ∷ 0x86 ∷ 0x30 ∷ 0x92 ∷ 0x92 ∷ 0x60 ∷ []) 99 gives refused 2 unplaced) ∷
    -- 2 is met before the end
    (unpack_table (0x20 ∷ 0x04 ∷ 0xb0 ∷ []) 99 gives refused 2 unplaced) ∷
    -- the end is met before 2: half a field, all ones
    (unpack_table (0x20 ∷ 0x02 ∷ 0x61 ∷ []) 99 gives refused 1 unplaced) ∷
    -- 3: a filling bit, and a byte that follows
    (unpack_table (0x20 ∷ 0x04 ∷ 0x90 ∷ 0x86 ∷ 0x30 ∷ 0x92 ∷ 0x92 ∷ 0x61 ∷ []) 99 gives refused 3 unplaced) ∷
    (unpack_table (0x20 ∷ 0x04 ∷ 0x90 ∷ 0x86 ∷ 0x30 ∷ 0x92 ∷ 0x92 ∷ 0x60 ∷ 0x00 ∷ []) 99 gives refused 3 unplaced) ∷
    -- 2 comes before 3
    (unpack_table (0x20 ∷ 0x04 ∷ 0xb0 ∷ 0x86 ∷ 0x30 ∷ 0x92 ∷ 0x92 ∷ 0x61 ∷ []) 99 gives refused 2 unplaced) ∷
    -- n = 1 has no fields but its count and its weight
    (unpack_table (0x00 ∷ []) 99 gives answered (1 ∷ 1 ∷ [])) ∷
    (unpack_table (0x0e ∷ []) 99 gives answered (1 ∷ 8 ∷ [])) ∷
    (unpack_table (0x01 ∷ []) 99 gives refused 3 unplaced) ∷
    -- a weight's field holds one less, and the weights stand before the pairs
    (image heavy2 gives 0x10 ∷ 0x65 ∷ 0x0c ∷ []) ∷
    (unpack_table (0x10 ∷ 0x65 ∷ 0x0c ∷ []) 99 gives answered (2 ∷ 1 ∷ 2 ∷ 2 ∷ 2 ∷ 1 ∷ 1 ∷ 2 ∷ [])) ∷
    -- plain, 1: empty, cut within the weights, or cut
    (pack_table [] 99 gives refused 1 unplaced) ∷
    (pack_table (3 ∷ 1 ∷ 1 ∷ []) 99 gives refused 1 unplaced) ∷
    (pack_table (2 ∷ 1 ∷ 1 ∷ 1 ∷ 2 ∷ 1 ∷ []) 99 gives refused 1 unplaced) ∷
    -- plain, 2: n, a weight, a length, a letter
    (pack_table (0 ∷ []) 99 gives refused 2 unplaced) ∷
    (pack_table (17 ∷ []) 99 gives refused 2 unplaced) ∷
    (pack_table (2 ∷ 0 ∷ []) 99 gives refused 2 unplaced) ∷
    (pack_table (2 ∷ 1 ∷ 9 ∷ []) 99 gives refused 2 unplaced) ∷
    (pack_table (2 ∷ 1 ∷ 1 ∷ 16 ∷ []) 99 gives refused 2 unplaced) ∷
    (pack_table (2 ∷ 1 ∷ 1 ∷ 1 ∷ 0 ∷ []) 99 gives refused 2 unplaced) ∷
    (pack_table (2 ∷ 1 ∷ 1 ∷ 1 ∷ 3 ∷ []) 99 gives refused 2 unplaced) ∷
    -- only the first length byte of a pair may be 255
    (pack_table (2 ∷ 1 ∷ 1 ∷ 0 ∷ 255 ∷ []) 99 gives refused 2 unplaced) ∷
    -- the end is met before 2, and 2 before the end
    (pack_table (3 ∷ 1 ∷ 1 ∷ 1 ∷ 2 ∷ 1 ∷ []) 99 gives refused 1 unplaced) ∷
    (pack_table (3 ∷ 1 ∷ 1 ∷ 1 ∷ 2 ∷ 4 ∷ []) 99 gives refused 2 unplaced) ∷
    -- plain, 3: a byte follows
    (pack_table (2 ∷ 1 ∷ 1 ∷ 255 ∷ 0 ∷ []) 99 gives refused 3 unplaced) ∷
    (pack_table (1 ∷ 1 ∷ 0 ∷ []) 99 gives refused 3 unplaced) ∷
    -- packed and unpacked
    (pack_table (3 ∷ 1 ∷ 1 ∷ 1 ∷ 2 ∷ 2 ∷ 1 ∷ 2 ∷ 1 ∷ 2 ∷ 1 ∷ 3 ∷ 1 ∷ 1 ∷ 2 ∷ 3 ∷ 2 ∷ 2 ∷ 2 ∷ 3 ∷ []) 8 gives answered braid_bytes) ∷
    (unpack_table braid_bytes 20 gives answered (3 ∷ 1 ∷ 1 ∷ 1 ∷ 2 ∷ 2 ∷ 1 ∷ 2 ∷ 1 ∷ 2 ∷ 1 ∷ 3 ∷ 1 ∷ 1 ∷ 2 ∷ 3 ∷ 2 ∷ 2 ∷ 2 ∷ 3 ∷ [])) ∷
    (pack_table (2 ∷ 1 ∷ 2 ∷ 2 ∷ 2 ∷ 1 ∷ 1 ∷ 2 ∷ []) 3 gives answered (0x10 ∷ 0x65 ∷ 0x0c ∷ [])) ∷
    -- 13: an area one byte short, and an empty one
    (unpack_table braid_bytes 19 gives refused 13 unplaced) ∷
    (pack_table (1 ∷ 1 ∷ []) 0 gives refused 13 unplaced) ∷ []

-- Program images and plain programs: refusals 4, 5 and 6, in both orders of 4 and 5, and 7.
abbrev pub programs : List {1} Case
programs =
    -- a table is read before its program
    (unpack_program [] [] 99 gives refused 1 unplaced) ∷
    -- 4: an empty image, and one that is cut
    (unpack_program braid_bytes [] 99 gives refused 4 unplaced) ∷
    (unpack_program braid_bytes (0x00 ∷ 0x5c ∷ 0x28 ∷ []) 99 gives refused 4 unplaced) ∷
    -- 5: with n = 3 a field of 3 names no letter
    (unpack_program braid_bytes (0x00 ∷ 0x16 ∷ []) 99 gives refused 5 unplaced) ∷
    -- 5 is met before the end
    (unpack_program braid_bytes (0x00 ∷ 0x36 ∷ []) 99 gives refused 5 unplaced) ∷
    -- the end is met before 5: half a field, all ones
    (unpack_program braid_bytes (0x00 ∷ 0x70 ∷ 0x00 ∷ 0x03 ∷ []) 99 gives refused 4 unplaced) ∷
    -- 6: a filling bit, and a byte that follows
    (unpack_program braid_bytes (0x00 ∷ 0x5c ∷ 0x28 ∷ 0x21 ∷ []) 99 gives refused 6 unplaced) ∷
    (unpack_program braid_bytes (0x00 ∷ 0x5c ∷ 0x28 ∷ 0x20 ∷ 0x00 ∷ []) 99 gives refused 6 unplaced) ∷
    -- 5 comes before 6
    (unpack_program braid_bytes (0x00 ∷ 0x17 ∷ []) 99 gives refused 5 unplaced) ∷
    -- with n = 1 a field has no bits
    (unpack_program (0x00 ∷ []) (0x00 ∷ 0x24 ∷ []) 99 gives answered (1 ∷ 129 ∷ [])) ∷
    -- plain, 5: 0, 128, and numbers above n
    (pack_program braid_bytes (0 ∷ []) 99 gives refused 5 unplaced) ∷
    (pack_program braid_bytes (128 ∷ []) 99 gives refused 5 unplaced) ∷
    (pack_program braid_bytes (1 ∷ 4 ∷ []) 99 gives refused 5 unplaced) ∷
    (pack_program braid_bytes (132 ∷ []) 99 gives refused 5 unplaced) ∷
    -- plain, 4: too many bytes, whatever they name
    (pack_program (0x00 ∷ []) (replicate 4096 0) 9999 gives refused 4 unplaced) ∷
    (pack_program (0x00 ∷ []) (replicate 4095 0) 9999 gives refused 5 unplaced) ∷
    -- packed and unpacked
    (pack_program braid_bytes (131 ∷ 1 ∷ 130 ∷ 1 ∷ 2 ∷ []) 4 gives answered first_bytes) ∷
    (unpack_program braid_bytes first_bytes 5 gives answered (131 ∷ 1 ∷ 130 ∷ 1 ∷ 2 ∷ [])) ∷
    -- 13: an area one byte short, and an empty one
    (pack_program braid_bytes (131 ∷ 1 ∷ 130 ∷ 1 ∷ 2 ∷ []) 3 gives refused 13 unplaced) ∷
    (unpack_program braid_bytes first_bytes 4 gives refused 13 unplaced) ∷
    (unpack_program braid_bytes (0x00 ∷ 0x00 ∷ []) 0 gives answered []) ∷
    -- 7, and the first program before the second
    (compare braid_bytes first_bytes [] 65535 32768 gives refused 7 unplaced) ∷
    (compare braid_bytes [] first_bytes 65535 32768 gives refused 4 unplaced) ∷
    (compare braid_bytes (pattern 3 []) first_bytes 65535 32768 gives refused 7 unplaced) ∷ []

-- Compare and chain: unequal weights, stops, and the area of a chain.
abbrev pub comparisons : List {1} Case
comparisons =
    -- programs of different weights: 0 steps, but only after the table clears
    (compare braid_bytes (pattern 3 (1 ∷ [])) (pattern 3 []) 65535 32768 gives answered (different_after 0)) ∷
    (compare (image broken3) (pattern 3 (1 ∷ [])) (pattern 3 []) 65535 32768 gives refused 9 (triple_of 1 2 3)) ∷
    -- 11 and 12 of the programs come with no numbers
    (compare (image braid1) (pattern 1 (1 ∷ [])) (pattern 1 (1 ∷ [])) 0 2 gives refused 11 unplaced) ∷
    (compare (image braid1) (pattern 1 (1 ∷ [])) (pattern 1 (1 ∷ [])) 1 1 gives refused 12 unplaced) ∷
    (compare (image braid1) (pattern 1 (1 ∷ [])) (pattern 1 (1 ∷ [])) 1 2 gives answered (same_after 1 0)) ∷
    -- 13: of the 5 steps one is on two different letters, so that the image has the count and one entry of 19 bits
    (chain braid_bytes (pattern 3 (1 ∷ 2 ∷ 1 ∷ [])) (pattern 3 (2 ∷ 1 ∷ 2 ∷ [])) 65535 32768 5 gives answered (listed_after 5 1 5)) ∷
    (chain braid_bytes (pattern 3 (1 ∷ 2 ∷ 1 ∷ [])) (pattern 3 (2 ∷ 1 ∷ 2 ∷ [])) 65535 32768 4 gives refused 13 unplaced) ∷
    -- steps that all vanish give a chain of no entry: the count alone
    (chain (image braid1) (pattern 1 (1 ∷ [])) (pattern 1 (1 ∷ [])) 1 2 2 gives answered (listed_after 1 0 2)) ∷
    (chain (image braid1) (pattern 1 (1 ∷ [])) (pattern 1 (1 ∷ [])) 1 2 1 gives refused 13 unplaced) ∷
    -- a step on two different letters counts, also where nothing is put in their place
    (chain (image (record { size = 2; excess = 0 ∷ 0 ∷ []; rows = (complement [] [] ∷ []) ∷ [] ∷ [] })) (pattern 2 (1 ∷ [])) (pattern 2 (2 ∷ [])) 1 2 5 gives
    answered (listed_after 1 1 5)) ∷
    -- 13 comes only after same
    (chain braid_bytes (pattern 3 (1 ∷ [])) (pattern 3 (2 ∷ [])) 65535 32768 0 gives answered (unlisted_after 1)) ∷
    -- programs of equal weight and unequal length are reversed, those of unequal weight and equal length are not
    (compare (image heavy2) (pattern 2 (1 ∷ 2 ∷ 1 ∷ [])) (pattern 2 (2 ∷ 2 ∷ [])) 65535 32768 gives answered (same_after 4 1)) ∷
    (compare (image heavy2) (pattern 2 (1 ∷ [])) (pattern 2 (2 ∷ [])) 65535 32768 gives answered (different_after 0)) ∷
    -- the sides are weighed whole, with their first letters
    (clear (image heavy2) 65535 32768 gives answered tt) ∷
    (clear (image (two 1 1)) 65535 32768 gives refused 8 (pair_of 1 2)) ∷
    (clear (image (record { size = 2; excess = 0 ∷ 1 ∷ []; rows = (complement (2 ∷ []) (2 ∷ []) ∷ []) ∷ [] ∷ [] })) 65535 32768 gives refused 8 (pair_of 1 2))
    ∷ []

-- What is left to run: moves, none for each reason, and the order of the tests.
abbrev pub remainders : List {1} Case
remainders =
    -- the residual of the done part towards the pattern, letter for letter
    (remainder braid_bytes (pattern 3 (1 ∷ [])) (pattern 3 (1 ∷ 2 ∷ 1 ∷ [])) 65535 32768 32768 gives answered (moves_after (2 ∷ 1 ∷ []) 1)) ∷
    (remainder braid_bytes (pattern 3 (2 ∷ [])) (pattern 3 (1 ∷ 2 ∷ 1 ∷ [])) 65535 32768 32768 gives answered (moves_after (1 ∷ 2 ∷ []) 3)) ∷
    (remainder braid_bytes (pattern 3 (3 ∷ [])) (pattern 3 (1 ∷ 3 ∷ [])) 65535 32768 32768 gives answered (moves_after (1 ∷ []) 2)) ∷
    -- nothing is left of a pattern that is joined to what was done, and everything where nothing was done
    (remainder braid_bytes (pattern 3 (1 ∷ 2 ∷ 1 ∷ [])) (pattern 3 (2 ∷ 1 ∷ 2 ∷ [])) 65535 32768 0 gives answered (moves_after [] 5)) ∷
    (remainder braid_bytes (pattern 3 []) (pattern 3 (2 ∷ 3 ∷ [])) 5 11 2 gives answered (moves_after (2 ∷ 3 ∷ []) 0)) ∷
    -- none: the reversing finishes with a denominator that is not empty; the area plays no part
    (remainder braid_bytes (pattern 3 (1 ∷ [])) (pattern 3 (2 ∷ [])) 65535 32768 0 gives answered (none_after 1)) ∷
    (remainder braid_bytes (pattern 3 (3 ∷ [])) (pattern 3 (1 ∷ 2 ∷ [])) 65535 32768 0 gives answered (none_after 2)) ∷
    -- none: it meets an open pair
    (remainder (image open2) (pattern 2 (1 ∷ [])) (pattern 2 (2 ∷ [])) 0 2 0 gives answered (none_after 0)) ∷
    (remainder (image open2) (pattern 2 (1 ∷ 1 ∷ [])) (pattern 2 (1 ∷ 2 ∷ [])) 65535 32768 0 gives answered (none_after 1)) ∷
    -- none: the pattern is the lighter, whatever allowance and workspace are, but only after the table clears
    (remainder (image braid1) (pattern 1 (1 ∷ [])) (pattern 1 []) 0 0 0 gives answered (none_after 0)) ∷
    (remainder (image broken3) (pattern 3 (1 ∷ [])) (pattern 3 []) 65535 32768 0 gives refused 9 (triple_of 1 2 3)) ∷
    (remainder (image unequal2) (pattern 2 (1 ∷ [])) (pattern 2 []) 65535 32768 0 gives refused 8 (pair_of 1 2)) ∷
    (remainder (image heavy2) (pattern 2 (2 ∷ [])) (pattern 2 (1 ∷ [])) 65535 32768 0 gives answered (none_after 0)) ∷
    (remainder (image heavy2) (pattern 2 (1 ∷ 1 ∷ [])) (pattern 2 (2 ∷ [])) 65535 32768 0 gives answered (none_after 3)) ∷
    (remainder (image heavy2) (pattern 2 (1 ∷ [])) (pattern 2 (2 ∷ 2 ∷ [])) 65535 32768 2 gives answered (moves_after (2 ∷ 1 ∷ []) 2)) ∷
    (remainder braid_bytes (pattern 3 (1 ∷ [])) (pattern 3 (1 ∷ [])) 4 32768 0 gives refused 11 (triple_of 1 2 3)) ∷
    -- 13 where the area is shorter than the moves
    (remainder braid_bytes (pattern 3 (1 ∷ [])) (pattern 3 (1 ∷ 2 ∷ 1 ∷ [])) 65535 32768 2 gives answered (moves_after (2 ∷ 1 ∷ []) 1)) ∷
    (remainder braid_bytes (pattern 3 (1 ∷ [])) (pattern 3 (1 ∷ 2 ∷ 1 ∷ [])) 65535 32768 1 gives refused 13 unplaced) ∷
    -- 11 and 12 of the programs come with no numbers
    (remainder (image braid1) (pattern 1 (1 ∷ [])) (pattern 1 (1 ∷ 1 ∷ [])) 0 3 1 gives refused 11 unplaced) ∷
    (remainder (image braid1) (pattern 1 (1 ∷ [])) (pattern 1 (1 ∷ 1 ∷ [])) 1 2 1 gives refused 12 unplaced) ∷
    (remainder (image braid1) (pattern 1 (1 ∷ [])) (pattern 1 (1 ∷ 1 ∷ [])) 1 3 1 gives answered (moves_after (1 ∷ []) 1)) ∷
    -- the done part is read before the pattern
    (remainder braid_bytes first_bytes [] 65535 32768 32768 gives refused 7 unplaced) ∷
    (remainder braid_bytes [] first_bytes 65535 32768 32768 gives refused 4 unplaced) ∷
    -- the area begins with the moves, and is as it was after none
    (output_after remainder_bytes (remainder braid_bytes (pattern 3 (2 ∷ [])) (pattern 3 (1 ∷ 2 ∷ 1 ∷ [])) 65535 32768 3) (7 ∷ 8 ∷ 9 ∷ []) gives 1 ∷ 2 ∷ 9 ∷ [])
    ∷
    (output_after remainder_bytes (remainder braid_bytes (pattern 3 (1 ∷ [])) (pattern 3 (2 ∷ [])) 65535 32768 3) (7 ∷ 8 ∷ 9 ∷ []) gives 7 ∷ 8 ∷ 9 ∷ []) ∷
    (workspace_after (remainder braid_bytes (pattern 3 (1 ∷ [])) (pattern 3 []) 65535 32768 3) (7 ∷ 8 ∷ 9 ∷ []) gives 0 ∷ 0 ∷ 0 ∷ []) ∷ []

-- Check a chain: refusals 4, 5, 6 and 12, and each way in which a chain ends.
abbrev pub chains : List {1} Case
chains =
    -- the programs are read before the chain
    (check braid_bytes first_bytes first_bytes [] 32768 gives refused 7 unplaced) ∷
    -- 4: an empty image, and one that is cut
    (check braid_bytes (pattern 3 (1 ∷ [])) (pattern 3 (1 ∷ [])) [] 9 gives refused 4 unplaced) ∷
    (check braid_bytes (pattern 3 (1 ∷ [])) (pattern 3 (1 ∷ [])) (0x00 ∷ 0x01 ∷ 0x00 ∷ []) 9 gives refused 4 unplaced) ∷
    -- 5, and 5 met before the end
    (check braid_bytes (pattern 3 (1 ∷ [])) (pattern 3 (1 ∷ [])) (0x00 ∷ 0x01 ∷ 0x00 ∷ 0x01 ∷ 0x80 ∷ []) 9 gives refused 5 unplaced) ∷
    (check braid_bytes (pattern 3 (1 ∷ [])) (pattern 3 (1 ∷ [])) (0x00 ∷ 0x02 ∷ 0x00 ∷ 0x01 ∷ 0x80 ∷ []) 9 gives refused 5 unplaced) ∷
    -- 6: a filling bit that is set, and a byte that follows, zero or not
    (check (image open2) (pattern 2 []) (pattern 2 []) (0x00 ∷ 0x01 ∷ 0x00 ∷ 0x00 ∷ 0x01 ∷ []) 9 gives refused 6 unplaced) ∷
    (check braid_bytes (pattern 3 (1 ∷ [])) (pattern 3 (1 ∷ [])) (0x00 ∷ 0x00 ∷ 0x00 ∷ []) 9 gives refused 6 unplaced) ∷
    (check (image open2) (pattern 2 []) (pattern 2 []) (0x00 ∷ 0x01 ∷ 0x00 ∷ 0x00 ∷ 0x00 ∷ 0x01 ∷ []) 9 gives refused 6 unplaced) ∷
    -- an empty chain joins a program to itself
    (check braid_bytes (pattern 3 (1 ∷ 2 ∷ [])) (pattern 3 (1 ∷ 2 ∷ [])) (chain_image 3 []) 2 gives answered joins) ∷
    (check braid_bytes (pattern 3 (1 ∷ 2 ∷ [])) (pattern 3 (2 ∷ 1 ∷ [])) (chain_image 3 []) 2 gives answered ends_elsewhere) ∷
    -- entries that do not fit: equal letters, an open pair, another side at the offset, an offset past the end
    (check braid_bytes (pattern 3 (1 ∷ [])) (pattern 3 (1 ∷ [])) (chain_image 3 (entry 0 1 1 ∷ [])) 9 gives answered (breaks 0)) ∷
    (check (image open2) (pattern 2 (1 ∷ [])) (pattern 2 (1 ∷ [])) (chain_image 2 (entry 0 1 2 ∷ [])) 9 gives answered (breaks 0)) ∷
    (check braid_bytes (pattern 3 (1 ∷ 2 ∷ 1 ∷ [])) (pattern 3 (2 ∷ 1 ∷ 2 ∷ [])) (chain_image 3 (entry 0 1 2 ∷ entry 0 1 2 ∷ [])) 9 gives answered (breaks 1)) ∷
    (check braid_bytes (pattern 3 (1 ∷ 2 ∷ 1 ∷ [])) (pattern 3 (2 ∷ 1 ∷ 2 ∷ [])) (chain_image 3 (entry 1 1 2 ∷ [])) 9 gives answered (breaks 0)) ∷
    (check braid_bytes (pattern 3 (1 ∷ 2 ∷ 1 ∷ [])) (pattern 3 (2 ∷ 1 ∷ 2 ∷ [])) (chain_image 3 (entry 32767 1 2 ∷ [])) 9 gives answered (breaks 0)) ∷
    -- inside a word, and back again
    (check braid_bytes (pattern 3 (3 ∷ 1 ∷ 3 ∷ [])) (pattern 3 (3 ∷ 3 ∷ 1 ∷ [])) (chain_image 3 (entry 1 1 3 ∷ [])) 3 gives answered joins) ∷
    (check braid_bytes (pattern 3 (1 ∷ 2 ∷ 1 ∷ [])) (pattern 3 (1 ∷ 2 ∷ 1 ∷ [])) (chain_image 3 (entry 0 1 2 ∷ entry 0 2 1 ∷ [])) 3 gives answered joins) ∷
    -- 12: the first program is too long, or the word after an entry; the table need not clear
    (check braid_bytes (pattern 3 (1 ∷ 2 ∷ 1 ∷ [])) (pattern 3 (2 ∷ 1 ∷ 2 ∷ [])) (chain_image 3 []) 2 gives refused 12 unplaced) ∷
    (check (image unequal2) (pattern 2 (2 ∷ 2 ∷ [])) (pattern 2 (1 ∷ 2 ∷ 1 ∷ [])) (chain_image 2 (entry 0 2 1 ∷ [])) 2 gives refused 12 unplaced) ∷
    (check (image unequal2) (pattern 2 (2 ∷ 2 ∷ [])) (pattern 2 (1 ∷ 2 ∷ 1 ∷ [])) (chain_image 2 (entry 0 2 1 ∷ [])) 3 gives answered joins) ∷ []

-- The lent areas after a call.
abbrev pub areas : List {1} Case
areas =
    -- the workspace is as found after 8 and zero after 9
    (workspace_after (compare (image unequal2) (pattern 2 []) (pattern 2 []) 65535 3) (7 ∷ 8 ∷ 9 ∷ []) gives 7 ∷ 8 ∷ 9 ∷ []) ∷
    (workspace_after (clear (image broken3) 65535 32768) (7 ∷ 8 ∷ 9 ∷ []) gives 0 ∷ 0 ∷ 0 ∷ []) ∷
    -- as found after 1, and zero after 12, 13 and an answer
    (workspace_after (clear [] 65535 3) (7 ∷ 8 ∷ 9 ∷ []) gives 7 ∷ 8 ∷ 9 ∷ []) ∷
    (workspace_after (reverse braid_bytes first_bytes 65535 3 9) (7 ∷ 8 ∷ 9 ∷ []) gives 0 ∷ 0 ∷ 0 ∷ []) ∷
    (workspace_after (reverse braid_bytes first_bytes 65535 32768 6) (7 ∷ 8 ∷ 9 ∷ []) gives 0 ∷ 0 ∷ 0 ∷ []) ∷
    (workspace_after (clear (image open2) 0 3) (7 ∷ 8 ∷ 9 ∷ []) gives 0 ∷ 0 ∷ 0 ∷ []) ∷
    -- the answer area begins with the answer, N then D, and keeps its other bytes
    (output_after fraction_bytes (reverse braid_bytes first_bytes 65535 32768 9) (replicate 9 255) gives 1 ∷ 1 ∷ 2 ∷ 3 ∷ 1 ∷ 3 ∷ 2 ∷ 255 ∷ 255 ∷ []) ∷
    (output_after fraction_bytes (reverse braid_bytes first_bytes 4 32768 9) (replicate 9 255) gives replicate 9 255) ∷ []

-- every further case holds
pub record Further : Type 0 where
  pub endings_hold : All endings
  pub triples_hold : All triples
  pub tables_hold : All tables
  pub programs_hold : All programs
  pub comparisons_hold : All comparisons
  pub remainders_hold : All remainders
  pub chains_hold : All chains
  pub areas_hold : All areas

endings_hold : All endings
unfolding table_image program_image chain_image plain_table field finish read_table read_program read_chain read_forward read_plain_table read_plain_program
    reverse compare
    comparison chain remainder finishing check followed applied clear cleared pack_table unpack_table pack_program unpack_program under side against cube_at
    reversing run next complete
endings_hold = (refl, (refl, (refl, (refl, (refl, (refl, (refl, (refl, (refl, (refl, (refl, (refl, (refl, (refl, (refl, tt)))))))))))))))

triples_hold : All triples
unfolding table_image program_image chain_image plain_table field finish read_table read_program read_chain read_forward read_plain_table read_plain_program
    reverse compare
    comparison chain remainder finishing check followed applied clear cleared pack_table unpack_table pack_program unpack_program under side against cube_at
    reversing run next complete
triples_hold = (refl, (refl, (refl, (refl, (refl, (refl, (refl, (refl, (refl, (refl, (refl, (refl, (refl, (refl, (refl, (refl, (refl, tt)))))))))))))))))

tables_hold : All tables
unfolding table_image program_image chain_image plain_table field finish read_table read_program read_chain read_forward read_plain_table read_plain_program
    reverse compare
    comparison chain remainder finishing check followed applied clear cleared pack_table unpack_table pack_program unpack_program under side against cube_at
    reversing run next complete
tables_hold = (
  refl,
  (
    refl,
    (
      refl,
      (
        refl,
        (
          refl,
          (
            refl,
            (
              refl,
              (
                refl,
                (
                  refl,
                  (
                    refl,
                    (
                      refl,
                      (
                        refl,
                        (
                          refl,
                          (
                            refl,
                            (
                              refl,
                              (
                                refl,
                                (
                                  refl,
                                  (
                                    refl,
                                    (
                                      refl,
                                      (
                                        refl,
                                        (
                                          refl,
                                          (
                                            refl,
                                            (refl, (refl, (refl, (refl, (refl, (refl, (refl, (refl, (refl, (refl, (refl, (refl, tt)))))))))))),
                                          ),
                                        ),
                                      ),
                                    ),
                                  ),
                                ),
                              ),
                            ),
                          ),
                        ),
                      ),
                    ),
                  ),
                ),
              ),
            ),
          ),
        ),
      ),
    ),
  ),
)

programs_hold : All programs
unfolding table_image program_image chain_image plain_table field finish read_table read_program read_chain read_forward read_plain_table read_plain_program
    reverse compare
    comparison chain remainder finishing check followed applied clear cleared pack_table unpack_table pack_program unpack_program under side against cube_at
    reversing run next complete
programs_hold = (
  refl,
  (
    refl,
    (
      refl,
      (
        refl,
        (
          refl,
          (
            refl,
            (refl, (refl, (refl, (refl, (refl, (refl, (refl, (refl, (refl, (refl, (refl, (refl, (refl, (refl, (refl, (refl, (refl, (refl, tt)))))))))))))))))),
          ),
        ),
      ),
    ),
  ),
)

comparisons_hold : All comparisons
unfolding table_image program_image chain_image plain_table field finish read_table read_program read_chain read_forward read_plain_table read_plain_program
    reverse compare
    comparison chain remainder finishing check followed applied clear cleared pack_table unpack_table pack_program unpack_program under side against cube_at
    reversing run next complete
comparisons_hold = (refl, (refl, (refl, (refl, (refl, (refl, (refl, (refl, (refl, (refl, (refl, (refl, (refl, (refl, (refl, (refl, tt))))))))))))))))

remainders_hold : All remainders
unfolding table_image program_image chain_image plain_table field finish read_table read_program read_chain read_forward read_plain_table read_plain_program
    reverse compare
    comparison chain remainder finishing check followed applied clear cleared pack_table unpack_table pack_program unpack_program under side against cube_at
    reversing run next complete
remainders_hold = (
  refl,
  (
    refl,
    (
      refl,
      (
        refl,
        (
          refl,
          (
            refl,
            (
              refl,
              (
                refl,
                (
                  refl,
                  (refl, (refl, (refl, (refl, (refl, (refl, (refl, (refl, (refl, (refl, (refl, (refl, (refl, (refl, (refl, (refl, (refl, tt))))))))))))))))),
                ),
              ),
            ),
          ),
        ),
      ),
    ),
  ),
)

chains_hold : All chains
unfolding table_image program_image chain_image plain_table field finish read_table read_program read_chain read_forward read_plain_table read_plain_program
    reverse compare
    comparison chain remainder finishing check followed applied clear cleared pack_table unpack_table pack_program unpack_program under side against cube_at
    reversing run next complete
chains_hold = (
  refl,
  (
    refl,
    (refl, (refl, (refl, (refl, (refl, (refl, (refl, (refl, (refl, (refl, (refl, (refl, (refl, (refl, (refl, (refl, (refl, (refl, tt)))))))))))))))))),
  ),
)

areas_hold : All areas
unfolding table_image program_image chain_image plain_table field finish read_table read_program read_chain read_forward read_plain_table read_plain_program
    reverse compare
    comparison chain remainder finishing check followed applied clear cleared pack_table unpack_table pack_program unpack_program under side against cube_at
    reversing run next complete
areas_hold = (refl, (refl, (refl, (refl, (refl, (refl, (refl, (refl, tt))))))))

pub further_holds : Further
further_holds =
    record {
      endings_hold = endings_hold;
      triples_hold = triples_hold;
      tables_hold = tables_hold;
      programs_hold = programs_hold;
      comparisons_hold = comparisons_hold;
      remainders_hold = remainders_hold;
      chains_hold = chains_hold;
      areas_hold = areas_hold;
    }
