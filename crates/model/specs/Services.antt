-- Specification 6 and 7.2: what each service answers, for every table, program, budget of steps and area length.
use Rattle.std.specs.Prelude.{List, [], ◌∷◌, ◌++◌, Bool, true, false, not, ◌&&◌, cond, ℕ, suc, ◌+◌, ltb, eqb, length}
use Rattle.std.proofs.Math.Option.{Option, none, some}
use Rattle.model.specs.Word.{forward, back, Word, Positive, positive, negative, forwards}
use Rattle.model.specs.Presentation.{Presentation, weigh}
use Rattle.model.specs.Reversing.{Ending, finished, open_pair, stopped, reversing}
use Rattle.model.specs.Equivalence.{Entry, applied, equal}
use Rattle.model.specs.Enumeration.{pairs, triples}
use Rattle.model.specs.Checks.{weight_check, stop_number, cube_check, cleared}
use Rattle.model.specs.Mirror.{mirror, mirror_check, left_reversing}
use Rattle.model.specs.Outcome.{Place, unplaced, pair_of, triple_of, mirror_triple_of, the_set, Outcome, answered, refused, ◌>>=◌, unless, mapped}
use Rattle.model.specs.Bits.{bytes_for}
use Rattle.model.specs.Images.{entry_position, read_table, read_program, read_chain, table_image, program_image}
use Rattle.model.specs.Plain.{plain_table, plain_program, read_plain_table, read_plain_program}

-- WHAT A SERVICE READS (7.2)

-- a table, and a word that a program under it is read as
pub record TableWith (W : Type 0) : Type 0 where
  pub table : Presentation
  pub word : W

-- 6.2: the table's tests come before those of the program
abbrev pub read_table_with : {W : Type 0} → (ℕ → List ℕ → Outcome W) → List ℕ → List ℕ → Outcome (TableWith W)
read_table_with read table program = read_table table >>= λ T. read T.size program >>= λ w. answered (record { table = T; word = w })

-- a table, and the words of two programs
pub record Images (W : Type 0) : Type 0 where
  pub table : Presentation
  pub first : W
  pub second : W

-- 6.4, 6.18: all tests of the first program come before those of the second
abbrev pub read_images : {W : Type 0} → (ℕ → List ℕ → Outcome W) → List ℕ → List ℕ → List ℕ → Outcome (Images W)
read_images read table first second =
    read_table_with read table first >>= λ l.
    read l.table.size second >>= λ v.
    answered (record { table = l.table; first = l.word; second = v })

-- REVERSE (6.2)

-- 6.2: N, D and the steps
pub record Fraction : Type 0 where
  pub numerator : Positive
  pub denominator : Positive
  pub steps : ℕ

-- 6.2: what reverse makes of an ending: 13 where the answer area is shorter than N and D together; 10 with the back letter's number before
-- the forward letter's; 11 and 12 without a place
abbrev pub fraction_of : ℕ → Ending → Outcome Fraction
fraction_of area (finished n d k r) = unless (ltb area (length n + length d)) 13 (record { numerator = n; denominator = d; steps = k })
fraction_of area (open_pair a b k) = refused 10 (pair_of a b)
fraction_of area (stopped s) = refused (stop_number s) unplaced

-- 6.2: a program under a table, each as it is read
unfoldable pub reverse : List ℕ → List ℕ → ℕ → ℕ → ℕ → Outcome Fraction
reverse table program budget room area =
    read_table_with read_program table program >>= λ l.
    fraction_of area (reversing l.table budget room l.word)

-- SIZE FIRST, THEN THE ANSWER (6.15, 6.16)

-- 6.2: what is told of a fraction: the lengths of N and D, and the steps
pub record Sizes : Type 0 where
  pub numerator : ℕ
  pub denominator : ℕ
  pub steps : ℕ

abbrev pub sizes : Fraction → Sizes
sizes f = record { numerator = length f.numerator; denominator = length f.denominator; steps = f.steps }

-- 6.15: what enquire makes of an ending: 10, 11 and 12 as reverse
abbrev pub sizes_of : Ending → Outcome Sizes
sizes_of (finished n d k r) = answered (record { numerator = length n; denominator = length d; steps = k })
sizes_of (open_pair a b k) = refused 10 (pair_of a b)
sizes_of (stopped s) = refused (stop_number s) unplaced

-- 6.15: a program under a table, each as it is read
unfoldable pub enquire : List ℕ → List ℕ → ℕ → ℕ → Outcome Sizes
enquire table program budget room =
    read_table_with read_program table program >>= λ l.
    sizes_of (reversing l.table budget room l.word)

-- 6.16: whether the numbers handed in are these, each of the three
abbrev pub agree : Sizes → Sizes → Bool
agree z y = eqb z.numerator y.numerator && (eqb z.denominator y.denominator && eqb z.steps y.steps)

-- 6.16: what commit makes of an ending: as enquire; 18 where the numbers are others; then as reverse
abbrev pub committed_of : Sizes → ℕ → Ending → Outcome Fraction
committed_of z area e = sizes_of e >>= λ y. cond (agree z y) (fraction_of area e) (refused 18 unplaced)

-- 6.16: a program under a table, each as it is read
unfoldable pub commit : List ℕ → List ℕ → ℕ → ℕ → Sizes → ℕ → Outcome Fraction
commit table program budget room z area =
    read_table_with read_program table program >>= λ l.
    committed_of z area (reversing l.table budget room l.word)

-- REVERSE FROM THE FINISHED END (6.12)

-- 6.12: a program under a table that was read: 16 comes before the work; then as reverse
unfoldable pub left_fraction : Presentation → Word → ℕ → ℕ → ℕ → Outcome Fraction
left_fraction T w budget room area = mirror_check T >>= λ ok. fraction_of area (left_reversing T budget room w)

-- 6.12: the tests of both images come before 16
unfoldable pub left_reverse : List ℕ → List ℕ → ℕ → ℕ → ℕ → Outcome Fraction
left_reverse table program budget room area =
    read_table_with read_program table program >>= λ l.
    left_fraction l.table l.word budget room area

-- CLEAR (6.3)

-- 6.3: the table is read, and must clear
unfoldable pub clear : List ℕ → ℕ → ℕ → Outcome (Unit {0})
clear table budget room = read_table table >>= λ T. cleared T budget room

-- CLEAR THE MIRROR (6.13)

-- 6.13: a triple of a table's mirror
abbrev pub in_mirror : Place → Place
in_mirror (triple_of a b c) = mirror_triple_of a b c
in_mirror (mirror_triple_of a b c) = mirror_triple_of a b c
in_mirror (pair_of a b) = pair_of a b
in_mirror the_set = the_set
in_mirror unplaced = unplaced

-- 6.13: the cube check of the mirror: 17 in place of 9, and every triple is one of the mirror
abbrev pub of_mirror : Outcome (Unit {0}) → Outcome (Unit {0})
of_mirror (answered ok) = answered ok
of_mirror (refused n place) = refused (cond (eqb n 9) 17 n) (in_mirror place)

-- 6.13: 16, then 8 with the table's own pair, then the triples of the mirror, in the order of 4.1
unfoldable pub mirror_cleared : Presentation → ℕ → ℕ → Outcome (Unit {0})
mirror_cleared T budget room =
    mirror_check T >>= λ ok.
    weight_check T (pairs T.size) >>= λ ok.
    of_mirror (cube_check (mirror T) budget room (triples T.size))

-- 6.13: the table is read, and its mirror must clear
unfoldable pub mirror_clear : List ℕ → ℕ → ℕ → Outcome (Unit {0})
mirror_clear table budget room = read_table table >>= λ T. mirror_cleared T budget room

-- COMPARE (6.4)

-- 6.4: whether a word has forward letters alone
abbrev pub is_forward : Word → Bool
is_forward [] = true
is_forward (forward a ∷ w) = is_forward w
is_forward (back a ∷ w) = false

-- 6.4: a program is read; refusal 7 where one of its letters is a back letter
unfoldable pub read_forward : ℕ → List ℕ → Outcome Positive
read_forward n bytes = read_program n bytes >>= λ w. unless (not (is_forward w)) 7 (forwards w)

-- 6.4: a verdict, with the steps; same also with how many of them were on two different letters
pub data Verdict : Type 0 where
  same_after : ℕ → ℕ → Verdict
  different_after : ℕ → Verdict

-- 6.4: same if N and D are empty, else different
abbrev pub judged : Positive → Positive → ℕ → ℕ → Verdict
judged [] [] k r = same_after k r
judged [] (x ∷ d) k r = different_after k
judged (x ∷ n) d k r = different_after k

-- 6.4: what an ending comes to; after an open pair different
abbrev pub verdict_of : Ending → Outcome Verdict
verdict_of (finished n d k r) = answered (judged n d k r)
verdict_of (open_pair a b k) = answered (different_after k)
verdict_of (stopped s) = refused (stop_number s) unplaced

-- 6.4: two positive words under a table that has cleared; if their weights differ, different after 0 steps; else they are reversed
abbrev pub forward_verdict : Presentation → Positive → Positive → ℕ → ℕ → Outcome Verdict
forward_verdict T u v budget room =
    cond (eqb (weigh T u) (weigh T v)) (verdict_of (reversing T budget room (negative u ++ positive v))) (answered (different_after 0))

-- 6.4: two positive words under a table that was read and must clear
unfoldable pub comparison : Presentation → Positive → Positive → ℕ → ℕ → Outcome Verdict
comparison T u v budget room =
    cleared T budget room >>= λ ok.
    forward_verdict T u v budget room

-- 6.4: two programs of forward letters under a table, each as it is read
unfoldable pub compare : List ℕ → List ℕ → List ℕ → ℕ → ℕ → Outcome Verdict
compare table first second budget room =
    read_images read_forward table first second >>= λ i.
    comparison i.table i.first i.second budget room

-- CHAIN (6.6)

-- 5.10: the bytes of a chain image with so many entries
abbrev pub chain_bytes : ℕ → ℕ → ℕ
chain_bytes n entries = bytes_for (entry_position n entries)

-- 6.6: refusal 13 after same, where the answer area is shorter than a chain image with an entry for each step on two different letters
abbrev pub listable : ℕ → ℕ → Verdict → Outcome Verdict
listable n area (same_after k r) = unless (ltb area (chain_bytes n r)) 13 (same_after k r)
listable n area (different_after k) = answered (different_after k)

-- 6.6: what is told of a chain: the steps, its entries and the bytes of its image; or that none is listed, with the steps
pub data ChainAnswer : Type 0 where
  listed_after : ℕ → ℕ → ℕ → ChainAnswer
  unlisted_after : ℕ → ChainAnswer

abbrev pub chain_answer : ℕ → Verdict → ChainAnswer
chain_answer n (same_after k r) = listed_after k r (chain_bytes n r)
chain_answer n (different_after k) = unlisted_after k

-- 6.5: the verdict that it tells
abbrev pub verdict_in : ChainAnswer → Verdict
verdict_in (listed_after k r bytes) = same_after k r
verdict_in (unlisted_after k) = different_after k

-- 6.6: as compare; the chain itself stands in the answer area (Areas.antt)
unfoldable pub chain : List ℕ → List ℕ → List ℕ → ℕ → ℕ → ℕ → Outcome ChainAnswer
chain table first second budget room area =
    read_images read_forward table first second >>= λ i.
    mapped (chain_answer i.table.size) (comparison i.table i.first i.second budget room >>= listable i.table.size area)

-- WHAT IS LEFT TO RUN (6.10)

-- 6.10: moves that finish the pattern, or that there are none, with the steps; the moves as letters, or by their number where they are told
pub data Remainder (A : Type 0) : Type 0 where
  moves_after : A → ℕ → Remainder A
  none_after : ℕ → Remainder A

-- 6.10: what an ending comes to: none where D has a letter, and after an open pair; else N, or refusal 13 where the answer area is shorter
abbrev pub remainder_of : ℕ → Ending → Outcome (Remainder Positive)
remainder_of area (finished n [] k r) = unless (ltb area (length n)) 13 (moves_after n k)
remainder_of area (finished n (x ∷ d) k r) = answered (none_after k)
remainder_of area (open_pair a b k) = answered (none_after k)
remainder_of area (stopped s) = refused (stop_number s) unplaced

-- 6.10: u done and v the pattern, under a table that was read and must clear; where v is the lighter, none after 0 steps; else they are reversed
unfoldable pub finishing : Presentation → Positive → Positive → ℕ → ℕ → ℕ → Outcome (Remainder Positive)
finishing T u v budget room area =
    cleared T budget room >>= λ ok.
    cond (ltb (weigh T v) (weigh T u)) (answered (none_after 0)) (remainder_of area (reversing T budget room (negative u ++ positive v)))

-- 6.10: all tests of the done part come before those of the pattern
unfoldable pub remainder : List ℕ → List ℕ → List ℕ → ℕ → ℕ → ℕ → Outcome (Remainder Positive)
remainder table done pattern budget room area =
    read_images read_forward table done pattern >>= λ i.
    finishing i.table i.first i.second budget room area

-- CHECK A CHAIN (6.7)

-- 6.7: the three answers; an entry that breaks has its number, counted from 0
pub data Passage : Type 0 where
  joins : Passage
  breaks : ℕ → Passage
  ends_elsewhere : Passage

-- 6.7: what the entry numbered k comes to: it breaks the chain; refusal 12 where the new word is longer than the workspace; else it goes on
abbrev pub followed_by : ℕ → ℕ → (Positive → Outcome Passage) → Option Positive → Outcome Passage
followed_by room k go none = answered (breaks k)
followed_by room k go (some w) = cond (ltb room (length w)) (refused 12 unplaced) (go w)

-- 6.7: from the word u, with the entries from number k on still to come
unfoldable pub followed : Presentation → ℕ → ℕ → Positive → List Entry → Positive → Outcome Passage
followed T room k u [] v = answered (cond (equal u v) joins ends_elsewhere)
followed T room k u (e ∷ es) v = followed_by room k (λ w. followed T room (suc k) w es v) (applied T u e)

-- 6.7: a chain from u to v; refusal 12 where u is longer than the workspace
abbrev pub passage : Presentation → ℕ → Positive → List Entry → Positive → Outcome Passage
passage T room u es v = cond (ltb room (length u)) (refused 12 unplaced) (followed T room 0 u es v)

-- 6.7: the programs are read before the chain image, and the table need not clear
unfoldable pub check : List ℕ → List ℕ → List ℕ → List ℕ → ℕ → Outcome Passage
check table first second entries room =
    read_images read_forward table first second >>= λ i.
    read_chain i.table.size entries >>= λ es.
    passage i.table room i.first es i.second

-- PACK AND UNPACK (6.8)

-- 6.8: refusal 13 where the answer area is shorter than the bytes
abbrev pub fitted : ℕ → List ℕ → Outcome (List ℕ)
fitted area bytes = unless (ltb area (length bytes)) 13 bytes

-- 6.8: the image of a plain table, and the plain form of an image
unfoldable pub pack_table : List ℕ → ℕ → Outcome (List ℕ)
pack_table plain area = read_plain_table plain >>= λ T. fitted area (table_image T)

unfoldable pub unpack_table : List ℕ → ℕ → Outcome (List ℕ)
unpack_table table area = read_table table >>= λ T. fitted area (plain_table T)

-- 6.8: the program that an image, or a plain form, holds under a table image
abbrev pub program_under : List ℕ → List ℕ → Outcome Word
program_under table program = read_table table >>= λ T. read_program T.size program

abbrev pub plain_program_under : List ℕ → List ℕ → Outcome Word
plain_program_under table plain = read_table table >>= λ T. read_plain_program T.size plain

-- 6.8: the image of a plain program under a table image, and the plain form of an image
unfoldable pub pack_program : List ℕ → List ℕ → ℕ → Outcome (List ℕ)
pack_program table plain area =
    read_table table >>= λ T.
    read_plain_program T.size plain >>= λ w.
    fitted area (program_image T.size w)

unfoldable pub unpack_program : List ℕ → List ℕ → ℕ → Outcome (List ℕ)
unpack_program table program area =
    read_table table >>= λ T.
    read_program T.size program >>= λ w.
    fitted area (plain_program w)
