-- Specification 5.7 and 5.8: the plain forms of a table and of a program, which is a byte a letter.
use Rattle.std.specs.Prelude.{List, [], ◌∷◌, ◌++◌, map, Bool, not, ◌&&◌, ◌||◌, cond, ℕ, suc, ◌-◌, ◌%◌, ◌^◌, leb, ltb, eqb, length}
use Rattle.model.specs.Word.{Word, Positive, back_byte, byte, letter}
use Rattle.model.specs.Presentation.{Presentation, Complement, undefined, complement}
use Rattle.model.specs.Enumeration.{concat_map}
use Rattle.model.specs.Outcome.{unplaced, Outcome, answered, refused, ◌>>=◌, unless}
use Rattle.model.specs.Bits.{Read}
use Rattle.model.specs.Images.{weight_width, count_width, most_size, most_length, several, rows_of}

-- 1.3, 5.7: the byte of an open pair, the largest weight of a letter and the most letters of a program
abbrev pub open_byte : ℕ
open_byte = 255

abbrev pub most_weight : ℕ
most_weight = 2 ^ weight_width

abbrev pub most_letters : ℕ
most_letters = 2 ^ count_width - 1

-- WRITING (5.7, 5.8)

-- 5.7: a completion: its length, then its letters; and a pair, open or both completions
abbrev pub plain_word : Positive → List ℕ
plain_word x = length x ∷ x

abbrev pub plain_pair : Complement → List ℕ
plain_pair undefined = open_byte ∷ []
plain_pair (complement x y) = plain_word x ++ plain_word y

-- 5.7: n, the weights, then the pairs in order
unfoldable pub plain_table : Presentation → List ℕ
plain_table T = T.size ∷ (map suc T.excess ++ concat_map (concat_map plain_pair) T.rows)

-- 5.8: a byte a letter
abbrev pub plain_program : Word → List ℕ
plain_program w = map byte w

-- READING

-- 5.7: a byte of a plain table; refusal 1 where none is left
abbrev pub next_byte : List ℕ → Outcome (Read ℕ)
next_byte [] = refused 1 unplaced
next_byte (x ∷ xs) = answered (record { value = x; rest = xs })

-- 5.7: a letter of a word; refusal 2 where its byte is not 1 to n
abbrev pub plain_letter : ℕ → List ℕ → Outcome (Read ℕ)
plain_letter n input = next_byte input >>= λ r. unless (ltb r.value 1 || ltb n r.value) 2 r

-- 5.7: a weight, less 1; refusal 2 where its byte is not 1 to 8, as that of a letter among 8
abbrev pub plain_weight : List ℕ → Outcome (Read ℕ)
plain_weight input = plain_letter most_weight input >>= λ r. answered (record { value = r.value - 1; rest = r.rest })

-- 5.7: a word whose length byte was read; refusal 2 where that is above 15
abbrev pub plain_letters : ℕ → ℕ → List ℕ → Outcome (Read Positive)
plain_letters n k input = unless (ltb most_length k) 2 k >>= λ k. several (plain_letter n) k input

-- 5.7: a pair that is not open, and whose first length byte was read
abbrev pub plain_defined : ℕ → ℕ → List ℕ → Outcome (Read Complement)
plain_defined n k input =
    plain_letters n k input >>= λ x.
    next_byte x.rest >>= λ j.
    plain_letters n j.value j.rest >>= λ y.
    answered (record { value = complement x.value y.value; rest = y.rest })

-- 5.7: a pair, open or not
abbrev pub plain_pair_at : ℕ → List ℕ → Outcome (Read Complement)
plain_pair_at n input =
    next_byte input >>= λ k.
    cond (eqb k.value open_byte) (answered (record { value = undefined; rest = k.rest })) (plain_defined n k.value k.rest)

-- 5.7: refusal 1 or 2, whichever the reading comes to first, then 3 where bytes are left; also 2 where n is not 1 to 16
unfoldable pub read_plain_table : List ℕ → Outcome Presentation
read_plain_table bytes =
    next_byte bytes >>= λ n.
    unless (ltb n.value 1 || ltb most_size n.value) 2 n >>= λ n.
    several plain_weight n.value n.rest >>= λ ws.
    rows_of (plain_pair_at n.value) n.value ws.rest >>= λ rs.
    unless (ltb 0 (length rs.rest)) 3 (record { size = n.value; excess = ws.value; rows = rs.value })

-- 5.8: a byte that names a letter, forward or back
abbrev pub names_letter : ℕ → ℕ → Bool
names_letter n x = leb 1 (x % back_byte) && leb (x % back_byte) n

-- 5.8: refusal 5 at a byte that names no letter
abbrev pub plain_letters_signed : ℕ → List ℕ → Outcome Word
plain_letters_signed n [] = answered []
plain_letters_signed n (x ∷ xs) =
    unless (not (names_letter n x)) 5 (letter x) >>= λ a.
    plain_letters_signed n xs >>= λ w.
    answered (a ∷ w)

-- 5.8: refusal 4 where there are more than 4,095 bytes, before any of them is looked at
unfoldable pub read_plain_program : ℕ → List ℕ → Outcome Word
read_plain_program n bytes = unless (ltb most_letters (length bytes)) 4 bytes >>= plain_letters_signed n
