-- Specification 5.4 to 5.6: table, program and chain images, written and read. Reading refuses by the numbers of 5.3.
use Rattle.std.specs.Prelude.{List, [], ◌∷◌, ◌++◌, cond, ℕ, zero, suc, ◌+◌, ◌-◌, ◌*◌, ◌^◌, leb, eqb, length}
use Rattle.model.specs.Word.{Letter, forward, back, Word, Positive}
use Rattle.model.specs.Presentation.{Presentation, Complement, undefined, complement}
use Rattle.model.specs.Equivalence.{Entry}
use Rattle.model.specs.Enumeration.{concat_map}
use Rattle.model.specs.Outcome.{Outcome, answered, ◌>>=◌, unless}
use Rattle.model.specs.Bits.{Read, field, digits, bits_of, pack, letter_width, finish}

-- FIELD WIDTHS (5.4 to 5.6): of a table's number of letters, a letter's weight, a word's length, a program's count, a chain's count and an entry's offset

abbrev pub size_width : ℕ
size_width = 4

abbrev pub weight_width : ℕ
weight_width = 3

abbrev pub length_width : ℕ
length_width = 4

abbrev pub count_width : ℕ
count_width = 12

abbrev pub chain_count_width : ℕ
chain_count_width = 16

abbrev pub offset_width : ℕ
offset_width = 15

-- WHAT THEY HOLD (1.3): the most letters of a table, how many lengths a completion can have, and the longest

abbrev pub most_size : ℕ
most_size = 2 ^ size_width

abbrev pub word_lengths : ℕ
word_lengths = 2 ^ length_width

abbrev pub most_length : ℕ
most_length = word_lengths - 1

-- WRITING

-- 5.2: a letter's field, one less than its number
abbrev pub letter_bits : ℕ → ℕ → List ℕ
letter_bits n a = digits (letter_width n) (a - 1)

-- 5.4: a completion: its length, then its letters
abbrev pub word_bits : ℕ → Positive → List ℕ
word_bits n x = digits length_width (length x) ++ concat_map (letter_bits n) x

-- 5.4: a pair: 0 if it is open, else 1 and both completions
abbrev pub pair_bits : ℕ → Complement → List ℕ
pair_bits n undefined = 0 ∷ []
pair_bits n (complement x y) = 1 ∷ (word_bits n x ++ word_bits n y)

-- 5.4: a table: n − 1, then the weights, each less 1, then its pairs in order
unfoldable pub table_image : Presentation → List ℕ
table_image T =
    pack (digits size_width (T.size - 1) ++ (concat_map (digits weight_width) T.excess ++ concat_map (concat_map (pair_bits T.size)) T.rows))

-- 5.5: a letter of a program: its sign, 1 if it is a back letter, then its field
abbrev pub signed_bits : ℕ → Letter → List ℕ
signed_bits n (forward a) = 0 ∷ letter_bits n a
signed_bits n (back a) = 1 ∷ letter_bits n a

-- 5.5: a program: how many letters it has, then these
unfoldable pub program_image : ℕ → Word → List ℕ
program_image n w = pack (digits count_width (length w) ++ concat_map (signed_bits n) w)

-- 5.6: how many bits an entry has, where entry number `index` begins, and an entry: its offset, then a and b
abbrev pub entry_width : ℕ → ℕ
entry_width n = offset_width + 2 * letter_width n

abbrev pub entry_position : ℕ → ℕ → ℕ
entry_position n index = chain_count_width + index * entry_width n

abbrev pub entry_bits : ℕ → Entry → List ℕ
entry_bits n e = digits offset_width e.offset ++ (letter_bits n e.a ++ letter_bits n e.b)

-- 5.6: a chain: how many entries it has, then these
unfoldable pub chain_image : ℕ → List Entry → List ℕ
chain_image n es = pack (digits chain_count_width (length es) ++ concat_map (entry_bits n) es)

-- READING

-- 5.3: a letter's field; `wrong` is the refusal where it names no letter
abbrev pub letter_field : ℕ → ℕ → ℕ → List ℕ → Outcome (Read ℕ)
letter_field early wrong n bits =
    field early (letter_width n) bits >>= λ r.
    unless (leb n r.value) wrong (record { value = r.value + 1; rest = r.rest })

-- 5.3: a reader as often as said
abbrev pub several : {A : Type 0} → (List ℕ → Outcome (Read A)) → ℕ → List ℕ → Outcome (Read (List A))
several reader zero input = answered (record { value = []; rest = input })
several reader (suc k) input =
    reader input >>= λ r.
    several reader k r.rest >>= λ rs.
    answered (record { value = r.value ∷ rs.value; rest = rs.rest })

-- 5.4: a completion, both completions of a pair that is not open, and a pair
abbrev pub word_field : ℕ → List ℕ → Outcome (Read Positive)
word_field n bits = field 1 length_width bits >>= λ k. several (letter_field 1 2 n) k.value k.rest

abbrev pub defined_field : ℕ → List ℕ → Outcome (Read Complement)
defined_field n bits =
    word_field n bits >>= λ x.
    word_field n x.rest >>= λ y.
    answered (record { value = complement x.value y.value; rest = y.rest })

abbrev pub pair_field : ℕ → List ℕ → Outcome (Read Complement)
pair_field n bits =
    field 1 1 bits >>= λ bit.
    cond (eqb bit.value 0) (answered (record { value = undefined; rest = bit.rest })) (defined_field n bit.rest)

-- 5.4: the rows of the pairs in order: the first of k - 1 pairs, the next of k - 2, .. down to none
abbrev pub rows_of : {A : Type 0} → (List ℕ → Outcome (Read A)) → ℕ → List ℕ → Outcome (Read (List (List A)))
rows_of reader zero input = answered (record { value = []; rest = input })
rows_of reader (suc k) input =
    several reader k input >>= λ row.
    rows_of reader k row.rest >>= λ rs.
    answered (record { value = row.value ∷ rs.value; rest = rs.rest })

-- 5.3, 5.4: refusal 1 or 2, whichever the reading comes to first, then 3
unfoldable pub read_table : List ℕ → Outcome Presentation
read_table bytes =
    field 1 size_width (bits_of bytes) >>= λ head.
    several (field 1 weight_width) (head.value + 1) head.rest >>= λ ws.
    rows_of (pair_field (head.value + 1)) (head.value + 1) ws.rest >>= λ rs.
    finish 3 (record { value = record { size = head.value + 1; excess = ws.value; rows = rs.value }; rest = rs.rest })

-- 5.5: a letter by its sign bit and its number, and as it is read
abbrev pub signed : ℕ → ℕ → Letter
signed sign a = cond (eqb sign 0) (forward a) (back a)

abbrev pub signed_field : ℕ → List ℕ → Outcome (Read Letter)
signed_field n bits =
    field 4 1 bits >>= λ sign.
    letter_field 4 5 n sign.rest >>= λ a.
    answered (record { value = signed sign.value a.value; rest = a.rest })

-- 5.3, 5.5: refusal 4 or 5, whichever the reading comes to first, then 6, of a program image under a table of n letters
unfoldable pub read_program : ℕ → List ℕ → Outcome Word
read_program n bytes =
    field 4 count_width (bits_of bytes) >>= λ k.
    several (signed_field n) k.value k.rest >>= λ w.
    finish 6 w

-- 5.6: an entry: its offset, then a and b
abbrev pub entry_field : ℕ → List ℕ → Outcome (Read Entry)
entry_field n bits =
    field 4 offset_width bits >>= λ at.
    letter_field 4 5 n at.rest >>= λ a.
    letter_field 4 5 n a.rest >>= λ b.
    answered (record { value = record { offset = at.value; a = a.value; b = b.value }; rest = b.rest })

-- 5.3, 5.6: refusal 4 or 5, whichever the reading comes to first, then 6, of a chain image under a table of n letters
unfoldable pub read_chain : ℕ → List ℕ → Outcome (List Entry)
read_chain n bytes =
    field 4 chain_count_width (bits_of bytes) >>= λ k.
    several (entry_field n) k.value k.rest >>= λ es.
    finish 6 es
