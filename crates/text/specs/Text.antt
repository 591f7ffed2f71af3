-- Specification 9.2 to 9.4: the bench reader's output, byte for byte.
use Rattle.std.specs.Prelude.{List, [], ◌∷◌, ◌++◌, cond, ℕ, ◌+◌, ◌/◌, ◌%◌, ltb}
use Rattle.model.specs.Word.{Letter, forward, back, Word, Positive, letter}
use Rattle.model.specs.Enumeration.{concat_map}
use Rattle.model.specs.Outcome.{place_numbers, Outcome, answered, refused, ◌>>=◌}
use Rattle.model.specs.Images.{read_program}
use Rattle.model.specs.Services.{read_table_with, reverse}

-- CHARACTERS, as ASCII has them

abbrev pub newline : ℕ
newline = 10

abbrev pub space : ℕ
space = 32

abbrev pub minus : ℕ
minus = 45

abbrev pub zero_digit : ℕ
zero_digit = 48

abbrev pub moves_label : List ℕ
moves_label = 109 ∷ 111 ∷ 118 ∷ 101 ∷ 115 ∷ []

abbrev pub program_label : List ℕ
program_label = 112 ∷ 114 ∷ 111 ∷ 103 ∷ 114 ∷ 97 ∷ 109 ∷ []

abbrev pub numerator_label : List ℕ
numerator_label = 110 ∷ 117 ∷ 109 ∷ 101 ∷ 114 ∷ 97 ∷ 116 ∷ 111 ∷ 114 ∷ []

abbrev pub denominator_label : List ℕ
denominator_label = 100 ∷ 101 ∷ 110 ∷ 111 ∷ 109 ∷ 105 ∷ 110 ∷ 97 ∷ 116 ∷ 111 ∷ 114 ∷ []

abbrev pub steps_label : List ℕ
steps_label = 115 ∷ 116 ∷ 101 ∷ 112 ∷ 115 ∷ []

abbrev pub refused_label : List ℕ
refused_label = 114 ∷ 101 ∷ 102 ∷ 117 ∷ 115 ∷ 101 ∷ 100 ∷ []

-- NUMBERS AND WORDS

-- 9.3: the digit of a power of ten; none where the number is below that power, so that no zero leads
abbrev pub digit : ℕ → ℕ → List ℕ
digit power x = cond (ltb x power) [] ((zero_digit + (x / power) % 10) ∷ [])

-- 9.3: a number of at most five digits, in decimal
unfoldable pub number : ℕ → List ℕ
number x = digit 10000 x ++ (digit 1000 x ++ (digit 100 x ++ (digit 10 x ++ ((zero_digit + x % 10) ∷ []))))

-- 9.3: one space before each number
abbrev pub spaced_number : ℕ → List ℕ
spaced_number a = space ∷ number a

unfoldable pub numbers_text : List ℕ → List ℕ
numbers_text ns = concat_map spaced_number ns

-- 9.3: one space before each move, and a minus before the number of a back one
abbrev pub letter_text : Letter → List ℕ
letter_text (forward a) = spaced_number a
letter_text (back a) = space ∷ minus ∷ number a

unfoldable pub word_text : Word → List ℕ
word_text w = concat_map letter_text w

-- 9.3: the same of a word in bytes
unfoldable pub bytes_text : List ℕ → List ℕ
bytes_text bytes = concat_map (λ x. letter_text (letter x)) bytes

-- LINES

-- 9.3: a label, what follows it, which is nothing for an empty word, and a newline
abbrev pub line : List ℕ → List ℕ → List ℕ
line label text = label ++ (text ++ (newline ∷ []))

unfoldable pub answer_text : ℕ → List ℕ → Positive → Positive → ℕ → List ℕ
answer_text n program numerator denominator steps =
    line moves_label (spaced_number n)
    ++ (line program_label program
    ++ (line numerator_label (numbers_text numerator)
    ++ (line denominator_label (numbers_text denominator)
    ++ line steps_label (spaced_number steps))))

-- 9.3, 9.4: the lines of an answer, or the line of a refusal: its number and the numbers of its place
abbrev pub outcome_text : Outcome (List ℕ) → List ℕ
outcome_text (answered text) = text
outcome_text (refused n place) = line refused_label (numbers_text (n ∷ place_numbers place))

-- 9.2: the program reversed with the reader's allowance and areas
abbrev pub reading : List ℕ → List ℕ → Outcome (List ℕ)
reading table program =
    read_table_with read_program table program >>= λ l.
    reverse table program 65535 32768 32768 >>= λ f.
    answered (answer_text l.table.size (word_text l.word) f.numerator f.denominator f.steps)

-- 9.2: what the reader writes of a table image and a program image
unfoldable pub report : List ℕ → List ℕ → List ℕ
report table program = outcome_text (reading table program)
