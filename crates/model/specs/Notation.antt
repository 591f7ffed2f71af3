-- Specification 6.17: patterns as they are written: their trees, the text of a tree, the moves that it means, and the reading of a text.
use Rattle.std.specs.Prelude.{List, [], ◌∷◌, ◌++◌, Bool, true, false, ◌&&◌, cond, ℕ, zero, suc, ◌+◌, ◌-◌, ◌*◌, ◌/◌, ◌%◌, ◌≤◌, leb, ltb, eqb, length}
use Rattle.std.proofs.Math.Option.{Option, none, some}
use Rattle.model.specs.Word.{forward, Word, inverse}
use Rattle.model.specs.Outcome.{unplaced, Outcome, answered, refused, ◌>>=◌, unless}
use Rattle.model.specs.Bits.{Read}
use Rattle.model.specs.Range.{InRange}
use Rattle.model.specs.Images.{read_table}
use Rattle.model.specs.Plain.{most_letters}

-- TREES

mutual
  -- nothing, or an item and what follows it
  pub data Pattern : Type 0 where
    nothing : Pattern
    ◌then◌ : Item → Pattern → Pattern

  -- whether a minus is written before it, what it is of, and the count after it where one is written
  pub data Item : Type 0 where
    item : Bool → Body → Option ℕ → Item

  -- a move by its number, or a bracket
  pub data Body : Type 0 where
    move : ℕ → Body
    bracket : Pattern → Body

infixr 20 ◌then◌
-- the largest move number and count, and how deep brackets nest
abbrev pub most_number : ℕ
most_number = 99

abbrev pub most_nested : ℕ
most_nested = 8

abbrev pub CountInRange : Option ℕ → Type 0
CountInRange none = Unit {0}
CountInRange (some k) = k ≤ most_number

-- numbers and counts are in range, and brackets nest at most d deep
abbrev mutual
  pub PatternInRange : Pattern → ℕ → Type 0
  PatternInRange nothing d = Unit {0}
  PatternInRange (i then p) d = ItemInRange i d × PatternInRange p d

  pub ItemInRange : Item → ℕ → Type 0
  ItemInRange (item minus b count) d = BodyInRange b d × CountInRange count

  pub BodyInRange : Body → ℕ → Type 0
  BodyInRange (move a) d = InRange most_number a
  BodyInRange (bracket p) zero = ⊥
  BodyInRange (bracket p) (suc d) = PatternInRange p d

-- WHAT A TREE MEANS

-- a word so many times
abbrev pub repeated : ℕ → Word → Word
repeated zero w = []
repeated (suc k) w = w ++ repeated k w

-- how often: once where no count is written
abbrev pub times : Option ℕ → ℕ
times none = 1
times (some k) = k

-- a word, or its undoing where a minus is written
abbrev pub undone : Bool → Word → Word
undone true w = inverse w
undone false w = w

-- the moves: of an item first its count acts, then its minus
abbrev mutual
  pub meaning : Pattern → Word
  meaning nothing = []
  meaning (i then p) = item_meaning i ++ meaning p

  pub item_meaning : Item → Word
  item_meaning (item minus b count) = undone minus (repeated (times count) (body_meaning b))

  pub body_meaning : Body → Word
  body_meaning (move a) = forward a ∷ []
  body_meaning (bracket p) = meaning p

-- how many they are, without listing them
abbrev mutual
  pub moves : Pattern → ℕ
  moves nothing = 0
  moves (i then p) = item_moves i + moves p

  pub item_moves : Item → ℕ
  item_moves (item minus b count) = times count * body_moves b

  pub body_moves : Body → ℕ
  body_moves (move a) = 1
  body_moves (bracket p) = moves p

-- the larger of two numbers
abbrev pub larger : ℕ → ℕ → ℕ
larger a b = cond (ltb a b) b a

-- the largest move number that is written, 0 where none is; counts play no part
abbrev mutual
  pub highest : Pattern → ℕ
  highest nothing = 0
  highest (i then p) = larger (item_highest i) (highest p)

  pub item_highest : Item → ℕ
  item_highest (item minus b count) = body_highest b

  pub body_highest : Body → ℕ
  body_highest (move a) = a
  body_highest (bracket p) = highest p

-- HOW A TREE IS WRITTEN

-- the bytes of the notation, in ASCII
abbrev pub space_byte : ℕ
space_byte = 32

abbrev pub opening_byte : ℕ
opening_byte = 40

abbrev pub closing_byte : ℕ
closing_byte = 41

abbrev pub minus_byte : ℕ
minus_byte = 45

abbrev pub zero_byte : ℕ
zero_byte = 48

abbrev pub count_byte : ℕ
count_byte = 94

-- a number below 100 in decimal, without a leading zero
abbrev pub decimal : ℕ → List ℕ
decimal a = cond (ltb a 10) ((zero_byte + a) ∷ []) ((zero_byte + a / 10) ∷ (zero_byte + a % 10) ∷ [])

abbrev pub minus_text : Bool → List ℕ
minus_text true = minus_byte ∷ []
minus_text false = []

abbrev pub count_text : Option ℕ → List ℕ
count_text none = []
count_text (some k) = count_byte ∷ decimal k

-- the text of a tree: one space between its items
abbrev mutual
  pub pattern_text : Pattern → List ℕ
  pattern_text nothing = []
  pattern_text (i then p) = item_text i ++ text_after p

  pub text_after : Pattern → List ℕ
  text_after nothing = []
  text_after (i then p) = space_byte ∷ (item_text i ++ text_after p)

  pub item_text : Item → List ℕ
  item_text (item minus b count) = minus_text minus ++ (body_text b ++ count_text count)

  pub body_text : Body → List ℕ
  body_text (move a) = decimal a
  body_text (bracket p) = opening_byte ∷ (pattern_text p ++ (closing_byte ∷ []))

-- READING

-- refusal 19: no pattern
abbrev pub no_pattern : {A : Type 0} → Outcome A
no_pattern = refused 19 unplaced

-- whether a byte is a digit
abbrev pub is_digit : ℕ → Bool
is_digit x = leb zero_byte x && leb x (zero_byte + 9)

-- a number whose first digit, not 0, was read: the second digit where one follows
abbrev pub second_digit : ℕ → List ℕ → Read ℕ
second_digit a [] = record { value = a; rest = [] }
second_digit a (x ∷ xs) = cond (is_digit x) (record { value = 10 * a + (x - zero_byte); rest = xs }) (record { value = a; rest = x ∷ xs })

-- a number of 0 to 99; after a 0 and after two digits it ends
abbrev pub read_number : List ℕ → Outcome (Read ℕ)
read_number [] = no_pattern
read_number (x ∷ xs) =
    cond (is_digit x) (answered (cond (eqb x zero_byte) (record { value = 0; rest = xs }) (second_digit (x - zero_byte) xs))) no_pattern

-- a minus where one stands
abbrev pub read_minus : List ℕ → Read Bool
read_minus [] = record { value = false; rest = [] }
read_minus (x ∷ xs) = cond (eqb x minus_byte) (record { value = true; rest = xs }) (record { value = false; rest = x ∷ xs })

-- a count where one stands
abbrev pub read_count : List ℕ → Outcome (Read (Option ℕ))
read_count [] = answered (record { value = none; rest = [] })
read_count (x ∷ xs) =
    cond (eqb x count_byte)
    (read_number xs >>= λ k. answered (record { value = some k.value; rest = k.rest }))
    (answered (record { value = none; rest = x ∷ xs }))

-- a move: 0 is none
abbrev pub read_move : List ℕ → Outcome (Read Body)
read_move text = read_number text >>= λ a. unless (eqb a.value 0) 19 (record { value = move a.value; rest = a.rest })

-- the end of a bracket whose pattern was read
abbrev pub read_close : Pattern → List ℕ → Outcome (Read Body)
read_close p [] = no_pattern
read_close p (x ∷ xs) = cond (eqb x closing_byte) (answered (record { value = bracket p; rest = xs })) no_pattern

-- a move or a bracket; `within` reads what a bracket holds
abbrev pub read_body : (List ℕ → Outcome (Read Pattern)) → List ℕ → Outcome (Read Body)
read_body within [] = no_pattern
read_body within (x ∷ xs) = cond (eqb x opening_byte) (within xs >>= λ p. read_close p.value p.rest) (read_move (x ∷ xs))

unfoldable pub read_item : (List ℕ → Outcome (Read Pattern)) → List ℕ → Outcome (Read Item)
read_item within text =
    read_body within (read_minus text).rest >>= λ b.
    read_count b.rest >>= λ k.
    answered (record { value = item (read_minus text).value b.value k.value; rest = k.rest })

-- an item was read: after a space `more` are read, else the pattern ends
abbrev pub read_on : (List ℕ → Outcome (Read Pattern)) → Item → List ℕ → Outcome (Read Pattern)
read_on more i [] = answered (record { value = i then nothing; rest = [] })
read_on more i (x ∷ xs) =
    cond (eqb x space_byte)
    (more xs >>= λ p. answered (record { value = i then p.value; rest = p.rest }))
    (answered (record { value = i then nothing; rest = x ∷ xs }))

-- items, one at least and at most so many: as many as the text has bytes are all
unfoldable pub read_items : (List ℕ → Outcome (Read Pattern)) → ℕ → List ℕ → Outcome (Read Pattern)
read_items within zero text = no_pattern
read_items within (suc k) text = read_item within text >>= λ i. read_on (read_items within k) i.value i.rest

-- a pattern: nothing where the text or a bracket ends
abbrev pub read_in : (List ℕ → Outcome (Read Pattern)) → List ℕ → Outcome (Read Pattern)
read_in within [] = answered (record { value = nothing; rest = [] })
read_in within (x ∷ xs) =
    cond (eqb x closing_byte) (answered (record { value = nothing; rest = x ∷ xs })) (read_items within (suc (length xs)) (x ∷ xs))

-- a pattern whose brackets nest at most d deep
unfoldable pub read_pattern : ℕ → List ℕ → Outcome (Read Pattern)
read_pattern zero text = read_in (λ inner. no_pattern) text
read_pattern (suc d) text = read_in (read_pattern d) text

-- a whole text
unfoldable pub read_text : List ℕ → Outcome Pattern
read_text text = read_pattern most_nested text >>= λ p. unless (ltb 0 (length p.rest)) 19 p.value

-- IMPORT

-- the moves of a pattern: 5 where a move is none of n, 20 where they are more than a program has, 13 where the answer area is shorter
unfoldable pub imported : ℕ → Pattern → ℕ → Outcome Word
imported n p area =
    unless (ltb n (highest p)) 5 p >>= λ p.
    unless (ltb most_letters (moves p)) 20 p >>= λ p.
    unless (ltb area (moves p)) 13 (meaning p)

unfoldable pub import : List ℕ → List ℕ → ℕ → Outcome Word
import table text area =
    read_table table >>= λ T.
    read_text text >>= λ p.
    imported T.size p area
