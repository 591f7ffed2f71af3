-- What the readers keep of what they read: how many moves it means, the highest number in it, and the text after it.
use Rattle.std.specs.Prelude.{List, [], ◌∷◌, Bool, true, false, cond, ◌≡◌, ℕ, zero, suc, ◌+◌, ◌*◌, ltb, eqb, drop, Option, Some, None}
use Rattle.std.proofs.Math.Option.{Option as Maybe, none, some}
use Rattle.model.specs.Outcome.{Outcome, answered, ◌>>=◌, mapped}
use Rattle.model.specs.Bits.{Read}
use Rattle.model.specs.Plain.{most_letters}
use Rattle.model.specs.Notation.{Pattern, Item, Body, moves, item_moves, body_moves, larger, highest, item_highest, body_highest, closing_byte, no_pattern}
use Rattle.model.specs.Notation.{is_digit}
use Rattle.model.specs.Notation.{read_count, read_pattern}
use Rattle.importing.specs.declared.numbers.Number.{Number}
use Rattle.importing.specs.declared.reading.Span.{Span}

-- what a test says of a text's first byte, or `empty` where there is no byte
abbrev pub first : (ℕ → Bool) → Bool → List ℕ → Bool
first test empty [] = empty
first test empty (x ∷ xs) = test x

-- whether a text begins with the byte; with a digit; with no item
abbrev pub stands_first : ℕ → List ℕ → Bool
stands_first byte = first (λ x. eqb x byte) false

abbrev pub digit_first : List ℕ → Bool
digit_first = first is_digit false

abbrev pub ends_first : List ℕ → Bool
ends_first = first (λ x. eqb x closing_byte) true

-- a number that was read
abbrev pub number_stated : List ℕ → Option Number → Outcome (Read ℕ)
number_stated text (Some number) = answered (record { value = number.value; rest = drop number.next text })
number_stated text None = no_pattern

-- a number of moves, not counted on once it is more than a program has
abbrev pub capped : ℕ → ℕ
capped m = cond (ltb most_letters m) (suc most_letters) m

pub record Kept : Type 0 where
  pub moves : ℕ
  pub highest : ℕ
  pub rest : List ℕ

abbrev pub kept_of : {A : Type 0} → (A → ℕ) → (A → ℕ) → Outcome (Read A) → Outcome Kept
kept_of moves highest o = mapped (λ r. record { moves = capped (moves r.value); highest = highest r.value; rest = r.rest }) o

abbrev pub kept_body : Outcome (Read Body) → Outcome Kept
kept_body = kept_of body_moves body_highest

abbrev pub kept_item : Outcome (Read Item) → Outcome Kept
kept_item = kept_of item_moves item_highest

abbrev pub kept_pattern : Outcome (Read Pattern) → Outcome Kept
kept_pattern = kept_of moves highest

-- what the code says of a reading
abbrev pub kept : List ℕ → Span → Kept
kept text s = record { moves = s.moves; highest = s.highest; rest = drop s.next text }

abbrev pub spanned : List ℕ → Option Span → Outcome Kept
spanned text (Some s) = answered (kept text s)
spanned text None = no_pattern

-- a bracket whose pattern was read closes
abbrev pub closed : Kept → Outcome Kept
closed k = cond (stands_first closing_byte k.rest) (answered (record { moves = k.moves; highest = k.highest; rest = drop 1 k.rest })) no_pattern

abbrev pub closing : Outcome Kept → Outcome Kept
closing o = o >>= closed

-- a body that was read, with its count
abbrev pub times_kept : Maybe ℕ → ℕ → ℕ
times_kept none m = m
times_kept (some c) m = capped (c * m)

abbrev pub counted : Kept → Outcome Kept
counted k = read_count k.rest >>= λ c. answered (record { moves = times_kept c.value k.moves; highest = k.highest; rest = c.rest })

abbrev pub counting : Outcome Kept → Outcome Kept
counting o = o >>= counted

-- what was read so far, and an item after it
pub record Joined (sum item both : Span) : Type 0 where
  pub next : both.next ≡ item.next
  pub moves : both.moves ≡ capped (sum.moves + item.moves)
  pub highest : both.highest ≡ larger sum.highest item.highest

-- what reads the pattern in a bracket, where brackets may nest so deep
abbrev pub within : ℕ → List ℕ → Outcome (Read Pattern)
within zero text = no_pattern
within (suc d) text = read_pattern d text
