-- The reader of patterns (specification 6.17) reads the text of every tree in range as that tree.
-- It is shown of each reader in turn, with any text behind what it reads that may stand there.
-- From the definitions, and how numbers are written (Digits.antt). Main name: `text_read`.
use mathlib.Core.Path.{◌≡◌, refl, sym, ap, subst, ◌∙◌}
use mathlib.Core.Logic.{◌⊎◌, inl, inr}
use mathlib.Core.List.{List, [], ◌∷◌, ◌++◌, append_assoc, append-nil}
use mathlib.Core.Bool.{Bool, true, false}
use mathlib.Core.Option.{Option, none, some}
use Prim.Native.Nat.{ℕ, zero, suc, ◌+◌, ◌-◌, ◌*◌, ◌≤◌, ◌<◌}
use native.Mathlib.Omega.{arith}
use lib.Dec.{ltb, eqb}
use lib.ListN.{length, length-append}
use borrow.Author.Tests.{ne_eqb}
use Rattle.model.specs.Outcome.{Outcome, answered, ◌>>=◌, unless}
use Rattle.model.specs.Bits.{Read}
use Rattle.model.specs.Notation.{Pattern, nothing, ◌then◌, Item, item, Body, move, bracket, most_number, most_nested, CountInRange, PatternInRange, ItemInRange}
use Rattle.model.specs.Notation.{BodyInRange, space_byte, opening_byte, closing_byte, minus_byte, zero_byte, decimal, minus_text, count_text, pattern_text}
use Rattle.model.specs.Notation.{text_after}
use Rattle.model.specs.Notation.{item_text, body_text, no_pattern, is_digit, second_digit, read_number, read_minus, read_count, read_move, read_close}
use Rattle.model.specs.Notation.{read_body, read_item}
use Rattle.model.specs.Notation.{read_on, read_items, read_in, read_pattern, read_text}
use Rattle.theory.proofs.Digits.{digit_from, digit_is, decimal_one, decimal_two, Digits, one_digit, two_digits, digits_of, DigitFirst, digit_first}

-- WHAT MAY FOLLOW

-- no digit follows a number
abbrev AfterNumber : List ℕ → Type 0
AfterNumber [] = Unit {0}
AfterNumber (x ∷ rest) = is_digit x ≡ false

-- nothing, a space or the end of a bracket follows an item
abbrev AfterItem : List ℕ → Type 0
AfterItem [] = Unit {0}
AfterItem (x ∷ rest) = (x ≡ space_byte) ⊎ (x ≡ closing_byte)

-- nothing or the end of a bracket follows a pattern
abbrev AfterPattern : List ℕ → Type 0
AfterPattern [] = Unit {0}
AfterPattern (x ∷ rest) = x ≡ closing_byte

-- what may follow a pattern may follow its last item
after_last_item : (rest : List ℕ) → AfterPattern rest → AfterItem rest
after_last_item [] f = tt
after_last_item (x ∷ rest) e = inr e

-- what may follow an item may follow a number at its end
after_last_number : (rest : List ℕ) → AfterItem rest → AfterNumber rest
after_last_number [] f = tt
after_last_number (x ∷ rest) (inl e) = ap is_digit e
after_last_number (x ∷ rest) (inr e) = ap is_digit e

-- what may follow an item, behind the count, may follow the body
after_body : (count : Option ℕ) (rest : List ℕ) → AfterItem rest → AfterNumber (count_text count ++ rest)
after_body none rest f = after_last_number rest f
after_body (some k) rest f = refl

-- WRITTEN, THEN READ: NUMBERS AND COUNTS

-- the answer of a reader that read x and left the rest
abbrev pub read : {A : Type 0} → A → List ℕ → Outcome (Read A)
read x rest = answered (record { value = x; rest = rest })

-- after a first digit that is not 0, a second is looked for
first_digit_read : (x : ℕ) (xs : List ℕ) → is_digit x ≡ true → eqb x zero_byte ≡ false → read_number (x ∷ xs) ≡ answered (second_digit (x - zero_byte) xs)
first_digit_read x xs d e = rw (d, e)

-- where no digit follows, there is none
second_none : (a : ℕ) (rest : List ℕ) → AfterNumber rest → second_digit a rest ≡ record { value = a; rest = rest }
second_none a [] f = refl
second_none a (x ∷ rest) f = rw f

-- where one follows, it is the second
second_digit_lem : (a x : ℕ) (rest : List ℕ) → is_digit x ≡ true → second_digit a (x ∷ rest) ≡ record { value = 10 * a + (x - zero_byte); rest = rest }
second_digit_lem a x rest d = rw d

-- a number of one digit is read as it was written
one_read : (a : ℕ) (rest : List ℕ) → a < 10 → AfterNumber rest → read_number ((zero_byte + a) ∷ rest) ≡ read a rest
one_read zero rest h f = refl
one_read (suc a) rest h f =
    let x = zero_byte + suc a in
    let same : x - zero_byte ≡ suc a = omega arith in
    first_digit_read x rest (digit_is x (omega arith) (omega arith)) (ne_eqb x zero_byte (λ e. omega arith))
    ∙ ap answered (second_none (x - zero_byte) rest f ∙ ap (λ b. record { value = b; rest = rest }) same)

-- so is one of two digits
two_read : (t u : ℕ) (rest : List ℕ) → 1 ≤ t → t < 10 → u < 10 → read_number ((zero_byte + t) ∷ (zero_byte + u) ∷ rest) ≡ read (10 * t + u) rest
two_read t u rest p l m =
    let x = zero_byte + t in
    let y = zero_byte + u in
    let same : 10 * (x - zero_byte) + (y - zero_byte) ≡ 10 * t + u = omega arith in
    let second = second_digit_lem (x - zero_byte) y rest (digit_is y (omega arith) (omega arith)) in
    first_digit_read x (y ∷ rest) (digit_is x (omega arith) (omega arith)) (ne_eqb x zero_byte (λ e. omega arith))
    ∙ ap answered (second ∙ ap (λ b. record { value = b; rest = rest }) same)

-- so is every number in range
number_read : (a : ℕ) (rest : List ℕ) → a ≤ most_number → AfterNumber rest → read_number (decimal a ++ rest) ≡ read a rest
number_read a rest h f = go (digits_of a h)
  where
    go : Digits a → read_number (decimal a ++ rest) ≡ read a rest
    go (one_digit l) = ap (λ text. read_number (text ++ rest)) (decimal_one a l) ∙ one_read a rest l f
    go (two_digits t u p l m e) =
        ap (λ text. read_number (text ++ rest)) (ap decimal e ∙ decimal_two t u p m) ∙ (two_read t u rest p l m ∙ ap (λ b. read b rest) (sym e))

-- so is every count in range
count_read : (count : Option ℕ) (rest : List ℕ) → CountInRange count → AfterItem rest → read_count (count_text count ++ rest) ≡ read count rest
count_read none [] h f = refl
count_read none (x ∷ rest) h (inl e) = rw e
count_read none (x ∷ rest) h (inr e) = rw e
count_read (some k) rest h f = rw (number_read k rest h (after_last_number rest f))

-- WRITTEN, THEN READ: TREES

-- what reads the patterns of brackets where they may nest d deep
abbrev pub inside : ℕ → List ℕ → Outcome (Read Pattern)
inside zero text = no_pattern
inside (suc d) text = read_pattern d text

-- a pattern is read with it
pub pattern_by_inside : (d : ℕ) (text : List ℕ) → read_pattern d text ≡ read_in (inside d) text
unfolding read_pattern
pattern_by_inside zero text = refl
pattern_by_inside (suc d) text = refl

-- a body is read as it was written, where it is in range
abbrev BodyRead : Body → Type 0
BodyRead b = (d : ℕ) → BodyInRange b d → (rest : List ℕ) → AfterNumber rest → read_body (inside d) (body_text b ++ rest) ≡ read b rest

-- an item is
abbrev ItemRead : Item → Type 0
ItemRead i = (d : ℕ) → ItemInRange i d → (rest : List ℕ) → AfterItem rest → read_item (inside d) (item_text i ++ rest) ≡ read i rest

-- a pattern is
abbrev PatternRead : Pattern → Type 0
PatternRead p = (d : ℕ) → PatternInRange p d → (rest : List ℕ) → AfterPattern rest → read_pattern d (pattern_text p ++ rest) ≡ read p rest

-- the items of a pattern are, if at least as many may be read as the text has bytes
abbrev ItemsRead : Pattern → Type 0
ItemsRead nothing = Unit {0}
ItemsRead (i then p) =
    (d k : ℕ) → PatternInRange (i then p) d → (rest : List ℕ) → AfterPattern rest → length (item_text i ++ (text_after p ++ rest)) ≤ k
    → read_items (inside d) k (item_text i ++ (text_after p ++ rest)) ≡ read (i then p) rest

-- the first byte of a text is not the end of a bracket
record Begins (text : List ℕ) : Type 0 where
  first : ℕ
  others : List ℕ
  written : text ≡ first ∷ others
  no_end : eqb first closing_byte ≡ false

-- nor is it a minus
record BeginsUnsigned (text : List ℕ) : Type 0 where
  begins : Begins text
  no_minus : eqb begins.first minus_byte ≡ false

-- the text of a body begins so
body_begins : (b : Body) (d : ℕ) → BodyInRange b d → BeginsUnsigned (body_text b)
body_begins (move a) d h = at (digit_first a h.high)
  where
    at : DigitFirst a → BeginsUnsigned (decimal a)
    at s =
        let x = s.first in
        let digit = digit_from x s.digit in
        record {
          begins = record { first = x; others = s.others; written = s.written; no_end = ne_eqb x closing_byte (λ e. omega arith) };
          no_minus = ne_eqb x minus_byte (λ e. omega arith);
        }
body_begins (bracket p) d h =
    record { begins = record { first = opening_byte; others = pattern_text p ++ (closing_byte ∷ []); written = refl; no_end = refl }; no_minus = refl }

-- the text of an item begins with a minus, or as its body
item_begins : (i : Item) (d : ℕ) → ItemInRange i d → Begins (item_text i)
item_begins (item true b count) d h = record { first = minus_byte; others = body_text b ++ count_text count; written = refl; no_end = refl }
item_begins (item false b count) d h =
    let s = (body_begins b d h.0).begins in
    record { first = s.first; others = s.others ++ count_text count; written = ap (λ text. text ++ count_text count) s.written; no_end = s.no_end }

-- before such a text a minus is read just where it stands
minus_read : (minus : Bool) (text rest : List ℕ) → BeginsUnsigned text
    → read_minus (minus_text minus ++ (text ++ rest)) ≡ record { value = minus; rest = text ++ rest }
minus_read true text rest s = refl
minus_read false text rest s =
    let behind = s.begins.first ∷ (s.begins.others ++ rest) in
    let unsigned : read_minus behind ≡ record { value = false; rest = behind } = rw s.no_minus in
    subst (λ t. read_minus (t ++ rest) ≡ record { value = false; rest = t ++ rest }) (sym s.begins.written) unsigned

-- a move is read as it was written
move_read : (a : ℕ) → BodyRead (move a)
move_read a d h rest f = at (digit_first a h.high)
  where
    moved : Read Body
    moved = record { value = move a; rest = rest }

    at : DigitFirst a → read_body (inside d) (decimal a ++ rest) ≡ read (move a) rest
    at s =
        let x = s.first in
        let behind = x ∷ (s.others ++ rest) in
        let digit = digit_from x s.digit in
        let low = h.low in
        let other : eqb x opening_byte ≡ false = ne_eqb x opening_byte (λ e. omega arith) in
        let begun : read_body (inside d) behind ≡ read_move behind = rw other in
        let same : read_body (inside d) (decimal a ++ rest) ≡ read_move (decimal a ++ rest) =
        subst (λ t. read_body (inside d) (t ++ rest) ≡ read_move (t ++ rest)) (sym s.written) begun in
        let number : read_move (decimal a ++ rest) ≡ unless (eqb a 0) 19 moved = rw (number_read a rest h.high f) in
        same ∙ (number ∙ ap (λ b. unless b 19 moved) (ne_eqb a 0 (λ e. omega arith)))

-- a bracket is, if its pattern is
bracket_read : (p : Pattern) → PatternRead p → BodyRead (bracket p)
bracket_read p r zero h rest f = absurd h
bracket_read p r (suc d) h rest f =
    ap (λ text. read_pattern d text >>= λ q. read_close q.value q.rest) (append_assoc (pattern_text p) (closing_byte ∷ []) rest)
    ∙ ap (λ o. o >>= λ q. read_close q.value q.rest) (r d h (closing_byte ∷ rest) refl)

-- an item is, if its body is
item_by_body : (minus : Bool) (b : Body) (count : Option ℕ) → BodyRead b → ItemRead (item minus b count)
unfolding read_item
item_by_body minus b count r d h rest f =
    let behind = count_text count ++ rest in
    let grouped : item_text (item minus b count) ++ rest ≡ minus_text minus ++ (body_text b ++ behind) = simp append_assoc in
    let sign = minus_read minus (body_text b) behind (body_begins b d h.0) in
    let body = r d h.0 behind (after_body count rest f) in
    let number = count_read count rest h.1 f in
    ap (λ text. read_item (inside d) text) grouped
    ∙ (ap (λ m. read_body (inside d) m.rest >>= λ b. read_count b.rest >>= λ k. read (item m.value b.value k.value) k.rest) sign
    ∙ (ap (λ o. o >>= λ b. read_count b.rest >>= λ k. read (item minus b.value k.value) k.rest) body
    ∙ ap (λ o. o >>= λ k. read (item minus b k.value) k.rest) number))

-- items are, if the first is and those after it are
items_by_item : (i : Item) (p : Pattern) → ItemRead i → ItemsRead p → ItemsRead (i then p)
unfolding read_items
items_by_item i p r more d zero h rest f enough =
    let some = ap (λ text. length (text ++ (text_after p ++ rest))) (item_begins i d h.0).written in
    absurd (omega arith)
items_by_item i nothing r more d (suc k) h rest f enough =
    ap (λ o. o >>= λ j. read_on (read_items (inside d) k) j.value j.rest) (r d h.0 rest (after_last_item rest f)) ∙ ends rest f
  where
    ends : (rest : List ℕ) → AfterPattern rest → read_on (read_items (inside d) k) i rest ≡ read (i then nothing) rest
    ends [] f = refl
    ends (x ∷ rest) e = rw e
items_by_item i (j then q) r more d (suc k) h rest f enough =
    let text = item_text j ++ (text_after q ++ rest) in
    let grouped : text_after (j then q) ++ rest ≡ space_byte ∷ text = ap (λ t. space_byte ∷ t) (append_assoc (item_text j) (text_after q) rest) in
    let all : length (item_text i ++ (space_byte ∷ text)) ≤ suc k = subst (λ t. length (item_text i ++ t) ≤ suc k) grouped enough in
    let fewer : length text ≤ k = omega (arith, length-append (item_text i) (space_byte ∷ text)) in
    ap (λ t. read_items (inside d) (suc k) (item_text i ++ t)) grouped
    ∙ (ap (λ o. o >>= λ j. read_on (read_items (inside d) k) j.value j.rest) (r d h.0 (space_byte ∷ text) (inl refl))
    ∙ ap (λ o. o >>= λ p. read (i then p.value) p.rest) (more d k h.1 rest f fewer))

-- a pattern is, if its items are
pattern_by_items : (p : Pattern) → ItemsRead p → PatternRead p
pattern_by_items nothing r d h [] f = pattern_by_inside d []
pattern_by_items nothing r d h (x ∷ rest) e = pattern_by_inside d (x ∷ rest) ∙ rw e
pattern_by_items (i then p) r d h rest f =
    let behind = text_after p ++ rest in
    let s = item_begins i d h.0 in
    let text = s.first ∷ (s.others ++ behind) in
    let begun : read_in (inside d) text ≡ read_items (inside d) (length text) text = rw s.no_end in
    let same : read_in (inside d) (item_text i ++ behind) ≡ read_items (inside d) (length (item_text i ++ behind)) (item_text i ++ behind) =
    subst (λ t. read_in (inside d) (t ++ behind) ≡ read_items (inside d) (length (t ++ behind)) (t ++ behind)) (sym s.written) begun in
    pattern_by_inside d (pattern_text (i then p) ++ rest)
    ∙ (ap (λ t. read_in (inside d) t) (append_assoc (item_text i) (text_after p) rest)
    ∙ (same ∙ r d (length (item_text i ++ behind)) h rest f (omega arith)))

-- so all are, by recursion on the tree
mutual
  items_read : (p : Pattern) → ItemsRead p
  items_read nothing = tt
  items_read (i then p) = items_by_item i p (item_read i) (items_read p)

  item_read : (i : Item) → ItemRead i
  item_read (item minus b count) = item_by_body minus b count (body_read b)

  body_read : (b : Body) → BodyRead b
  body_read (move a) = move_read a
  body_read (bracket p) = bracket_read p (pattern_by_items p (items_read p))

-- and so is a whole text
pub text_read : (p : Pattern) → PatternInRange p most_nested → read_text (pattern_text p) ≡ answered p
unfolding read_text
text_read p h =
    ap (λ text. read_text text) (sym (append-nil (pattern_text p)))
    ∙ ap (λ o. o >>= λ q. unless (ltb 0 (length q.rest)) 19 q.value) (pattern_by_items p (items_read p) most_nested h [] tt)
