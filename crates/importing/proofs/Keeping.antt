-- What the readers keep, of each part that is read: numbers of moves are counted on no further than a program has, and nothing else is lost.
use mathlib.Core.Path.{◌≡◌, refl, sym, ap, ◌∙◌}
use mathlib.Core.Logic.{⊎_elim}
use mathlib.Core.List.{List, [], ◌∷◌}
use mathlib.Core.Bool.{Bool, true, false, cond}
use mathlib.Core.Option.{Option, none, some}
use Prim.Native.Nat.{ℕ, zero, suc, ◌+◌, ◌*◌, ◌≤◌, ◌<◌}
use native.Mathlib.Nat.{one-mul, zero-mul, suc-mul, zero-add, add-zero}
use native.Mathlib.Omega.{arith}
use lib.Dec.{ltb, eqb}
use lib.ListN.{drop}
use borrow.Author.Tests.{ltb-true, ltb-false}
use Rattle.model.specs.Outcome.{Outcome, answered, refused, ◌>>=◌, mapped}
use Rattle.model.specs.Bits.{Read}
use Rattle.model.specs.Notation.{Pattern, nothing, ◌then◌, Item, item, Body, bracket, times, moves, item_moves, body_moves, larger, highest, item_highest}
use Rattle.model.specs.Notation.{body_highest, closing_byte, count_byte, no_pattern, read_number, read_minus, read_count, read_close, read_body}
use Rattle.model.specs.Notation.{read_item}
use Rattle.model.proofs.Impossible.{impossible}
use Rattle.model.proofs.Numbers.{below_or}
use Rattle.model.specs.Plain.{most_letters}
use Rattle.importing.specs.Reading.{capped, Kept, kept_of, kept_body, kept_item, kept_pattern, closed, closing, times_kept, counted, counting, stands_first}
use Rattle.importing.proofs.Readers.{with_count, count_there, close_after, before}

-- NUMBERS OF MOVES

-- a number is as it is, or more than a program has
pub capped_low : (m : ℕ) → m ≤ most_letters → capped m ≡ m
capped_low m h = test (ltb most_letters m) refl
  where
    test : (b : Bool) → ltb most_letters m ≡ b → cond b (most_letters + 1) m ≡ m
    test true e = absurd (omega (arith, ltb-true most_letters m e, h))
    test false e = refl

pub capped_high : (m : ℕ) → (most_letters + 1) ≤ m → capped m ≡ (most_letters + 1)
capped_high m h = test (ltb most_letters m) refl
  where
    test : (b : Bool) → ltb most_letters m ≡ b → cond b (most_letters + 1) m ≡ (most_letters + 1)
    test true e = refl
    test false e = absurd (omega (arith, ltb-false most_letters m e, h))

pub capped_sum : (a b : ℕ) → capped (a + capped b) ≡ capped (a + b)
capped_sum a b = ⊎_elim low high (below_or b (most_letters + 1))
  where
    low : b < (most_letters + 1) → capped (a + capped b) ≡ capped (a + b)
    low h = ap (λ m. capped (a + m)) (capped_low b (omega (arith, h)))

    high : (most_letters + 1) ≤ b → capped (a + capped b) ≡ capped (a + b)
    high h = ap (λ m. capped (a + m)) (capped_high b h) ∙ capped_high (a + (most_letters + 1)) (omega arith) ∙ sym (capped_high (a + b) (omega (arith, h)))

capped_sum_left : (a b : ℕ) → capped (capped a + b) ≡ capped (a + b)
capped_sum_left a b =
    ap capped {x = capped a + b} {y = b + capped a} (omega arith) ∙ capped_sum b a ∙ ap capped {x = b + a} {y = a + b} (omega arith)

capped_product : (c m : ℕ) → capped (c * m) ≡ capped (c * capped m)
capped_product zero m = ap capped (zero-mul m ∙ sym (zero-mul (capped m)))
capped_product (suc c) m = ⊎_elim low high (below_or m (most_letters + 1))
  where
    low : m < (most_letters + 1) → capped (suc c * m) ≡ capped (suc c * capped m)
    low h = ap (λ n. capped (suc c * n)) (sym (capped_low m (omega (arith, h))))

    high : (most_letters + 1) ≤ m → capped (suc c * m) ≡ capped (suc c * capped m)
    high h =
        capped_high (suc c * m) (omega (arith, suc-mul c m, h))
        ∙ sym (ap (λ n. capped (suc c * n)) (capped_high m h) ∙ capped_high (suc c * (most_letters + 1)) (omega (arith, suc-mul c (most_letters + 1))))

-- THE HIGHEST NUMBER

larger_right : (a b : ℕ) → a ≤ b → larger a b ≡ b
larger_right a b h = test (ltb a b) refl
  where
    test : (t : Bool) → ltb a b ≡ t → cond t b a ≡ b
    test true e = refl
    test false e = omega (arith, ltb-false a b e, h)

larger_left : (a b : ℕ) → b ≤ a → larger a b ≡ a
larger_left a b h = test (ltb a b) refl
  where
    test : (t : Bool) → ltb a b ≡ t → cond t b a ≡ a
    test true e = absurd (omega (arith, ltb-true a b e, h))
    test false e = refl

larger_none : (a : ℕ) → larger a 0 ≡ a
larger_none a = larger_left a 0 (omega arith)

larger_join : (a b c : ℕ) → larger a (larger b c) ≡ larger (larger a b) c
larger_join a b c = ⊎_elim right left (below_or a b)
  where
    right : a < b → larger a (larger b c) ≡ larger (larger a b) c
    right h = ⊎_elim above below (below_or b c)
      where
        above : b < c → larger a (larger b c) ≡ larger (larger a b) c
        above j =
            ap (larger a) (larger_right b c (omega (arith, j))) ∙ larger_right a c (omega (arith, h, j))
            ∙ sym (ap (λ m. larger m c) (larger_right a b (omega (arith, h))) ∙ larger_right b c (omega (arith, j)))

        below : c ≤ b → larger a (larger b c) ≡ larger (larger a b) c
        below j = ap (larger a) (larger_left b c j) ∙ larger_right a b (omega (arith, h))
            ∙ sym (ap (λ m. larger m c) (larger_right a b (omega (arith, h))) ∙ larger_left b c j)

    left : b ≤ a → larger a (larger b c) ≡ larger (larger a b) c
    left h = ⊎_elim above below (below_or b c)
      where
        above : b < c → larger a (larger b c) ≡ larger (larger a b) c
        above j = ap (larger a) (larger_right b c (omega (arith, j))) ∙ sym (ap (λ m. larger m c) (larger_left a b h))

        below : c ≤ b → larger a (larger b c) ≡ larger (larger a b) c
        below j =
            ap (larger a) (larger_left b c j) ∙ larger_left a b h
            ∙ sym (ap (λ m. larger m c) (larger_left a b h) ∙ larger_left a c (omega (arith, h, j)))

-- AN ITEM

-- what is kept of a bracket is that of its pattern, once it closes
pub bracket_kept : (o : Outcome (Read Pattern)) → kept_body (o >>= close_after) ≡ closing (kept_pattern o)
bracket_kept (refused n place) = refl
bracket_kept (answered p) = close p.value p.rest
  where
    close : (q : Pattern) (t : List ℕ) → kept_body (read_close q t) ≡ closed (record { moves = capped (moves q); highest = highest q; rest = t })
    close q [] = refl
    close q (x ∷ xs) = test (eqb x closing_byte)
      where
        test : (b : Bool) → kept_body (cond b (answered (record { value = bracket q; rest = xs })) no_pattern)
            ≡ cond b (answered (record { moves = capped (moves q); highest = highest q; rest = xs })) no_pattern
        test true = refl
        test false = refl

-- what is kept of an item is that of its body, with its count
pub item_kept : (inner : List ℕ → Outcome (Read Pattern)) (t : List ℕ) → kept_item (read_item inner t)
    ≡ counting (kept_body (read_body inner (read_minus t).rest))
unfolding read_item
item_kept inner t = body (read_body inner (read_minus t).rest)
  where
    multiplied : (c : Option ℕ) (m : ℕ) → capped (times c * m) ≡ times_kept c (capped m)
    multiplied none m = ap capped (one-mul m)
    multiplied (some k) m = capped_product k m

    count : (b : Read Body) (o : Outcome (Read (Option ℕ)))
        → kept_item (o >>= λ k. answered (record { value = item (read_minus t).value b.value k.value; rest = k.rest }))
        ≡ (o >>= λ c. answered (record { moves = times_kept c.value (capped (body_moves b.value)); highest = body_highest b.value; rest = c.rest }))
    count b (refused n place) = refl
    count b (answered k) =
        ap (λ m. answered (record { moves = m; highest = body_highest b.value; rest = k.rest })) (multiplied k.value (body_moves b.value))

    body : (o : Outcome (Read Body))
        → kept_item (o >>= λ b. read_count b.rest >>= λ k. answered (record { value = item (read_minus t).value b.value k.value; rest = k.rest }))
        ≡ counting (kept_body o)
    body (refused n place) = refl
    body (answered b) = count b (read_count b.rest)

-- ITEMS ONE AFTER ANOTHER

-- what is kept, after so many moves and so high a number before it
abbrev pub onto : ℕ → ℕ → Outcome Kept → Outcome Kept
onto m h o = mapped (λ k. record { moves = capped (m + k.moves); highest = larger h k.highest; rest = k.rest }) o

pub onto_nothing : (o : Outcome (Read Pattern)) → kept_pattern o ≡ onto 0 0 (kept_pattern o)
onto_nothing (refused n place) = refl
onto_nothing (answered p) =
    ap (λ m. answered (record { moves = m; highest = highest p.value; rest = p.rest }))
    (sym (capped_sum 0 (moves p.value) ∙ ap capped (zero-add (moves p.value))))
    ∙ ap (λ h. answered (record { moves = capped (0 + capped (moves p.value)); highest = h; rest = p.rest }))
    (sym (larger_right 0 (highest p.value) (omega arith)))

-- what was kept before an item, and the item's, is kept before what follows
module _ (m h : ℕ) (i : Item) where
  abbrev pub moves_on : ℕ
  moves_on = capped (m + capped (item_moves i))

  abbrev pub highest_on : ℕ
  highest_on = larger h (item_highest i)

  pub onto_last : (t : List ℕ) → onto m h (kept_pattern (answered (record { value = i then nothing; rest = t }))) ≡ answered
      (record { moves = moves_on; highest = highest_on; rest = t })
  onto_last t =
      ap (λ n. answered (record { moves = capped (m + capped n); highest = larger h (larger (item_highest i) 0); rest = t })) (add-zero (item_moves i))
      ∙ ap (λ n. answered (record { moves = moves_on; highest = larger h n; rest = t })) (larger_none (item_highest i))

  pub onto_more : (o : Outcome (Read Pattern)) → onto m h (kept_pattern (o >>= before i)) ≡ onto moves_on highest_on (kept_pattern o)
  onto_more (refused n place) = refl
  onto_more (answered p) =
      ap (λ n. answered (record { moves = n; highest = larger h (larger (item_highest i) (highest p.value)); rest = p.rest })) counts
      ∙ ap (λ n. answered (record { moves = capped (moves_on + capped (moves p.value)); highest = n; rest = p.rest }))
      (larger_join h (item_highest i) (highest p.value))
    where
      counts : capped (m + capped (item_moves i + moves p.value)) ≡ capped (moves_on + capped (moves p.value))
      counts =
          capped_sum m (item_moves i + moves p.value)
          ∙ ap capped {x = m + (item_moves i + moves p.value)} {y = (m + item_moves i) + moves p.value} (omega arith)
          ∙ sym (capped_sum moves_on (moves p.value) ∙ ap (λ n. capped (n + moves p.value)) (capped_sum m (item_moves i))
          ∙ capped_sum_left (m + item_moves i) (moves p.value))

-- WHAT WAS READ

-- an outcome of which something is kept was an answer
pub record Answered {A : Type 0} (moves_of highest_of : A → ℕ) (o : Outcome (Read A)) (k : Kept) : Type 0 where
  pub value : A
  pub read : o ≡ answered (record { value = value; rest = k.rest })
  pub moves_is : k.moves ≡ capped (moves_of value)
  pub highest_is : k.highest ≡ highest_of value

pub kept_answered : {A : Type 0} (moves_of highest_of : A → ℕ) (o : Outcome (Read A)) (k : Kept) → answered k ≡ kept_of moves_of highest_of o
    → Answered moves_of highest_of o k
kept_answered moves_of highest_of (refused n place) k e = impossible (cc)
kept_answered moves_of highest_of (answered r) k e = from (cc)
  where
    from : k ≡ record { moves = capped (moves_of r.value); highest = highest_of r.value; rest = r.rest } → Answered moves_of highest_of (answered r) k
    from same = record {
      value = r.value;
      read = ap (λ (j : Kept). answered (record { value = r.value; rest = j.rest })) (sym same);
      moves_is = ap (λ (j : Kept). j.moves) same;
      highest_is = ap (λ (j : Kept). j.highest) same;
    }

pub kept_refused : {A : Type 0} (moves_of highest_of : A → ℕ) (o : Outcome (Read A)) → no_pattern ≡ kept_of moves_of highest_of o → o ≡ no_pattern
kept_refused moves_of highest_of (refused n place) e = cc
kept_refused moves_of highest_of (answered r) e = impossible (cc)

-- A BODY'S END AND ITS COUNT

pub closed_there : (k : Kept) → stands_first closing_byte k.rest ≡ true
    → closed k ≡ answered (record { moves = k.moves; highest = k.highest; rest = drop 1 k.rest })
closed_there k e = ap (λ b. cond b (answered (record { moves = k.moves; highest = k.highest; rest = drop 1 k.rest })) no_pattern) e

abbrev multiplied : Kept → Read (Option ℕ) → Outcome Kept
multiplied k c = answered (record { moves = times_kept c.value k.moves; highest = k.highest; rest = c.rest })

pub count_present : (k : Kept) → stands_first count_byte k.rest ≡ true → (o : Outcome (Read ℕ)) → o ≡ read_number (drop 1 k.rest)
    → counted k ≡ (o >>= λ c. answered (record { moves = capped (c.value * k.moves); highest = k.highest; rest = c.rest }))
count_present k e o same = number o (count_there k.rest e ∙ ap (λ n. n >>= with_count) (sym same))
  where
    number : (n : Outcome (Read ℕ)) → read_count k.rest ≡ (n >>= with_count)
        → counted k ≡ (n >>= λ c. answered (record { moves = capped (c.value * k.moves); highest = k.highest; rest = c.rest }))
    number (refused m place) p = ap (λ o. o >>= multiplied k) p
    number (answered c) p = ap (λ o. o >>= multiplied k) p
