-- What the reader of patterns (specification 6.17) reads from a text, written, is that text, and is in range. It is shown of each reader in turn.
-- From the definitions, and how numbers are written (Digits.antt). Main name: `text_back`.
use mathlib.Core.Path.{◌≡◌, refl, sym, ap, subst, ◌∙◌}
use mathlib.Core.Logic.{◌⊎◌, inl, inr}
use mathlib.Core.List.{List, [], ◌∷◌, ◌++◌, append_assoc, append-nil}
use mathlib.Core.Bool.{Bool, true, false, cond}
use mathlib.Core.Option.{Option, none, some}
use Prim.Native.Nat.{ℕ, zero, suc, ◌+◌, ◌-◌, ◌*◌, ◌≤◌}
use native.Mathlib.Omega.{arith}
use lib.Dec.{ltb, eqb}
use lib.ListN.{length}
use borrow.Author.Tests.{ltb-false, eqb-true, eqb-false}
use Rattle.model.specs.Outcome.{Outcome, answered, ◌>>=◌, unless}
use Rattle.model.specs.Bits.{Read}
use Rattle.model.specs.Notation.{Pattern, nothing, ◌then◌, Item, item, Body, move, bracket, most_number, most_nested, CountInRange, PatternInRange, ItemInRange}
use Rattle.model.specs.Notation.{BodyInRange, space_byte, opening_byte, closing_byte, minus_byte, zero_byte, count_byte, decimal, minus_text, count_text}
use Rattle.model.specs.Notation.{pattern_text}
use Rattle.model.specs.Notation.{text_after, item_text, body_text, no_pattern, is_digit, second_digit, read_number, read_minus, read_count, read_move}
use Rattle.model.specs.Notation.{read_close}
use Rattle.model.specs.Notation.{read_body, read_item, read_on, read_items, read_in, read_pattern, read_text}
use Rattle.model.proofs.Impossible.{impossible, answer_of, same_answer, not_refused}
use Rattle.theory.proofs.Digits.{digit_from, decimal_one, decimal_two}
use Rattle.theory.proofs.WrittenRead.{read, inside, pattern_by_inside}

-- THE ARMS OF A TEST

-- y is what the one arm of a test gives, or the other, each with what the test said
abbrev Either : {A : Type 0} → Bool → A → A → A → Type 0
Either b s t y = ((b ≡ true) × (s ≡ y)) ⊎ ((b ≡ false) × (t ≡ y))

-- so it is of what the test gives
either : {A : Type 0} (b : Bool) (s t y : A) → cond b s t ≡ y → Either b s t y
either true s t y e = inl (refl, e)
either false s t y e = inr (refl, e)

-- READ, THEN WRITTEN: NUMBERS AND COUNTS

-- what was read, written, and then the rest, is the text; and what was read is in range
record Back {A : Type 0} (write : A → List ℕ) (Ranged : A → Type 0) (text : List ℕ) (r : Read A) : Type 0 where
  again : write r.value ++ r.rest ≡ text
  ranged : Ranged r.value

-- it is so of all that a reader reads
abbrev Faithful : {A : Type 0} → (A → List ℕ) → (A → Type 0) → (List ℕ → Outcome (Read A)) → Type 0
Faithful write Ranged reader = (text : List ℕ) (r : Read _) → reader text ≡ answered r → Back write Ranged text r

-- the same of a number
abbrev NumberBack : List ℕ → Read ℕ → Type 0
NumberBack text r = Back decimal (λ a. a ≤ most_number) text r

-- it holds of one digit
one_back : (x : ℕ) (xs : List ℕ) → is_digit x ≡ true → NumberBack (x ∷ xs) (record { value = x - zero_byte; rest = xs })
one_back x xs d =
    let h = digit_from x d in
    let same : zero_byte + (x - zero_byte) ≡ x = omega arith in
    record { again = ap (λ t. t ++ xs) (decimal_one (x - zero_byte) (omega arith)) ∙ ap (λ y. y ∷ xs) same; ranged = omega arith }

-- of two digits
two_back : (x y : ℕ) (xs : List ℕ) → is_digit x ≡ true → eqb x zero_byte ≡ false → is_digit y ≡ true
    → NumberBack (x ∷ y ∷ xs) (record { value = 10 * (x - zero_byte) + (y - zero_byte); rest = xs })
two_back x y xs d n c =
    let h = digit_from x d in
    let g = digit_from y c in
    let other = eqb-false x zero_byte n in
    let first : zero_byte + (x - zero_byte) ≡ x = omega arith in
    let second : zero_byte + (y - zero_byte) ≡ y = omega arith in
    let written = decimal_two (x - zero_byte) (y - zero_byte) (omega arith) (omega arith) in
    record {
      again = ap (λ t. t ++ xs) written ∙ (ap (λ a. a ∷ (zero_byte + (y - zero_byte)) ∷ xs) first ∙ ap (λ a. x ∷ a ∷ xs) second);
      ranged = omega arith;
    }

-- of a first digit that is not 0, whatever follows
second_back : (x : ℕ) (xs : List ℕ) → is_digit x ≡ true → eqb x zero_byte ≡ false → NumberBack (x ∷ xs) (second_digit (x - zero_byte) xs)
second_back x [] d n = one_back x [] d
second_back x (y ∷ xs) d n = go (is_digit y) refl
  where
    go : (b : Bool) → is_digit y ≡ b
        → NumberBack (x ∷ y ∷ xs)
        (cond b (record { value = 10 * (x - zero_byte) + (y - zero_byte); rest = xs }) (record { value = x - zero_byte; rest = y ∷ xs }))
    go true e = two_back x y xs d n e
    go false e = one_back x (y ∷ xs) d

-- of every number
number_back : Faithful decimal (λ a. a ≤ most_number) read_number
number_back [] r e = impossible (cc)
number_back (x ∷ xs) r e = at (either (is_digit x) (answered number) no_pattern (answered r) e)
  where
    nought : Read ℕ
    nought = record { value = 0; rest = xs }

    number : Read ℕ
    number = cond (eqb x zero_byte) nought (second_digit (x - zero_byte) xs)

    of : is_digit x ≡ true → Either (eqb x zero_byte) nought (second_digit (x - zero_byte) xs) r → NumberBack (x ∷ xs) r
    of d (inl q) = subst (NumberBack (x ∷ xs)) q.1 (record { again = ap (λ y. y ∷ xs) (sym (eqb-true x zero_byte q.0)); ranged = omega arith })
    of d (inr q) = subst (NumberBack (x ∷ xs)) q.1 (second_back x xs d q.0)

    at : Either (is_digit x) (answered number) no_pattern (answered r) → NumberBack (x ∷ xs) r
    at (inl q) = of q.0 (either (eqb x zero_byte) nought (second_digit (x - zero_byte) xs) r (same_answer number r q.1))
    at (inr q) = let f = q.1 in impossible (cc)

-- the same of a count
abbrev CountBack : List ℕ → Read (Option ℕ) → Type 0
CountBack text r = Back count_text CountInRange text r

-- it holds of every count
count_back : Faithful count_text CountInRange read_count
count_back [] r e = subst (CountBack []) (same_answer _ r e) (record { again = refl; ranged = tt })
count_back (x ∷ xs) r e = at (either (eqb x count_byte) (read_number xs >>= count) (read none (x ∷ xs)) (answered r) e)
  where
    count : Read ℕ → Outcome (Read (Option ℕ))
    count k = read (some k.value) k.rest

    of : x ≡ count_byte → (k : Read ℕ) × (read_number xs ≡ answered k) × (count k ≡ answered r) → CountBack (x ∷ xs) r
    of q (k, n, f) =
        let b = number_back xs k n in
        subst (CountBack (x ∷ xs)) (same_answer _ r f)
        (record { again = ap (λ t. count_byte ∷ t) b.again ∙ ap (λ y. y ∷ xs) (sym q); ranged = b.ranged })

    at : Either (eqb x count_byte) (read_number xs >>= count) (read none (x ∷ xs)) (answered r) → CountBack (x ∷ xs) r
    at (inl q) = of (eqb-true x count_byte q.0) (answer_of (read_number xs) count r q.1)
    at (inr q) = subst (CountBack (x ∷ xs)) (same_answer _ r q.1) (record { again = refl; ranged = tt })

-- a minus where one was read, and then the rest, is the text
minus_back : (text : List ℕ) → minus_text (read_minus text).value ++ (read_minus text).rest ≡ text
minus_back [] = refl
minus_back (x ∷ xs) = go (eqb x minus_byte) refl
  where
    signed : Bool → Read Bool
    signed b = cond b (record { value = true; rest = xs }) (record { value = false; rest = x ∷ xs })

    go : (b : Bool) → eqb x minus_byte ≡ b → minus_text (signed b).value ++ (signed b).rest ≡ x ∷ xs
    go true e = ap (λ y. y ∷ xs) (sym (eqb-true x minus_byte e))
    go false e = refl

-- READ, THEN WRITTEN: TREES

-- what is read as a body is written back, and in range where brackets may nest d deep
abbrev BodyBack : ℕ → List ℕ → Read Body → Type 0
BodyBack d text r = Back body_text (λ b. BodyInRange b d) text r

-- it holds of every move
move_back : (d : ℕ) → Faithful body_text (λ b. BodyInRange b d) read_move
move_back d text r e = of (answer_of (read_number text) (λ a. unless (eqb a.value 0) 19 (moved a)) r e)
  where
    moved : Read ℕ → Read Body
    moved a = record { value = move a.value; rest = a.rest }

    of : (a : Read ℕ) × (read_number text ≡ answered a) × (unless (eqb a.value 0) 19 (moved a) ≡ answered r) → BodyBack d text r
    of (a, n, f) =
        let b = number_back text a n in
        let g = not_refused (eqb a.value 0) 19 (moved a) r f in
        let not_0 = eqb-false a.value 0 g.0 in
        subst (BodyBack d text) g.1 (record { again = b.again; ranged = record { low = omega arith; high = b.ranged } })

-- where the end of a bracket was read, it stands
close_back : (p : Pattern) (text : List ℕ) (r : Read Body) → read_close p text ≡ answered r → (r.value ≡ bracket p) × (text ≡ closing_byte ∷ r.rest)
close_back p [] r e = impossible (cc)
close_back p (x ∷ xs) r e = at (either (eqb x closing_byte) (read (bracket p) xs) no_pattern (answered r) e)
  where
    at : Either (eqb x closing_byte) (read (bracket p) xs) no_pattern (answered r) → (r.value ≡ bracket p) × (x ∷ xs ≡ closing_byte ∷ r.rest)
    at (inl q) =
        let same = same_answer _ r q.1 in
        (ap (λ r. r.value) (sym same), ap (λ y. y ∷ xs) (eqb-true x closing_byte q.0) ∙ ap (λ r. closing_byte ∷ r.rest) same)
    at (inr q) = let f = q.1 in impossible (cc)

-- at least one item, and all in range
abbrev SomeItems : ℕ → Pattern → Type 0
SomeItems d nothing = ⊥
SomeItems d (i then p) = PatternInRange (i then p) d

-- such a pattern is in range
some_in_range : (d : ℕ) (p : Pattern) → SomeItems d p → PatternInRange p d
some_in_range d nothing h = absurd h
some_in_range d (i then p) h = h

-- after other items it is written behind a space
after_space : (d : ℕ) (p : Pattern) → SomeItems d p → text_after p ≡ space_byte ∷ pattern_text p
after_space d nothing h = absurd h
after_space d (i then p) h = refl

-- an item, and what is read after it, is written back, if what `more` reads is
on_back : (d : ℕ) (more : List ℕ → Outcome (Read Pattern)) → Faithful pattern_text (SomeItems d) more → (i : Item) → ItemInRange i d
    → (text : List ℕ) (r : Read Pattern) → read_on more i text ≡ answered r → Back pattern_text (SomeItems d) (item_text i ++ text) r
on_back d more faithful i h text r e = at text e
  where
    made : Read Pattern → Outcome (Read Pattern)
    made p = read (i then p.value) p.rest

    ends : (text : List ℕ) → read (i then nothing) text ≡ answered r → Back pattern_text (SomeItems d) (item_text i ++ text) r
    ends text f =
        subst (Back pattern_text (SomeItems d) (item_text i ++ text)) (same_answer _ r f)
        (record { again = ap (λ t. t ++ text) (append-nil (item_text i)); ranged = (h, tt) })

    on : (x : ℕ) (xs : List ℕ) → x ≡ space_byte → (p : Read Pattern) × (more xs ≡ answered p) × (made p ≡ answered r)
        → Back pattern_text (SomeItems d) (item_text i ++ (x ∷ xs)) r
    on x xs q (p, n, f) =
        let b = faithful xs p n in
        let behind : text_after p.value ++ p.rest ≡ x ∷ xs =
        ap (λ t. t ++ p.rest) (after_space d p.value b.ranged) ∙ (ap (λ t. space_byte ∷ t) b.again ∙ ap (λ y. y ∷ xs) (sym q)) in
        subst (Back pattern_text (SomeItems d) (item_text i ++ (x ∷ xs))) (same_answer _ r f)
        (record {
          again = append_assoc (item_text i) (text_after p.value) p.rest ∙ ap (λ t. item_text i ++ t) behind;
          ranged = (h, some_in_range d p.value b.ranged);
        })

    cases : (x : ℕ) (xs : List ℕ) → Either (eqb x space_byte) (more xs >>= made) (read (i then nothing) (x ∷ xs)) (answered r)
        → Back pattern_text (SomeItems d) (item_text i ++ (x ∷ xs)) r
    cases x xs (inl q) = on x xs (eqb-true x space_byte q.0) (answer_of (more xs) made r q.1)
    cases x xs (inr q) = ends (x ∷ xs) q.1

    at : (text : List ℕ) → read_on more i text ≡ answered r → Back pattern_text (SomeItems d) (item_text i ++ text) r
    at [] f = ends [] f
    at (x ∷ xs) f = cases x xs (either (eqb x space_byte) (more xs >>= made) (read (i then nothing) (x ∷ xs)) (answered r) f)

-- where brackets may nest d deep: all is written back, if what brackets hold is
module _ (d : ℕ) (within : Faithful pattern_text (λ p. BodyInRange (bracket p) d) (inside d)) where
  -- every body
  body_back : Faithful body_text (λ b. BodyInRange b d) (read_body (inside d))
  body_back [] r e = impossible (cc)
  body_back (x ∷ xs) r e = at (either (eqb x opening_byte) (inside d xs >>= close) (read_move (x ∷ xs)) (answered r) e)
    where
      close : Read Pattern → Outcome (Read Body)
      close p = read_close p.value p.rest

      of : x ≡ opening_byte → (p : Read Pattern) × (inside d xs ≡ answered p) × (close p ≡ answered r) → BodyBack d (x ∷ xs) r
      of q (p, n, f) =
          let b = within xs p n in
          let c = close_back p.value p.rest r f in
          let inner : (pattern_text p.value ++ (closing_byte ∷ [])) ++ r.rest ≡ xs =
          append_assoc (pattern_text p.value) (closing_byte ∷ []) r.rest ∙ (ap (λ t. pattern_text p.value ++ t) (sym c.1) ∙ b.again) in
          record {
            again = ap (λ v. body_text v ++ r.rest) c.0 ∙ (ap (λ t. opening_byte ∷ t) inner ∙ ap (λ y. y ∷ xs) (sym q));
            ranged = subst (λ v. BodyInRange v d) (sym c.0) b.ranged;
          }

      at : Either (eqb x opening_byte) (inside d xs >>= close) (read_move (x ∷ xs)) (answered r) → BodyBack d (x ∷ xs) r
      at (inl q) = of (eqb-true x opening_byte q.0) (answer_of (inside d xs) close r q.1)
      at (inr q) = move_back d (x ∷ xs) r q.1

  -- every item
  item_back : Faithful item_text (λ i. ItemInRange i d) (read_item (inside d))
  unfolding read_item
  item_back text r e = body (answer_of (read_body (inside d) m.rest) (λ b. read_count b.rest >>= made b) r e)
    where
      m : Read Bool
      m = read_minus text

      made : Read Body → Read (Option ℕ) → Outcome (Read Item)
      made b k = read (item m.value b.value k.value) k.rest

      count : (b : Read Body) → read_body (inside d) m.rest ≡ answered b
          → (k : Read (Option ℕ)) × (read_count b.rest ≡ answered k) × (made b k ≡ answered r) → Back item_text (λ i. ItemInRange i d) text r
      count b n (k, c, f) =
          let sign = minus_text m.value in
          let whole = body_text b.value in
          let s = body_back m.rest b n in
          let t = count_back b.rest k c in
          let grouped : (sign ++ (whole ++ count_text k.value)) ++ k.rest ≡ sign ++ (whole ++ (count_text k.value ++ k.rest)) = simp append_assoc in
          subst (Back item_text (λ i. ItemInRange i d) text) (same_answer _ r f)
          (record {
            again = grouped ∙ (ap (λ z. sign ++ (whole ++ z)) t.again ∙ (ap (λ z. sign ++ z) s.again ∙ minus_back text));
            ranged = (s.ranged, t.ranged);
          })

      body : (b : Read Body) × (read_body (inside d) m.rest ≡ answered b) × ((read_count b.rest >>= made b) ≡ answered r)
          → Back item_text (λ i. ItemInRange i d) text r
      body (b, n, f) = count b n (answer_of (read_count b.rest) (made b) r f)

  -- any number of items
  items_back : (k : ℕ) → Faithful pattern_text (SomeItems d) (read_items (inside d) k)
  unfolding read_items
  items_back zero text r e = impossible (cc)
  items_back (suc k) text r e = of (items_back k) (answer_of (read_item (inside d) text) next r e)
    where
      next : Read Item → Outcome (Read Pattern)
      next i = read_on (read_items (inside d) k) i.value i.rest

      of : Faithful pattern_text (SomeItems d) (read_items (inside d) k)
          → (i : Read Item) × (read_item (inside d) text ≡ answered i) × (next i ≡ answered r) → Back pattern_text (SomeItems d) text r
      of more (i, n, f) =
          let b = item_back text i n in
          let c = on_back d (read_items (inside d) k) more i.value b.ranged i.rest r f in
          record { again = c.again ∙ b.again; ranged = c.ranged }

  -- every pattern, by its items
  in_back : Faithful pattern_text (λ p. PatternInRange p d) (read_in (inside d))
  in_back [] r e = subst (Back pattern_text (λ p. PatternInRange p d) []) (same_answer _ r e) (record { again = refl; ranged = tt })
  in_back (x ∷ xs) r e =
      at (either (eqb x closing_byte) (read nothing (x ∷ xs)) (read_items (inside d) (suc (length xs)) (x ∷ xs)) (answered r) e)
    where
      at : Either (eqb x closing_byte) (read nothing (x ∷ xs)) (read_items (inside d) (suc (length xs)) (x ∷ xs)) (answered r)
          → Back pattern_text (λ p. PatternInRange p d) (x ∷ xs) r
      at (inl q) =
          subst (Back pattern_text (λ p. PatternInRange p d) (x ∷ xs)) (same_answer _ r q.1) (record { again = refl; ranged = tt })
      at (inr q) =
          let b = items_back (suc (length xs)) (x ∷ xs) r q.1 in
          record { again = b.again; ranged = some_in_range d r.value b.ranged }

  -- every pattern
  pattern_by_back : Faithful pattern_text (λ p. PatternInRange p d) (read_pattern d)
  pattern_by_back text r e = in_back text r (sym (pattern_by_inside d text) ∙ e)

-- what brackets hold is written back, by recursion on how deep they may nest
inside_back : (d : ℕ) → Faithful pattern_text (λ p. BodyInRange (bracket p) d) (inside d)
inside_back zero text r e = impossible (cc)
inside_back (suc d) text r e = let b = pattern_by_back d (inside_back d) text r e in record { again = b.again; ranged = b.ranged }

-- a whole text that is read is the text of what was read
pub text_back : (text : List ℕ) (p : Pattern) → read_text text ≡ answered p → (pattern_text p ≡ text) × PatternInRange p most_nested
unfolding read_text
text_back text p e = of (answer_of (read_pattern most_nested text) whole p e)
  where
    whole : Read Pattern → Outcome Pattern
    whole r = unless (ltb 0 (length r.rest)) 19 r.value

    none_left : (rest : List ℕ) → ltb 0 (length rest) ≡ false → rest ≡ []
    none_left [] f = refl
    none_left (x ∷ rest) f = let l = ltb-false 0 (length (x ∷ rest)) f in absurd (omega arith)

    of : (r : Read Pattern) × (read_pattern most_nested text ≡ answered r) × (whole r ≡ answered p) → (pattern_text p ≡ text) × PatternInRange p most_nested
    of (r, n, f) =
        let g = not_refused (ltb 0 (length r.rest)) 19 r.value p f in
        let b = pattern_by_back most_nested (inside_back most_nested) text r n in
        let nothing_after = ap (λ t. pattern_text r.value ++ t) (sym (none_left r.rest g.0)) in
        let all : pattern_text r.value ≡ text = sym (append-nil (pattern_text r.value)) ∙ (nothing_after ∙ b.again) in
        subst (λ q. (pattern_text q ≡ text) × PatternInRange q most_nested) g.1 (all, b.ranged)
