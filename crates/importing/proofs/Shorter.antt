-- A reader leaves no more text than it was given, so that as many items as the text has bytes are all items, and each is followed by fewer.
use mathlib.Core.Path.{◌≡◌, refl, sym, ap}
use mathlib.Core.List.{List, [], ◌∷◌}
use mathlib.Core.Bool.{Bool, true, false, cond}
use mathlib.Core.Option.{none}
use Prim.Native.Nat.{ℕ, zero, suc, ◌+◌, ◌-◌, ◌*◌, ◌≤◌}
use native.Mathlib.Nat.{le_refl, le_trans, not-suc-le-zero}
use native.Mathlib.Omega.{arith}
use lib.Dec.{eqb}
use lib.ListN.{length}
use Rattle.model.specs.Outcome.{Outcome, answered, refused, ◌>>=◌, unless}
use Rattle.model.specs.Bits.{Read}
use Rattle.model.specs.Notation.{Pattern, nothing, ◌then◌, Item, move, bracket, space_byte, opening_byte, closing_byte, minus_byte, zero_byte, count_byte}
use Rattle.model.specs.Notation.{no_pattern}
use Rattle.model.specs.Notation.{is_digit, second_digit, read_number, read_minus, read_count, read_move, read_close, read_body, read_item, read_on, read_items}
use Rattle.model.specs.Notation.{read_in}
use Rattle.model.specs.Notation.{read_pattern}
use Rattle.importing.specs.Reading.{within}
use Rattle.importing.proofs.Readers.{with_count, close_after, before, all_items}

-- after an answer at most n bytes are left
abbrev pub Leaves : {A : Type 0} → ℕ → Outcome (Read A) → Type 0
Leaves n (answered r) = length r.rest ≤ n
Leaves n (refused k place) = Unit {0}

abbrev pub Shortens : {A : Type 0} → (List ℕ → Outcome (Read A)) → Type 0
Shortens read = (t : List ℕ) → Leaves (length t) (read t)

leaves_bind : {A B : Type 0} (n : ℕ) (o : Outcome (Read A)) (f : Read A → Outcome (Read B)) → Leaves n o
    → ((r : Read A) → length r.rest ≤ n → Leaves n (f r)) → Leaves n (o >>= f)
leaves_bind n (answered r) f h g = g r h
leaves_bind n (refused k place) f h g = tt

leaves_either : {A : Type 0} (n : ℕ) (b : Bool) (x y : Outcome (Read A)) → Leaves n x → Leaves n y → Leaves n (cond b x y)
leaves_either n true x y p q = p
leaves_either n false x y p q = q

left_either : {A : Type 0} (n : ℕ) (b : Bool) (x y : Read A) → length x.rest ≤ n → length y.rest ≤ n → length (cond b x y).rest ≤ n
left_either n true x y p q = p
left_either n false x y p q = q

leaves_more : {A : Type 0} (n m : ℕ) (o : Outcome (Read A)) → n ≤ m → Leaves n o → Leaves m o
leaves_more n m (answered r) le h = le_trans h le
leaves_more n m (refused k place) le h = tt

-- THE PARTS OF AN ITEM

second_shortens : (a : ℕ) (t : List ℕ) → length (second_digit a t).rest ≤ length t
second_shortens a [] = le_refl 0
second_shortens a (x ∷ xs) =
    left_either (suc (length xs)) (is_digit x) (record { value = 10 * a + (x - zero_byte); rest = xs }) (record { value = a; rest = x ∷ xs }) (omega arith)
    (le_refl (suc (length xs)))

number_shortens : Shortens read_number
number_shortens [] = tt
number_shortens (x ∷ xs) =
    leaves_either (suc (length xs)) (is_digit x) (answered (cond (eqb x zero_byte) (record { value = 0; rest = xs }) (second_digit (x - zero_byte) xs)))
    no_pattern
    (left_either (suc (length xs)) (eqb x zero_byte) (record { value = 0; rest = xs }) (second_digit (x - zero_byte) xs) (omega arith)
    (omega (arith, second_shortens (x - zero_byte) xs)))
    tt

minus_shortens : (t : List ℕ) → length (read_minus t).rest ≤ length t
minus_shortens [] = le_refl 0
minus_shortens (x ∷ xs) =
    left_either (suc (length xs)) (eqb x minus_byte) (record { value = true; rest = xs }) (record { value = false; rest = x ∷ xs }) (omega arith)
    (le_refl (suc (length xs)))

count_shortens : Shortens read_count
count_shortens [] = le_refl 0
count_shortens (x ∷ xs) =
    leaves_either (suc (length xs)) (eqb x count_byte) (read_number xs >>= with_count) (answered (record { value = none; rest = x ∷ xs }))
    (leaves_bind (suc (length xs)) (read_number xs) with_count (leaves_more (length xs) (suc (length xs)) (read_number xs) (omega arith) (number_shortens xs))
    (λ r h. h))
    (le_refl (suc (length xs)))

move_shortens : Shortens read_move
move_shortens t = leaves_bind (length t) (read_number t) (λ a. unless (eqb a.value 0) 19 (record { value = move a.value; rest = a.rest }))
    (number_shortens t) moved
  where
    either : (b : Bool) (a : Read ℕ) → length a.rest ≤ length t → Leaves (length t) (unless b 19 (record { value = move a.value; rest = a.rest }))
    either true a h = tt
    either false a h = h

    moved : (a : Read ℕ) → length a.rest ≤ length t → Leaves (length t) (unless (eqb a.value 0) 19 (record { value = move a.value; rest = a.rest }))
    moved a h = either (eqb a.value 0) a h

close_shortens : (p : Pattern) → Shortens (read_close p)
close_shortens p [] = tt
close_shortens p (x ∷ xs) = leaves_either (suc (length xs)) (eqb x closing_byte) (answered (record { value = bracket p; rest = xs })) no_pattern (omega arith)
    tt

module _ (inner : List ℕ → Outcome (Read Pattern)) (shortens : Shortens inner) where
  body_shortens : Shortens (read_body inner)
  body_shortens [] = tt
  body_shortens (x ∷ xs) =
      leaves_either (suc (length xs)) (eqb x opening_byte) (inner xs >>= close_after) (read_move (x ∷ xs))
      (leaves_bind (suc (length xs)) (inner xs) close_after (leaves_more (length xs) (suc (length xs)) (inner xs) (omega arith) (shortens xs))
      (λ r h. leaves_more (length r.rest) (suc (length xs)) (close_after r) h (close_shortens r.value r.rest)))
      (move_shortens (x ∷ xs))

  pub item_shortens : Shortens (read_item inner)
  unfolding read_item
  item_shortens t =
      leaves_bind (length t) (read_body inner (read_minus t).rest) _
      (leaves_more (length (read_minus t).rest) (length t) (read_body inner (read_minus t).rest) (minus_shortens t) (body_shortens (read_minus t).rest))
      (λ b h. leaves_bind (length t) (read_count b.rest) _ (leaves_more (length b.rest) (length t) (read_count b.rest) h (count_shortens b.rest))
      (λ k j. j))

  -- ITEMS ONE AFTER ANOTHER

  on_shortens : (more : List ℕ → Outcome (Read Pattern)) → Shortens more → (i : Item) → Shortens (read_on more i)
  on_shortens more h i [] = le_refl 0
  on_shortens more h i (x ∷ xs) =
      leaves_either (suc (length xs)) (eqb x space_byte) (more xs >>= before i) (answered (record { value = i then nothing; rest = x ∷ xs }))
      (leaves_bind (suc (length xs)) (more xs) (before i) (leaves_more (length xs) (suc (length xs)) (more xs) (omega arith) (h xs)) (λ r j. j))
      (le_refl (suc (length xs)))

  items_shorten : (k : ℕ) → Shortens (read_items inner k)
  unfolding read_items
  items_shorten zero t = tt
  items_shorten (suc k) t =
      leaves_bind (length t) (read_item inner t) _ (item_shortens t)
      (λ i h. leaves_more (length i.rest) (length t) (read_on (read_items inner k) i.value i.rest) h
      (on_shortens (read_items inner k) (items_shorten k) i.value i.rest))

  in_shortens : Shortens (read_in inner)
  in_shortens [] = le_refl 0
  in_shortens (x ∷ xs) =
      leaves_either (suc (length xs)) (eqb x closing_byte) (answered (record { value = nothing; rest = x ∷ xs })) (read_items inner (suc (length xs)) (x ∷ xs))
      (le_refl (suc (length xs))) (items_shorten (suc (length xs)) (x ∷ xs))

  -- no item is read from no text, however many may be
  nothing_read : (k : ℕ) (t : List ℕ) → length t ≤ 0 → read_items inner k t ≡ no_pattern
  unfolding read_items read_item
  nothing_read zero t empty = refl
  nothing_read (suc k) [] empty = refl
  nothing_read (suc k) (x ∷ xs) empty = absurd (not-suc-le-zero empty)

  -- two readers of what follows that agree on shorter texts
  module _ (more less : List ℕ → Outcome (Read Pattern)) (n : ℕ) (same : (t : List ℕ) → suc (length t) ≤ n → more t ≡ less t) where
    on_same : (i : Item) (t : List ℕ) → length t ≤ n → read_on more i t ≡ read_on less i t
    on_same i [] h = refl
    on_same i (y ∷ ys) h = ap (λ o. cond (eqb y space_byte) (o >>= before i) (answered (record { value = i then nothing; rest = y ∷ ys }))) (same ys h)

    after_same : (o : Outcome (Read Item)) → Leaves n o → (o >>= λ i. read_on more i.value i.rest) ≡ (o >>= λ i. read_on less i.value i.rest)
    after_same (answered i) h = on_same i.value i.rest h
    after_same (refused k place) h = refl

  -- how many items may be read plays no part, as long as they are at least as many as bytes
  as_many : (k j : ℕ) (t : List ℕ) → length t ≤ k → length t ≤ j → read_items inner k t ≡ read_items inner j t
  unfolding read_items
  as_many zero j t p q = sym (nothing_read j t p)
  as_many (suc k) zero t p q = nothing_read (suc k) t q
  as_many (suc k) (suc j) t p q =
      after_same (read_items inner k) (read_items inner j) (length t) (λ s h. as_many k j s (omega (arith, h, p)) (omega (arith, h, q))) (read_item inner t)
      (item_shortens t)

  -- all items of a text: the first, and all items of what follows the space
  pub all_step : (t : List ℕ) → all_items inner t ≡ (read_item inner t >>= λ i. read_on (all_items inner) i.value i.rest)
  unfolding read_items read_item
  all_step [] = refl
  all_step (x ∷ xs) =
      after_same (read_items inner (length xs)) (all_items inner) (suc (length xs))
      (λ t h. as_many (length xs) (length t) t (omega (arith, h)) (le_refl (length t)))
      (read_item inner (x ∷ xs)) (item_shortens (x ∷ xs))

-- what is in a bracket, at every depth
pub within_shortens : (d : ℕ) → Shortens (within d)
unfolding read_pattern
within_shortens zero t = tt
within_shortens (suc zero) t = in_shortens (λ inner. no_pattern) (λ s. tt) t
within_shortens (suc (suc d)) t = in_shortens (read_pattern d) (within_shortens (suc d)) t
