-- The model's readers, by the first byte of the text.
use mathlib.Core.Path.{◌≡◌, refl, ap}
use mathlib.Core.List.{List, [], ◌∷◌}
use mathlib.Core.Bool.{true, false, cond}
use mathlib.Core.Option.{Option, none, some}
use Prim.Native.Nat.{ℕ, zero, suc}
use lib.ListN.{length, drop}
use Rattle.model.specs.Outcome.{Outcome, answered, ◌>>=◌}
use Rattle.model.specs.Bits.{Read}
use Rattle.model.specs.Notation.{Pattern, nothing, ◌then◌, Item, Body, space_byte, opening_byte, minus_byte, count_byte}
use Rattle.model.specs.Notation.{read_number, read_minus, read_count, read_move, read_close, read_body, read_on, read_items, read_in, read_pattern}
use Rattle.model.proofs.Impossible.{impossible}
use Rattle.importing.specs.Reading.{stands_first, ends_first, within}

-- THE PARTS OF AN ITEM

pub minus_there : (t : List ℕ) → stands_first minus_byte t ≡ true → read_minus t ≡ record { value = true; rest = drop 1 t }
minus_there [] e = impossible (cc)
minus_there (x ∷ xs) e = ap (λ b. cond b (record { value = true; rest = xs }) (record { value = false; rest = x ∷ xs })) e

pub minus_none : (t : List ℕ) → stands_first minus_byte t ≡ false → read_minus t ≡ record { value = false; rest = t }
minus_none [] e = refl
minus_none (x ∷ xs) e = ap (λ b. cond b (record { value = true; rest = xs }) (record { value = false; rest = x ∷ xs })) e

abbrev pub with_count : Read ℕ → Outcome (Read (Option ℕ))
with_count k = answered (record { value = some k.value; rest = k.rest })

pub count_there : (t : List ℕ) → stands_first count_byte t ≡ true → read_count t ≡ (read_number (drop 1 t) >>= with_count)
count_there [] e = impossible (cc)
count_there (x ∷ xs) e = ap (λ b. cond b (read_number xs >>= with_count) (answered (record { value = none; rest = x ∷ xs }))) e

abbrev pub close_after : Read Pattern → Outcome (Read Body)
close_after p = read_close p.value p.rest

module _ (inner : List ℕ → Outcome (Read Pattern)) where
  pub body_bracket : (t : List ℕ) → stands_first opening_byte t ≡ true → read_body inner t ≡ (inner (drop 1 t) >>= close_after)
  body_bracket [] e = impossible (cc)
  body_bracket (x ∷ xs) e = ap (λ b. cond b (inner xs >>= close_after) (read_move (x ∷ xs))) e

  pub body_move : (t : List ℕ) → stands_first opening_byte t ≡ false → read_body inner t ≡ read_move t
  body_move [] e = refl
  body_move (x ∷ xs) e = ap (λ b. cond b (inner xs >>= close_after) (read_move (x ∷ xs))) e

-- ITEMS ONE AFTER ANOTHER

abbrev pub before : Item → Read Pattern → Outcome (Read Pattern)
before i p = answered (record { value = i then p.value; rest = p.rest })

module _ (more : List ℕ → Outcome (Read Pattern)) (i : Item) where
  pub on_space : (t : List ℕ) → stands_first space_byte t ≡ true → read_on more i t ≡ (more (drop 1 t) >>= before i)
  on_space [] e = impossible (cc)
  on_space (x ∷ xs) e = ap (λ b. cond b (more xs >>= before i) (answered (record { value = i then nothing; rest = x ∷ xs }))) e

  pub on_end : (t : List ℕ) → stands_first space_byte t ≡ false → read_on more i t ≡ answered (record { value = i then nothing; rest = t })
  on_end [] e = refl
  on_end (x ∷ xs) e = ap (λ b. cond b (more xs >>= before i) (answered (record { value = i then nothing; rest = x ∷ xs }))) e

-- all items of a text, one at least
abbrev pub all_items : (List ℕ → Outcome (Read Pattern)) → List ℕ → Outcome (Read Pattern)
all_items inner t = read_items inner (length t) t

module _ (inner : List ℕ → Outcome (Read Pattern)) where
  pub in_nothing : (t : List ℕ) → ends_first t ≡ true → read_in inner t ≡ answered (record { value = nothing; rest = t })
  in_nothing [] e = refl
  in_nothing (x ∷ xs) e = ap (λ b. cond b (answered (record { value = nothing; rest = x ∷ xs })) (read_items inner (suc (length xs)) (x ∷ xs))) e

  pub in_items : (t : List ℕ) → ends_first t ≡ false → read_in inner t ≡ all_items inner t
  in_items [] e = impossible (cc)
  in_items (x ∷ xs) e = ap (λ b. cond b (answered (record { value = nothing; rest = x ∷ xs })) (read_items inner (suc (length xs)) (x ∷ xs))) e

pub pattern_in : (d : ℕ) (t : List ℕ) → read_pattern d t ≡ read_in (within d) t
unfolding read_pattern
pattern_in zero t = refl
pattern_in (suc d) t = refl
