-- Specification 7.3 and 8.3: a refusal's numbers, as src/refusals.rt has them.
use Rattle.std.specs.Prelude.{[], ◌∷◌, ◌≡◌, ℕ, ◌≤◌, take}
use Rattle.model.specs.Outcome.{Place, unplaced, pair_of, triple_of, mirror_triple_of, the_set, place_numbers}
use Rattle.numbering.specs.declared.refusals.RefusalNumbers.{RefusalNumbers}

-- 8.3: what the place is (0 none or the programs, 1 a pair, 2 a triple of the table, 3 a triple of the mirror, 4 the set), its numbers, and how many
-- numbers there are with the refusal's own
abbrev pub numbers_told : ℕ → Place → RefusalNumbers
numbers_told n unplaced = record { number = n; place = 0; a = 0; b = 0; c = 0; count = 1 }
numbers_told n (pair_of a b) = record { number = n; place = 1; a = a; b = b; c = 0; count = 3 }
numbers_told n (triple_of a b c) = record { number = n; place = 2; a = a; b = b; c = c; count = 4 }
numbers_told n (mirror_triple_of a b c) = record { number = n; place = 3; a = a; b = b; c = c; count = 4 }
numbers_told n the_set = record { number = n; place = 4; a = 0; b = 0; c = 0; count = 1 }

pub record RefusalTold (r : RefusalNumbers) (number : ℕ) (place : Place) : Type 0 where
  pub told : r ≡ numbers_told number place
  pub few : r.count ≤ 4
  pub listed : take r.count (r.number ∷ r.a ∷ r.b ∷ r.c ∷ []) ≡ number ∷ place_numbers place
