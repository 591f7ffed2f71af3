-- Specification 7, what a service gives: an answer, or a refusal by its number (7.1) with its place (7.3).
use Rattle.std.specs.Prelude.{List, [], ◌∷◌, Bool, true, false, ℕ}

-- 7.3: what a refusal names: nothing, or the programs; a pair of letters; a triple of the table; a triple of its mirror; the set of 6.18
pub data Place : Type 0 where
  unplaced : Place
  pair_of : ℕ → ℕ → Place
  triple_of : ℕ → ℕ → ℕ → Place
  mirror_triple_of : ℕ → ℕ → ℕ → Place
  the_set : Place

-- 7.3: its numbers
abbrev pub place_numbers : Place → List ℕ
place_numbers unplaced = []
place_numbers (pair_of a b) = a ∷ b ∷ []
place_numbers (triple_of a b c) = a ∷ b ∷ c ∷ []
place_numbers (mirror_triple_of a b c) = a ∷ b ∷ c ∷ []
place_numbers the_set = []

-- 7: an answer, or a refusal by its number, with its place
pub data Outcome (A : Type 0) : Type 0 where
  answered : A → Outcome A
  refused : ℕ → Place → Outcome A

-- 7.2: the tests in their order: the first refusal stands
infixl 10 ◌>>=◌
abbrev pub ◌>>=◌ : {A B : Type 0} → Outcome A → (A → Outcome B) → Outcome B
answered x >>= f = f x
refused n place >>= f = refused n place

-- 7.1: a refusal without a place where the test holds, else the answer
abbrev pub unless : {A : Type 0} → Bool → ℕ → A → Outcome A
unless true n x = refused n unplaced
unless false n x = answered x

-- the same outcome with what is said of its answer
abbrev pub mapped : {A B : Type 0} → (A → B) → Outcome A → Outcome B
mapped f (answered x) = answered (f x)
mapped f (refused n place) = refused n place
