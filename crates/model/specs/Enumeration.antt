-- Specification 4.1: the pairs and triples of letters in their order.
use Rattle.std.specs.Prelude.{List, [], ◌∷◌, ◌++◌, map, ◌||◌, cond, ℕ, zero, suc, ◌-◌, eqb}

-- from, from + 1, .. : as many numbers as said
abbrev pub range : ℕ → ℕ → List ℕ
range from zero = []
range from (suc k) = from ∷ range (suc from) k

-- the lists made of each element, one after another
abbrev pub concat_map : {A B : Type 0} → (A → List B) → List A → List B
concat_map f [] = []
concat_map f (x ∷ xs) = f x ++ concat_map f xs

-- a pair and a triple of numbers
pub record Two : Type 0 where
  pub a : ℕ
  pub b : ℕ

pub record Three : Type 0 where
  pub a : ℕ
  pub b : ℕ
  pub c : ℕ

-- the pairs of a with the letters after it
abbrev pub row : ℕ → ℕ → List Two
row size a = map (λ b. record { a = a; b = b }) (range (suc a) (size - a))

-- 4.1: the pairs with a < b, by a and then by b
abbrev pub pairs : ℕ → List Two
pairs n = concat_map (row n) (range 1 n)

-- the numbers of a list but for a and b
abbrev pub others : ℕ → ℕ → List ℕ → List ℕ
others a b [] = []
others a b (c ∷ cs) = cond (eqb c a || eqb c b) (others a b cs) (c ∷ others a b cs)

-- 4.1: the triples of different letters with a < b and any c, by a, by b and then by c
abbrev pub triples : ℕ → List Three
triples n = concat_map (λ p. map (λ c. record { a = p.a; b = p.b; c = c }) (others p.a p.b (range 1 n))) (pairs n)
