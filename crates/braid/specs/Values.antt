-- The result and the four values that a call of C has.
use Rattle.std.specs.Prelude.{List, [], ◌∷◌, ◌≡◌, ℕ}
use Rattle.braid.specs.declared.numbers.Numbers.{Numbers}

pub record Tells (n : Numbers) (result : ℕ) (values : List ℕ) : Type 0 where
  pub code : result ≡ n.code
  pub values_are : values ≡ n.first ∷ n.second ∷ n.third ∷ n.fourth ∷ []
