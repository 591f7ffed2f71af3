-- What a call promises: its result and its values tell an outcome of which its service's promise holds.
use Rattle.std.specs.Prelude.{List, ℕ}
use Rattle.model.specs.Outcome.{Outcome}
use Rattle.braid.specs.declared.numbers.Numbers.{Numbers}
use Rattle.braid.specs.Told.{told}
use Rattle.braid.specs.Values.{Tells}

-- result and values tell some outcome of which P holds: an outcome may say more than its numbers, as `same` says how many steps were on two different letters
pub record Meant {A : Type 0} (tell : A → Numbers) (P : Outcome A → Type 0) (result : ℕ) (values : List ℕ) : Type 0 where
  pub outcome : Outcome A
  pub tells : Tells (told tell outcome) result values
  pub holds : P outcome
