-- The mark of a word whose swaps were not tried, and the first word that has it.
use Rattle.std.specs.Prelude.{List, ◌≡◌, ℕ, ◌≤◌, ◌<◌, get_or, Option, Some, None}
use Rattle.spans.specs.Ends.{marked}

-- what ends a word whose swaps were not tried; 0 ends one whose swaps were
abbrev pub untried : ℕ
untried = marked

pub record UntriedFound (area : List ℕ) (used r : ℕ) : Type 0 where
  pub within : r ≤ used
  pub tried : (i : ℕ) → i < r → get_or area i 0 ≡ untried → ⊥
  pub marked : r < used → get_or area r 0 ≡ untried

abbrev pub FirstUntried : List ℕ → ℕ → Option ℕ → Type 0
FirstUntried area used None = UntriedFound area used used
FirstUntried area used (Some r) = UntriedFound area used r × (r < used)
