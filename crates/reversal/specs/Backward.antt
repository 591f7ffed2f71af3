-- Two words read backward.
use Rattle.std.specs.Prelude.{List, ◌++◌, reverse, ◌≡◌, ℕ, length}

-- two words one after the other, the first of n letters, are each turned around
abbrev pub WordsTurned : ℕ → List ℕ → List ℕ → Type 0
WordsTurned n before after = (first second : List ℕ) → length first ≡ n → before ≡ first ++ second → after ≡ reverse first ++ reverse second
