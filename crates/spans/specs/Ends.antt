-- Bytes that end words in an area, and what is found by them.
use Rattle.std.specs.Prelude.{List, Bool, true, false, ◌≡◌, ℕ, ◌-◌, ◌%◌, ◌≤◌, ◌<◌, eqb, length, get_or}

-- what ends a word that is marked; 0 ends any other
abbrev pub marked : ℕ
marked = 128

abbrev pub is_ending : ℕ → Bool
is_ending x = eqb (x % marked) 0

-- no byte from a place on, and before another, ends a word
abbrev pub Inside : List ℕ → ℕ → ℕ → Type 0
Inside area from to = (i : ℕ) → from ≤ i → i < to → is_ending (get_or area i 0) ≡ false

pub record StartFound (area : List ℕ) (low at r : ℕ) : Type 0 where
  pub after : low ≤ r
  pub before : r ≤ at
  pub letters : Inside area r at
  pub begins : low < r → is_ending (get_or area (r - 1) 0) ≡ true

-- some byte from a place on ends a word
pub record HasEnd (area : List ℕ) (at : ℕ) : Type 0 where
  pub end : ℕ
  pub after : at ≤ end
  pub inside : end < length area
  pub ends : is_ending (get_or area end 0) ≡ true

pub record EndFound (area : List ℕ) (at r : ℕ) : Type 0 where
  pub after : at ≤ r
  pub inside : r < length area
  pub letters : Inside area at r
  pub ends : is_ending (get_or area r 0) ≡ true
