-- The listed words: from the area's start on, one after the other, a zero byte after each.
use Rattle.std.specs.Prelude.{List, [], Bool, ◌≡◌, ℕ, ◌≤◌, ◌<◌, length, get_or, take}
use Rattle.model.specs.Word.{Positive, positive}
use Rattle.model.specs.Range.{All, Lettered}
use Rattle.model.specs.Ways.{listing_bytes}
use Rattle.model.specs.Signed.{is_listed, set_bytes}
use Rattle.model.specs.Images.{most_size}
use Rattle.sets.specs.declared.words.Span.{Span}

-- the first bytes are the words, whose letters are among n, as many as a table can have
pub record Lists (n : ℕ) (area : List ℕ) (used : ℕ) (vs : List Positive) : Type 0 where
  pub inside : used ≤ length area
  pub bytes : take used area ≡ listing_bytes vs
  pub few : n ≤ most_size
  pub named : All (λ w. Lettered n (positive w)) vs

abbrev pub Listing : List ℕ → ℕ → Type 0
Listing area used = (n : ℕ) × (vs : List Positive) × Lists n area used vs

-- whether a word is one of those that make up the listing
abbrev pub ListedMeans : List ℕ → List ℕ → Bool → Type 0
ListedMeans listing word r = (n : ℕ) (vs : List Positive) → Lists n listing (length listing) vs → r ≡ is_listed word vs

-- a word of the list, by its place there: where it begins, and its length
pub record Placed (vs : List Positive) (i : ℕ) (s : Span) : Type 0 where
  pub inside : i < length vs
  pub at_is : s.at ≡ set_bytes (take i vs)
  pub letters_is : s.letters ≡ length (get_or vs i [])
