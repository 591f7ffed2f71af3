-- A word in the workspace with a gap: the bytes before `left`, then those from `right` on.
use Rattle.std.specs.Prelude.{List, ◌++◌, map, ◌≡◌, ℕ, ◌+◌, ◌-◌, ◌≤◌, ◌<◌, length, take, drop, get_or, Result, Ok, Err}
use Rattle.model.specs.Word.{Word, letter}
use Rattle.model.specs.Reversing.{Site, nowhere, at, site}
use Rattle.engine.specs.Search.{site_from, NoneBefore}
use Rattle.engine.specs.declared.gap.Gap.{Gap}

unfoldable pub letters : List ℕ → Word
letters bytes = map letter bytes

unfoldable pub word_at : List ℕ → ℕ → ℕ → Word
unfolding letters
word_at bytes left right = letters (take left bytes ++ drop right bytes)

-- the place where a search from a gap begins: one letter before the gap, or the start where there is none
abbrev pub place_before : ℕ → ℕ
place_before left = left - 1

-- no site begins before the place of a search from the gap
pub record Searched (bytes : List ℕ) (left right : ℕ) : Type 0 where
  pub ordered : left ≤ right
  pub inside : right ≤ length bytes
  pub none_before : NoneBefore (place_before left) (word_at bytes left right)

-- the word is as it was, and `sought`, a site of it, stands at the gap: its back letter just before, its forward letter just after
pub record AtSite (sought : Site) (word : Word) (bytes : List ℕ) (left right : ℕ) : Type 0 where
  pub ordered : left ≤ right
  pub some_before : 1 ≤ left
  pub some_after : right < length bytes
  pub back_before : 128 ≤ get_or bytes (left - 1) 0
  pub forward_after : get_or bytes right 0 < 128
  pub found : sought ≡ at (letters (take (left - 1) bytes)) (get_or bytes (left - 1) 0 - 128) (get_or bytes right 0) (letters (drop (right + 1) bytes))
  pub word_kept : word_at bytes left right ≡ word

-- the leftmost site of the word stands at the gap
abbrev pub AtLeftmost : List ℕ → ℕ → ℕ → Type 0
AtLeftmost bytes left right = AtSite (site (word_at bytes left right)) (word_at bytes left right) bytes left right

-- the word is as it was and stands before the gap, and there is no such site
pub record AtEnd (sought : Site) (word : Word) (bytes : List ℕ) (left right : ℕ) : Type 0 where
  pub ordered : left ≤ right
  pub all : right ≡ length bytes
  pub none : sought ≡ nowhere
  pub word_kept : word_at bytes left right ≡ word

-- what a search finds: the first site of the word that begins at `place` or later, or that there is none
abbrev pub SeekDone : ℕ → Word → List ℕ → Result Gap Gap → Type 0
SeekDone place word bytes (Ok g) = AtSite (site_from place word) word bytes g.left g.right
SeekDone place word bytes (Err g) = AtEnd (site_from place word) word bytes g.left g.right
