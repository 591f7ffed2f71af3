-- What one turn of a reversing does to the word in the workspace.
use Rattle.std.specs.Prelude.{List, ◌++◌, ◌≡◌, ℕ, ◌+◌, ◌-◌, ◌≤◌, ◌<◌, length, take, drop, get_or}
use Rattle.model.specs.Word.{Word, inverse}
use Rattle.model.specs.Presentation.{Presentation}
use Rattle.model.specs.Reversing.{at, site, next, no_site, blocked, step}
use Rattle.engine.specs.Gap.{letters, word_at, Searched, AtEnd}
use Rattle.model.specs.Range.{Lettered}
use Rattle.cells.specs.Stands.{Serves}
use Rattle.engine.specs.declared.step.Turn.{Turn}
use Rattle.engine.specs.declared.step.Turn.TheVariants.{Final, Undefined, Stopped, Stepped}
use Rattle.model.specs.declared.answers.Stop.TheVariants.{Budget, Room}

-- the letters of a cell's word
abbrev pub cell_letters : List ℕ → ℕ → Word
cell_letters cells start = letters (take (get_or cells start 0) (drop (start + 1) cells))

-- a cell's word lies inside the cells, and there is room for it before `right`
pub record CellFits (cells : List ℕ) (at : ℕ) (bytes : List ℕ) (right : ℕ) : Type 0 where
  pub held : at + get_or cells at 0 < length cells
  pub room : get_or cells at 0 ≤ right
  pub inside : right ≤ length bytes

-- what a step puts in place of a site: the word of one cell, and behind it the inverse of the other's
abbrev pub complements : List ℕ → ℕ → ℕ → Word
complements cells to from = cell_letters cells to ++ inverse (cell_letters cells from)

-- how many letters these are
abbrev pub complements_length : List ℕ → ℕ → ℕ → ℕ
complements_length cells to from = get_or cells to 0 + get_or cells from 0

-- the words of two cells lie inside the cells, and there is room for both before `right`
pub record CellsFit (cells : List ℕ) (to from : ℕ) (bytes : List ℕ) (right : ℕ) : Type 0 where
  pub to_held : to + get_or cells to 0 < length cells
  pub from_held : from + get_or cells from 0 < length cells
  pub room : complements_length cells to from ≤ right
  pub inside : right ≤ length bytes

-- a and b are the letters of a site: that of the back letter at one place, and that of the forward letter at another
pub record PairAt (bytes : List ℕ) (at next a b : ℕ) : Type 0 where
  pub before : a ≡ get_or bytes at 0 - 128
  pub after : b ≡ get_or bytes next 0

-- `word`, of `count` letters, was written just before `right`, and no byte before it or from `right` on has changed
pub record Pushed (word : Word) (bytes : List ℕ) (right count : ℕ) (after : List ℕ) : Type 0 where
  pub same_length : length after ≡ length bytes
  pub before : take (right - count) after ≡ take (right - count) bytes
  pub pushed : letters (drop (right - count) after) ≡ word ++ letters (drop right bytes)

-- the next word is in the workspace, no site begins before the place of a search from its gap, and its letters are the presentation's
pub record Steps (T : Presentation) (word : Word) (bytes : List ℕ) (left right a b : ℕ) : Type 0 where
  pub searched : Searched bytes left right
  pub taken : next T word ≡ step a b (word_at bytes left right)
  pub lettered : Lettered T.size (word_at bytes left right)
  -- the gap stands where the two letters stood, so that the next search begins one letter before what was put in their place
  pub resumed : (p s : Word) (c d : ℕ) → site word ≡ at p c d s → left ≡ length p

-- the next word does not fit
pub record Outgrows (T : Presentation) (word : Word) (room : ℕ) : Type 0 where
  pub a : ℕ
  pub b : ℕ
  pub longer : Word
  pub taken : next T word ≡ step a b longer
  pub long : room < length longer

-- a step could be taken
pub record Goes (T : Presentation) (word : Word) : Type 0 where
  pub a : ℕ
  pub b : ℕ
  pub word' : Word
  pub taken : next T word ≡ step a b word'

-- what a turn says of the word, where `remaining` steps of the budget are left
abbrev pub TurnDone : Presentation → Word → ℕ → List ℕ → Turn → Type 0
TurnDone T word remaining bytes (Final g) = (next T word ≡ no_site) × AtEnd (site word) word bytes g.left g.right
TurnDone T word remaining bytes (Undefined p) = next T word ≡ blocked p.a p.b
TurnDone T word remaining bytes (Stopped Budget) = (remaining ≡ 0) × Goes T word
TurnDone T word remaining bytes (Stopped Room) = (1 ≤ remaining) × Outgrows T word (length bytes)
TurnDone T word remaining bytes (Stepped g p) = (1 ≤ remaining) × Steps T word bytes g.left g.right p.a p.b

-- and that under every presentation that the cells serve
abbrev pub TurnMeans : List ℕ → Word → ℕ → List ℕ → Turn → Type 0
TurnMeans cells word remaining bytes r = (T : Presentation) → Serves cells word T → TurnDone T word remaining bytes r
