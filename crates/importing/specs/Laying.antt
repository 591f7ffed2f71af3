-- Moves laid out in an area.
use Rattle.std.specs.Prelude.{List, [], ◌++◌, Bool, ◌≡◌, ℕ, zero, suc, ◌+◌, ◌*◌, ◌≤◌, length, take, drop}
use Rattle.model.specs.Word.{Word}
use Rattle.model.specs.Outcome.{Outcome, answered, refused}
use Rattle.model.specs.Areas.{written}
use Rattle.model.specs.Bits.{Read}
use Rattle.model.specs.Plain.{most_letters}
use Rattle.model.specs.Notation.{Pattern, Item, Body, repeated, undone, meaning, item_meaning, body_meaning, moves, item_moves, body_moves}
use Rattle.model.specs.Notation.{body_highest}
use Rattle.engine.specs.Gap.{letters}
use Rattle.importing.specs.declared.writing.Laid.{Laid}

-- the letters of a word stand from a place on, and no other byte has changed
pub record WordPut (before : List ℕ) (from : ℕ) (w : Word) (after : List ℕ) : Type 0 where
  pub bytes : List ℕ
  pub mean : letters bytes ≡ w
  pub inside : from + length bytes ≤ length before
  pub put : after ≡ written before from bytes

-- bytes so many times
abbrev pub copies : ℕ → List ℕ → List ℕ
copies zero b = []
copies (suc k) b = b ++ copies k b

-- `count` bytes from a place on fit some number of times, at least once, up to `end`
pub record Repeatable (from count end room : ℕ) : Type 0 where
  pub some : 1 ≤ count
  pub times : ℕ
  pub once : 1 ≤ times
  pub ends : end ≡ from + times * count
  pub inside : end ≤ room

-- they stand so often
abbrev pub Repeats : List ℕ → ℕ → ℕ → ℕ → List ℕ → Type 0
Repeats before from count end after = (k : ℕ) → end ≡ from + k * count → after ≡ written before from (copies k (take count (drop from before)))

-- their letters stand so often, and undone where there is a minus
abbrev pub Finishes : List ℕ → ℕ → ℕ → ℕ → Bool → List ℕ → Type 0
Finishes before from count end minus after =
    (k : ℕ) → end ≡ from + k * count → WordPut before from (undone minus (repeated k (letters (take count (drop from before))))) after

-- an item that is read, with no more moves than a program has and than there is room for
abbrev pub ItemFits : Outcome (Read Item) → ℕ → ℕ → Type 0
ItemFits (answered i) from room = (item_moves i.value ≤ most_letters) × (from + item_moves i.value ≤ room)
ItemFits (refused n place) from room = ⊥

-- its moves are laid out, and the places are told where the text and the moves go on
abbrev pub ItemLaid : Outcome (Read Item) → List ℕ → List ℕ → ℕ → List ℕ → Laid → Type 0
ItemLaid (answered i) text before from after laid =
    WordPut before from (item_meaning i.value) after × (drop laid.next text ≡ i.rest) × (laid.end ≡ from + item_moves i.value)
ItemLaid (refused n place) text before from after laid = Unit {0}

-- a body that is read, with this highest number, and with no more moves than a program has and than there is room for
abbrev pub BodyFits : Outcome (Read Body) → ℕ → ℕ → ℕ → Type 0
BodyFits (answered b) number from room =
    (body_highest b.value ≡ number) × (body_moves b.value ≤ most_letters) × (from + body_moves b.value ≤ room)
BodyFits (refused n place) number from room = ⊥

-- its moves stand once, up to `end`
abbrev pub BodyLaid : Outcome (Read Body) → List ℕ → ℕ → List ℕ → ℕ → Type 0
BodyLaid (answered b) before from after end = WordPut before from (body_meaning b.value) after × (end ≡ from + body_moves b.value)
BodyLaid (refused n place) before from after end = Unit {0}

-- the same of a pattern
abbrev pub PatternFits : Outcome (Read Pattern) → ℕ → ℕ → Type 0
PatternFits (answered p) from room = (moves p.value ≤ most_letters) × (from + moves p.value ≤ room)
PatternFits (refused n place) from room = ⊥

abbrev pub PatternLaid : Outcome (Read Pattern) → List ℕ → ℕ → List ℕ → ℕ → Type 0
PatternLaid (answered p) before from after end = WordPut before from (meaning p.value) after × (end ≡ from + moves p.value)
PatternLaid (refused n place) before from after end = Unit {0}
