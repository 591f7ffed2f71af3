-- The word that one swap would make of a word in the area, and how it stands to another.
use Rattle.std.specs.Prelude.{List, ◌∷◌, ◌++◌, true, false, ◌≡◌, ℕ, ◌+◌, ◌-◌, ◌≤◌, length, take, drop}
use Rattle.std.specs.declared.cmp.Ordering.{Ordering}
use Rattle.std.specs.declared.cmp.Ordering.TheVariants.{Less, Equal, Greater}
use Rattle.model.specs.Word.{Positive}
use Rattle.model.specs.Ways.{earlier}
use Rattle.ways.specs.declared.swap.Swap.{Swap}

-- the new word's length, and the new word
abbrev pub new_length : Swap → ℕ
new_length s = s.offset + s.put + s.rest

abbrev pub put_letters : List ℕ → Swap → Positive
put_letters cells s = take (s.put - 1) (drop (s.cell + 1) cells)

unfoldable pub new_word : List ℕ → List ℕ → Swap → Positive
new_word area cells s =
    take s.offset (drop s.word area)
    ++ ((s.first ∷ put_letters cells s) ++ take s.rest (drop (s.word + (s.offset + s.taken)) area))

-- the letters that it is read from are there
pub record Readable (area cells : List ℕ) (s : Swap) : Type 0 where
  pub inside : s.word + (s.offset + s.taken + s.rest) ≤ length area
  pub some : 1 ≤ s.put
  pub few : s.put ≤ 255
  pub held : s.cell + s.put ≤ length cells

abbrev pub OrderMeans : Positive → Positive → Ordering → Type 0
OrderMeans u v Less = earlier u v ≡ true
OrderMeans u v Equal = (earlier u v ≡ false) × (earlier v u ≡ false)
OrderMeans u v Greater = earlier v u ≡ true
