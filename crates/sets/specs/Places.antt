-- What taking the pairs of one place does.
use Rattle.std.specs.Prelude.{List, map, Bool, ℕ, suc, leb, ltb, length, Result}
use Rattle.model.specs.Word.{Positive}
use Rattle.model.specs.Presentation.{Presentation}
use Rattle.model.specs.Enumeration.{range, Two}
use Rattle.model.specs.Signed.{taken_pairs}
use Rattle.cells.specs.Stands.{Stands}
use Rattle.sets.specs.declared.words.Span.{Span}
use Rattle.sets.specs.declared.growing.Held.{Held}
use Rattle.sets.specs.declared.growing.SetFault.{SetFault}
use Rattle.sets.specs.declared.places.Side.{Side}
use Rattle.sets.specs.declared.places.Side.TheVariants.{Second, First}
use Rattle.sets.specs.Listed.{Placed}
use Rattle.sets.specs.Growing.{Growing, StepMeans}

-- whether the word that begins at a byte is taken with the later one, which begins at `last`
abbrev pub is_taken : Side → ℕ → ℕ → Bool
is_taken Second at last = ltb at last
is_taken First at last = leb at last

-- of two words, the one where the later word is first, and the other where it is second
abbrev pub chosen_of : Side → Span → Span → Span
chosen_of Second one other = other
chosen_of First one other = one

-- of the pairs of a place (`places_at`), those with the later word on a side: their places, how many they are, and they themselves
abbrev pub sided_pair : Side → ℕ → ℕ → Two
sided_pair Second m i = record { a = i; b = m }
sided_pair First m j = record { a = m; b = j }

abbrev pub sided_count : Side → ℕ → ℕ
sided_count Second m = m
sided_count First m = suc m

abbrev pub sided : Side → ℕ → List Two
sided side m = map (sided_pair side m) (range 0 (sided_count side m))

-- a word of the list, which has the place m
pub record LaterWord (cells area : List ℕ) (h : Held) (later : Span) (T : Presentation) (vs : List Positive) (m : ℕ) : Type 0 where
  pub stands : Stands cells T
  pub growing : Growing T.size area h vs
  pub placed : Placed vs m later

abbrev pub Later : List ℕ → List ℕ → Held → Span → Type 0
Later cells area h later = (T : Presentation) × (vs : List Positive) × (m : ℕ) × LaterWord cells area h later T vs m

-- some pairs of its place were taken
abbrev pub PlacesMean : (ℕ → List Two) → List ℕ → List ℕ → Held → Span → ℕ → List ℕ → Result Held SetFault → Type 0
PlacesMean pairs cells area h later budget after r =
    (T : Presentation) (vs : List Positive) (m : ℕ) → LaterWord cells area h later T vs m
    → StepMeans T.size after vs (taken_pairs T budget (length area) (pairs m) vs) r
