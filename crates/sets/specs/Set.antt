-- What growing the set comes to, for every table of so many letters that the cells stand for.
use Rattle.std.specs.Prelude.{List, ◌≡◌, ℕ, length, Result}
use Rattle.model.specs.Word.{Positive}
use Rattle.model.specs.Presentation.{Presentation}
use Rattle.model.specs.Outcome.{mapped}
use Rattle.model.specs.Signed.{most_words, grown_from, grown_set}
use Rattle.cells.specs.Stands.{Stands, Of}
use Rattle.sets.specs.declared.growing.Held.{Held}
use Rattle.sets.specs.declared.growing.SetFault.{SetFault}
use Rattle.sets.specs.Growing.{grown_as, Growing}

-- some words are listed, with the letters of a table in the cells
abbrev pub Growable : List ℕ → List ℕ → Held → Type 0
Growable cells area h = (T : Presentation) × (vs : List Positive) × Stands cells T × Growing T.size area h vs

-- all places were gone through from the first on
abbrev pub GrownMeans : List ℕ → List ℕ → Held → ℕ → Result (Unit {0}) SetFault → Type 0
GrownMeans cells area h budget r =
    (T : Presentation) (vs : List Positive) → Stands cells T → Growing T.size area h vs
    → grown_as r ≡ mapped (λ ws. tt) (grown_from T budget (length area) most_words 0 vs)

abbrev pub SetMeans : List ℕ → ℕ → ℕ → ℕ → Result (Unit {0}) SetFault → Type 0
SetMeans cells size room budget r = (T : Presentation) → Of cells size T → grown_as r ≡ mapped (λ vs. tt) (grown_set T budget room)
