-- The search for a site from a place on, over words alone (specification 3.1). A place is a position in the word, from 0 on.
use Rattle.std.specs.Prelude.{[], ◌∷◌, ◌++◌, ◌≡◌, ℕ, zero, suc, ◌≤◌, length}
use Rattle.model.specs.Word.{Word, forward, back}
use Rattle.model.specs.Reversing.{Site, nowhere, beyond, site}

-- the first site that begins at `place` or later, whatever lies before
unfoldable pub site_from : ℕ → Word → Site
site_from zero w = site w
site_from (suc place) [] = nowhere
site_from (suc place) (x ∷ w) = beyond x (site_from place w)

-- no site begins before `place`: wherever a back letter stands directly before a forward one, that is at `place` or later
abbrev pub NoneBefore : ℕ → Word → Type 0
NoneBefore place w = (p s : Word) (a b : ℕ) → w ≡ p ++ (back a ∷ forward b ∷ s) → place ≤ length p
