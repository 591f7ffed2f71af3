-- Cases of the search, computed of its definition: the example after two steps, 1 -3 1 2 -1 -2 2 (specification 3.4). The second step put the
-- letters from place 2 on.
use mathlib.Core.List.{List, [], ◌∷◌}
use mathlib.Core.Path.{refl}
use Rattle.model.specs.Word.{Word, forward, back}
use Rattle.model.specs.Reversing.{nowhere, at}
use Rattle.model.proofs.Case.{Case, ◌gives◌, All}
use Rattle.engine.specs.Search.{site_from}

abbrev example : Word
example = forward 1 ∷ back 3 ∷ forward 1 ∷ forward 2 ∷ back 1 ∷ back 2 ∷ forward 2 ∷ []

abbrev pub searches : List {1} Case
searches =
    -- from one letter before the replaced ones it is the leftmost site
    (site_from 0 example gives at (forward 1 ∷ []) 3 1 (forward 2 ∷ back 1 ∷ back 2 ∷ forward 2 ∷ [])) ∷
    (site_from 1 example gives at (forward 1 ∷ []) 3 1 (forward 2 ∷ back 1 ∷ back 2 ∷ forward 2 ∷ [])) ∷
    -- from the first replaced letter it is another one: what begins before the place is not found
    (site_from 2 example gives at (forward 1 ∷ back 3 ∷ forward 1 ∷ forward 2 ∷ back 1 ∷ []) 2 2 []) ∷
    (site_from 5 example gives at (forward 1 ∷ back 3 ∷ forward 1 ∷ forward 2 ∷ back 1 ∷ []) 2 2 []) ∷
    -- from the last letter and from past the end there is none
    (site_from 6 example gives nowhere) ∷
    (site_from 9 example gives nowhere) ∷ []

pub searches_hold : All searches
unfolding site_from
searches_hold = (refl, (refl, (refl, (refl, (refl, (refl, tt))))))
