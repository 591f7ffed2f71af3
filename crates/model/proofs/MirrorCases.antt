-- Cases of specification 3.8, 6.12 and 6.13, computed of the definitions: mirrors, tables that have none, left reversing with each of its endings, and the
-- outcomes of left_reverse and mirror_clear.
use mathlib.Core.Path.{refl}
use mathlib.Core.List.{List, [], ◌∷◌}
use Rattle.model.specs.Word.{forward, back}
use Rattle.model.specs.Presentation.{Presentation, Complement, undefined, complement, complete}
use Rattle.model.specs.Reversing.{finished, open_pair, stopped, no_budget, no_room, next, run, reversing}
use Rattle.model.specs.Outcome.{unplaced, pair_of, triple_of, mirror_triple_of, answered, refused}
use Rattle.model.specs.Checks.{under, side, against, cube_at, cleared}
use Rattle.model.specs.Bits.{field, finish}
use Rattle.model.specs.Images.{read_table, read_program, table_image, program_image}
use Rattle.model.specs.Services.{left_fraction, left_reverse, clear, mirror_cleared, mirror_clear}
use Rattle.model.specs.Areas.{workspace_after}
use Rattle.model.specs.Mirror.{mirror, mirror_check, left_complete, left_next, left_run, left_reversing}
use Rattle.model.proofs.Case.{Case, ◌gives◌, All}
use Rattle.model.proofs.Samples.{braid3, braid1, open2, three, broken3, unequal2, heavy2, endless3, mirror_fails3, image, log, braid_bytes}

-- two letters and their pair
abbrev table_of_pair : Complement → Presentation
table_of_pair c = record { size = 2; excess = 0 ∷ 4 ∷ []; rows = (c ∷ []) ∷ [] ∷ [] }

-- three letters with 1 3 2 2 = 2 1, and all other pairs open
abbrev single3 : Presentation
single3 = three (complement (3 ∷ 2 ∷ 2 ∷ []) (1 ∷ [])) undefined undefined

abbrev pub mirrors : List {1} Case
mirrors =
    -- braid tables are their own
    (mirror braid1 gives braid1) ∷
    (mirror braid3 gives braid3) ∷
    (mirror open2 gives open2) ∷
    (mirror heavy2 gives heavy2) ∷
    -- the words are read backward, and stand by the last letters; weights stay with their letters
    (mirror single3 gives three (complement (2 ∷ []) (2 ∷ 3 ∷ 1 ∷ [])) undefined undefined) ∷
    (mirror (table_of_pair (complement (2 ∷ 2 ∷ []) (1 ∷ []))) gives table_of_pair (complement (2 ∷ []) (2 ∷ 1 ∷ []))) ∷
    -- an empty completion
    (mirror (table_of_pair (complement [] (2 ∷ 2 ∷ []))) gives table_of_pair (complement [] (2 ∷ 2 ∷ []))) ∷
    -- a relation of 1 and 2 that ends in 3 and 1, and so stands at 1 and 3
    (mirror (three (complement (3 ∷ []) (1 ∷ [])) undefined undefined) gives three undefined (complement (2 ∷ []) (1 ∷ [])) undefined) ∷
    -- which tables have a mirror
    (mirror_check braid3 gives answered tt) ∷
    (mirror_check open2 gives answered tt) ∷
    (mirror_check endless3 gives answered tt) ∷
    (mirror_check single3 gives answered tt) ∷
    -- 16: both sides end in the same letter
    (mirror_check broken3 gives refused 16 (pair_of 2 3)) ∷
    (mirror_check (table_of_pair (complement [] (1 ∷ []))) gives refused 16 (pair_of 1 2)) ∷
    -- 16: two relations share their last letters, in the same order and in the other one; the later is named
    (mirror_check (three (complement (3 ∷ []) []) (complement (3 ∷ []) (2 ∷ [])) undefined) gives refused 16 (pair_of 1 3)) ∷
    (mirror_check (three (complement (3 ∷ []) []) undefined (complement [] [])) gives refused 16 (pair_of 2 3)) ∷
    -- 16: both faults, the first in pair order
    (mirror_check (three (complement (3 ∷ []) []) (complement (3 ∷ []) []) (complement [] [])) gives refused 16 (pair_of 1 3)) ∷
    (mirror_check (three (complement (3 ∷ []) []) (complement [] []) (complement [] [])) gives refused 16 (pair_of 2 3)) ∷ []

abbrev pub left_reversings : List {1} Case
left_reversings =
    -- 1 -2 becomes -2 -1 2 1: the undoing of D = 1 2, then N = 2 1
    (left_reversing braid3 100 100 (forward 1 ∷ back 2 ∷ []) gives finished (2 ∷ 1 ∷ []) (1 ∷ 2 ∷ []) 1 1) ∷
    (left_reversing single3 100 100 (forward 2 ∷ back 1 ∷ []) gives finished (2 ∷ []) (1 ∷ 3 ∷ 2 ∷ []) 1 1) ∷
    -- an equal pair vanishes, and that is a step
    (left_reversing braid3 1 2 (forward 2 ∷ back 2 ∷ []) gives finished [] [] 1 0) ∷
    -- the rightmost site comes first; an open pair has its back letter first
    (left_reversing open2 100 100 (forward 1 ∷ back 2 ∷ forward 1 ∷ back 1 ∷ []) gives open_pair 2 1 1) ∷
    -- a back letter before a forward one is no site
    (left_reversing braid3 0 2 (back 1 ∷ forward 2 ∷ []) gives finished (2 ∷ []) (1 ∷ []) 0 0) ∷
    -- the stops, in the order of 3.2
    (left_reversing braid3 0 100 (forward 1 ∷ back 2 ∷ []) gives stopped no_budget) ∷
    (left_reversing braid3 1 3 (forward 1 ∷ back 2 ∷ []) gives stopped no_room) ∷
    (left_reversing braid3 0 1 (forward 1 ∷ back 2 ∷ []) gives stopped no_room) ∷
    (left_reversing open2 0 2 (forward 1 ∷ back 2 ∷ []) gives open_pair 2 1 0) ∷ []

abbrev pub left_reverses : List {1} Case
left_reverses =
    -- N, then D, both forward; 13 where they don't fit
    (left_reverse braid_bytes (log 3 (forward 1 ∷ back 2 ∷ [])) 1 4 4 gives answered (record { numerator = 2 ∷ 1 ∷ []; denominator = 1 ∷ 2 ∷ []; steps = 1 })) ∷
    (left_reverse braid_bytes (log 3 (forward 1 ∷ back 2 ∷ [])) 1 4 3 gives refused 13 unplaced) ∷
    (left_reverse braid_bytes (log 3 (forward 1 ∷ back 2 ∷ [])) 0 4 4 gives refused 11 unplaced) ∷
    (left_reverse braid_bytes (log 3 (forward 1 ∷ back 2 ∷ [])) 1 3 4 gives refused 12 unplaced) ∷
    -- the program of case 1 read backward comes to the words of case 1 read backward
    (left_reverse braid_bytes (log 3 (forward 2 ∷ forward 1 ∷ back 2 ∷ forward 1 ∷ back 3 ∷ [])) 65535 32768 32768
    gives answered (record { numerator = 3 ∷ 2 ∷ 1 ∷ 1 ∷ []; denominator = 2 ∷ 3 ∷ 1 ∷ []; steps = 5 })) ∷
    (left_reverse (image open2) (log 2 (forward 1 ∷ back 2 ∷ [])) 0 2 0 gives refused 10 (pair_of 2 1)) ∷
    -- 16 comes after the program's tests, and also where no relation is needed
    (left_reverse (image broken3) (log 3 []) 0 0 0 gives refused 16 (pair_of 2 3)) ∷
    (left_reverse (image broken3) [] 0 0 0 gives refused 4 unplaced) ∷
    (left_reverse [] [] 0 0 0 gives refused 1 unplaced) ∷
    (workspace_after (left_reverse (image broken3) (log 3 []) 0 2 0) (7 ∷ 8 ∷ []) gives 7 ∷ 8 ∷ []) ∷
    (workspace_after (left_reverse braid_bytes (log 3 (forward 1 ∷ back 2 ∷ [])) 0 2 0) (7 ∷ 8 ∷ []) gives 0 ∷ 0 ∷ []) ∷ []

abbrev pub mirror_clears : List {1} Case
mirror_clears =
    (mirror_clear braid_bytes 65535 32768 gives answered tt) ∷
    (mirror_clear (image heavy2) 0 0 gives answered tt) ∷
    -- 17 and the stops name a triple of the mirror
    (clear (image mirror_fails3) 65535 32768 gives answered tt) ∷
    (mirror_clear (image mirror_fails3) 65535 32768 gives refused 17 (mirror_triple_of 1 3 2)) ∷
    (clear (image (mirror mirror_fails3)) 65535 32768 gives refused 9 (triple_of 1 3 2)) ∷
    (mirror_clear (image (mirror mirror_fails3)) 65535 32768 gives answered tt) ∷
    (mirror_clear braid_bytes 4 32768 gives refused 11 (mirror_triple_of 1 2 3)) ∷
    (mirror_clear braid_bytes 65535 10 gives refused 12 (mirror_triple_of 1 2 3)) ∷
    -- 16 comes before 8, and both before the cube check
    (mirror_clear (image broken3) 0 0 gives refused 16 (pair_of 2 3)) ∷
    (mirror_clear (image unequal2) 0 0 gives refused 8 (pair_of 1 2)) ∷
    (mirror_clear (image (table_of_pair (complement [] (1 ∷ [])))) 0 0 gives refused 16 (pair_of 1 2)) ∷
    (mirror_clear [] 0 0 gives refused 1 unplaced) ∷
    (workspace_after (mirror_clear (image broken3) 0 2) (7 ∷ 8 ∷ []) gives 7 ∷ 8 ∷ []) ∷
    (workspace_after (mirror_clear (image mirror_fails3) 65535 2) (7 ∷ 8 ∷ []) gives 0 ∷ 0 ∷ []) ∷ []

-- every case holds
pub record MirrorCases : Type 0 where
  pub mirrors_hold : All mirrors
  pub left_reversings_hold : All left_reversings
  pub left_reverses_hold : All left_reverses
  pub mirror_clears_hold : All mirror_clears

mirrors_hold : All mirrors
unfolding complete mirror_check left_complete left_next left_run left_reversing left_fraction left_reverse mirror_cleared mirror_clear clear cleared reversing
    run next
    under side against cube_at read_table read_program table_image program_image field finish
mirrors_hold = (
  refl,
  (
    refl,
    (refl, (refl, (refl, (refl, (refl, (refl, (refl, (refl, (refl, (refl, (refl, (refl, (refl, (refl, (refl, (refl, tt)))))))))))))))),
  ),
)

left_reversings_hold : All left_reversings
unfolding complete mirror_check left_complete left_next left_run left_reversing left_fraction left_reverse mirror_cleared mirror_clear clear cleared reversing
    run next
    under side against cube_at read_table read_program table_image program_image field finish
left_reversings_hold = (refl, (refl, (refl, (refl, (refl, (refl, (refl, (refl, (refl, tt)))))))))

left_reverses_hold : All left_reverses
unfolding complete mirror_check left_complete left_next left_run left_reversing left_fraction left_reverse mirror_cleared mirror_clear clear cleared reversing
    run next
    under side against cube_at read_table read_program table_image program_image field finish
left_reverses_hold = (refl, (refl, (refl, (refl, (refl, (refl, (refl, (refl, (refl, (refl, (refl, tt)))))))))))

mirror_clears_hold : All mirror_clears
unfolding complete mirror_check left_complete left_next left_run left_reversing left_fraction left_reverse mirror_cleared mirror_clear clear cleared reversing
    run next
    under side against cube_at read_table read_program table_image program_image field finish
mirror_clears_hold = (refl, (refl, (refl, (refl, (refl, (refl, (refl, (refl, (refl, (refl, (refl, (refl, (refl, (refl, tt))))))))))))))

pub mirror_cases_hold : MirrorCases
mirror_cases_hold =
    record {
      mirrors_hold = mirrors_hold;
      left_reversings_hold = left_reversings_hold;
      left_reverses_hold = left_reverses_hold;
      mirror_clears_hold = mirror_clears_hold;
    }
