-- Cases of specification 6.18 whose sets are large, computed of the model's definitions. They stand here, not beside the other cases, so that an edit of the
-- model does not compute them again.
use mathlib.Core.List.{List, [], ◌∷◌, ◌++◌, map}
use mathlib.Core.Path.{refl}
use Prim.Native.Nat.{suc, ◌-◌}
use lib.ListN.{length, replicate}
use Rattle.model.specs.Word.{forward, back}
use Rattle.model.specs.Presentation.{Presentation, Complement, complement, complete}
use Rattle.model.specs.Reversing.{next, run, reversing}
use Rattle.model.specs.Enumeration.{range}
use Rattle.model.specs.Bits.{field, finish}
use Rattle.model.specs.Images.{read_table, read_program, table_image, program_image}
use Rattle.model.specs.Outcome.{unplaced, the_set, answered, refused, mapped}
use Rattle.model.specs.Checks.{under, side, against, cube_at, cleared}
use Rattle.model.specs.Mirror.{mirror_check}
use Rattle.model.specs.Signed.{grown_from, grown_set, same_after_both, signed_comparison, compare_signed}
use Rattle.model.proofs.Case.{Case, ◌gives◌, All}
use Rattle.model.proofs.Samples.{braid3, log, braid_bytes}

-- 16 letters, C(a,b) = b a but for the pair 15, 16: each pair before it brings two new words to the set, which makes 255 with the empty word and the letters
abbrev many16 : Complement → Presentation
many16 c =
    record {
      size = 16;
      excess = replicate 16 0;
      rows = map (λ a. map (λ b. complement (b ∷ a ∷ []) (a ∷ b ∷ [])) (range (suc a) (16 - a))) (range 1 14) ++ ((c ∷ []) ∷ [] ∷ []);
    }

abbrev pub large_sets : List {1} Case
large_sets =
    -- 36 words of three moves
    (mapped length (grown_set braid3 16 166) gives answered 36) ∷
    -- the 257th word; 256 words, and then 1 2 once more, after which a pair takes 2 steps
    (grown_set (many16 (complement (16 ∷ 15 ∷ []) (15 ∷ 16 ∷ []))) 1 1000 gives refused 22 unplaced) ∷
    (grown_set (many16 (complement (16 ∷ 15 ∷ []) (1 ∷ 2 ∷ []))) 1 1000 gives refused 11 the_set) ∷
    -- three moves: 3 -1 2 and -1 3 2
    (compare_signed braid_bytes (log 3 (forward 3 ∷ back 1 ∷ forward 2 ∷ [])) (log 3 (back 1 ∷ forward 3 ∷ forward 2 ∷ [])) 16 166
    gives answered (same_after_both 6 2)) ∷ []

pub large_sets_hold : All large_sets
unfolding complete mirror_check cleared reversing run next under side against cube_at read_table read_program table_image program_image field finish grown_from
    grown_set signed_comparison compare_signed
large_sets_hold = (refl, (refl, (refl, (refl, tt))))
