-- Cases of specification 6.15 and 6.16, computed of the definitions: enquiries, and commits with their numbers and with others.
use mathlib.Core.Path.{refl}
use mathlib.Core.List.{List, [], ◌∷◌}
use Prim.Native.Nat.{ℕ}
use Rattle.model.specs.Word.{forward, back}
use Rattle.model.specs.Presentation.{complete}
use Rattle.model.specs.Reversing.{next, run, reversing}
use Rattle.model.specs.Outcome.{unplaced, pair_of, answered, refused}
use Rattle.model.specs.Bits.{field, finish}
use Rattle.model.specs.Images.{read_table, read_program, table_image, program_image}
use Rattle.model.specs.Services.{Sizes, enquire, commit}
use Rattle.model.specs.Areas.{workspace_after}
use Rattle.model.proofs.Case.{Case, ◌gives◌, All}
use Rattle.model.proofs.Samples.{open2, image, log, braid_bytes, first_bytes}

-- three numbers
abbrev numbers : ℕ → ℕ → ℕ → Sizes
numbers n d k = record { numerator = n; denominator = d; steps = k }

abbrev pub enquiries : List {1} Case
enquiries =
    (enquire braid_bytes first_bytes 5 9 gives answered (numbers 4 3 5)) ∷
    (enquire braid_bytes first_bytes 4 9 gives refused 11 unplaced) ∷
    (enquire braid_bytes first_bytes 5 8 gives refused 12 unplaced) ∷
    (enquire (image open2) (log 2 (back 1 ∷ forward 2 ∷ [])) 0 2 gives refused 10 (pair_of 1 2)) ∷
    (enquire braid_bytes [] 5 9 gives refused 4 unplaced) ∷
    (enquire [] [] 5 9 gives refused 1 unplaced) ∷
    (workspace_after (enquire braid_bytes first_bytes 5 2) (7 ∷ 8 ∷ []) gives 0 ∷ 0 ∷ []) ∷
    (workspace_after (enquire braid_bytes [] 5 2) (7 ∷ 8 ∷ []) gives 7 ∷ 8 ∷ []) ∷ []

abbrev pub commits : List {1} Case
commits =
    (commit braid_bytes first_bytes 5 9 (numbers 4 3 5) 7
    gives answered (record { numerator = 1 ∷ 1 ∷ 2 ∷ 3 ∷ []; denominator = 1 ∷ 3 ∷ 2 ∷ []; steps = 5 })) ∷
    (commit braid_bytes first_bytes 5 9 (numbers 4 3 5) 6 gives refused 13 unplaced) ∷
    -- each number alone, two with the same sum, and 18 before 13
    (commit braid_bytes first_bytes 5 9 (numbers 3 3 5) 7 gives refused 18 unplaced) ∷
    (commit braid_bytes first_bytes 5 9 (numbers 4 4 5) 7 gives refused 18 unplaced) ∷
    (commit braid_bytes first_bytes 5 9 (numbers 4 3 4) 7 gives refused 18 unplaced) ∷
    (commit braid_bytes first_bytes 5 9 (numbers 3 4 5) 7 gives refused 18 unplaced) ∷
    (commit braid_bytes first_bytes 5 9 (numbers 5 2 5) 0 gives refused 18 unplaced) ∷
    -- 10, 11 and 12 come before 18
    (commit braid_bytes first_bytes 4 9 (numbers 0 0 0) 7 gives refused 11 unplaced) ∷
    (commit braid_bytes first_bytes 5 8 (numbers 0 0 0) 7 gives refused 12 unplaced) ∷
    (commit (image open2) (log 2 (back 1 ∷ forward 2 ∷ [])) 0 2 (numbers 0 0 0) 0 gives refused 10 (pair_of 1 2)) ∷
    (commit braid_bytes [] 5 9 (numbers 4 3 5) 7 gives refused 4 unplaced) ∷
    (workspace_after (commit braid_bytes (log 3 []) 0 2 (numbers 1 0 0) 0) (7 ∷ 8 ∷ []) gives 0 ∷ 0 ∷ []) ∷ []

-- every case holds
pub record EnquiryCases : Type 0 where
  pub enquiries_hold : All enquiries
  pub commits_hold : All commits

enquiries_hold : All enquiries
unfolding table_image program_image field finish read_table read_program enquire commit reversing run next complete
enquiries_hold = (refl, (refl, (refl, (refl, (refl, (refl, (refl, (refl, tt))))))))

commits_hold : All commits
unfolding table_image program_image field finish read_table read_program enquire commit reversing run next complete
commits_hold = (refl, (refl, (refl, (refl, (refl, (refl, (refl, (refl, (refl, (refl, (refl, (refl, tt))))))))))))

pub enquiry_cases_hold : EnquiryCases
enquiry_cases_hold =
    record {
      enquiries_hold = enquiries_hold;
      commits_hold = commits_hold;
    }
