-- The report of the example (specification 9.3), and the other shapes that a report has, computed.
use mathlib.Core.List.{List, [], ◌∷◌, ◌++◌}
use mathlib.Core.Path.{refl}
use Rattle.model.specs.Word.{forward, back}
use Rattle.model.specs.Presentation.{complete}
use Rattle.model.specs.Reversing.{next, run, reversing}
use Rattle.model.specs.Bits.{field, finish}
use Rattle.model.specs.Images.{read_table, read_program, table_image, program_image}
use Rattle.model.specs.Services.{reverse}
use Rattle.model.proofs.Case.{Case, ◌gives◌, All}
use Rattle.model.proofs.Samples.{open2, image, log, braid_bytes, first_bytes}
use Rattle.text.specs.Text.{number, numbers_text, word_text, answer_text, report}

abbrev pub numbers : List {1} Case
numbers =
    (number 0 gives 48 ∷ []) ∷
    (number 9 gives 57 ∷ []) ∷
    (number 10 gives 49 ∷ 48 ∷ []) ∷
    (number 1005 gives 49 ∷ 48 ∷ 48 ∷ 53 ∷ []) ∷
    (number 65535 gives 54 ∷ 53 ∷ 53 ∷ 51 ∷ 53 ∷ []) ∷ []

pub numbers_hold : All numbers
unfolding number
numbers_hold = (refl, (refl, (refl, (refl, (refl, tt)))))

abbrev pub reports : List {1} Case
reports =
    -- the example
    (report braid_bytes first_bytes gives
    -- moves 3
    109 ∷ 111 ∷ 118 ∷ 101 ∷ 115 ∷ 32 ∷ 51 ∷ 10 ∷
    -- program -3 1 -2 1 2
    112 ∷ 114 ∷ 111 ∷ 103 ∷ 114 ∷ 97 ∷ 109 ∷ 32 ∷ 45 ∷ 51 ∷ 32 ∷ 49 ∷ 32 ∷ 45 ∷ 50 ∷ 32 ∷ 49 ∷ 32 ∷ 50 ∷ 10 ∷
    -- numerator 1 1 2 3
    110 ∷ 117 ∷ 109 ∷ 101 ∷ 114 ∷ 97 ∷ 116 ∷ 111 ∷ 114 ∷ 32 ∷ 49 ∷ 32 ∷ 49 ∷ 32 ∷ 50 ∷ 32 ∷ 51 ∷ 10 ∷
    -- denominator 1 3 2
    100 ∷ 101 ∷ 110 ∷ 111 ∷ 109 ∷ 105 ∷ 110 ∷ 97 ∷ 116 ∷ 111 ∷ 114 ∷ 32 ∷ 49 ∷ 32 ∷ 51 ∷ 32 ∷ 50 ∷ 10 ∷
    -- steps 5
    115 ∷ 116 ∷ 101 ∷ 112 ∷ 115 ∷ 32 ∷ 53 ∷ 10 ∷ []) ∷
    -- an empty program: three labels alone on their lines
    (report braid_bytes (0 ∷ 0 ∷ []) gives
    109 ∷ 111 ∷ 118 ∷ 101 ∷ 115 ∷ 32 ∷ 51 ∷ 10 ∷
    112 ∷ 114 ∷ 111 ∷ 103 ∷ 114 ∷ 97 ∷ 109 ∷ 10 ∷
    110 ∷ 117 ∷ 109 ∷ 101 ∷ 114 ∷ 97 ∷ 116 ∷ 111 ∷ 114 ∷ 10 ∷
    100 ∷ 101 ∷ 110 ∷ 111 ∷ 109 ∷ 105 ∷ 110 ∷ 97 ∷ 116 ∷ 111 ∷ 114 ∷ 10 ∷
    115 ∷ 116 ∷ 101 ∷ 112 ∷ 115 ∷ 32 ∷ 48 ∷ 10 ∷ []) ∷
    -- refused 1
    (report [] first_bytes gives 114 ∷ 101 ∷ 102 ∷ 117 ∷ 115 ∷ 101 ∷ 100 ∷ 32 ∷ 49 ∷ 10 ∷ []) ∷
    -- refused 6
    (report braid_bytes (first_bytes ++ (0 ∷ [])) gives 114 ∷ 101 ∷ 102 ∷ 117 ∷ 115 ∷ 101 ∷ 100 ∷ 32 ∷ 54 ∷ 10 ∷ []) ∷
    -- refused 10 1 2
    (report (image open2) (log 2 (back 1 ∷ forward 2 ∷ [])) gives
    114 ∷ 101 ∷ 102 ∷ 117 ∷ 115 ∷ 101 ∷ 100 ∷ 32 ∷ 49 ∷ 48 ∷ 32 ∷ 49 ∷ 32 ∷ 50 ∷ 10 ∷ []) ∷ []

pub reports_hold : All reports
unfolding report answer_text word_text numbers_text number reverse read_table read_program table_image program_image field finish reversing run next complete
reports_hold = (refl, (refl, (refl, (refl, (refl, tt)))))
