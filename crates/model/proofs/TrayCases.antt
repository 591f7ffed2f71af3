-- Cases of trays and of the service tray (specification 5.11, 6.19 and 10).
use mathlib.Core.List.{List, [], ◌∷◌}
use mathlib.Core.Path.{refl}
use Prim.Native.Nat.{ℕ}
use lib.ListN.{replicate}
use Rattle.model.specs.Word.{back}
use Rattle.model.specs.Presentation.{Presentation, undefined, complement, complete}
use Rattle.model.specs.Reversing.{next, run, reversing}
use Rattle.model.specs.Checks.{under, side, against, cube_at, cleared}
use Rattle.model.specs.Outcome.{unplaced, pair_of, triple_of, Outcome, answered, refused}
use Rattle.model.specs.Bits.{field, finish}
use Rattle.model.specs.Images.{read_table, read_program, table_image, program_image}
use Rattle.model.specs.Services.{Verdict, same_after, different_after, read_forward, compare, comparison}
use Rattle.model.specs.Areas.{output_after, workspace_after}
use Rattle.model.specs.Tray.{read_log, read_tray, log_bytes, tray_bytes, tray}
use Rattle.model.proofs.Case.{Case, ◌gives◌, All}
use Rattle.model.proofs.Samples.{three, broken3, unequal2, image, log, pattern, braid_bytes}

-- under table S, whose image is one zero byte, against a pattern of one move
abbrev against1 : List ℕ → ℕ → ℕ → ℕ → Outcome (List (Outcome Verdict))
against1 logs budget room area = tray (0x00 ∷ []) logs (0x00 ∷ 0x10 ∷ []) budget room area

-- a tray of no logs under a table of three letters, against the empty pattern
abbrev empty3 : List ℕ → ℕ → ℕ → Outcome (List (Outcome Verdict))
empty3 table budget room = tray table (0 ∷ []) (0x00 ∷ 0x00 ∷ []) budget room 0

-- three letters of which 1 commutes with both others, whose pair is open
abbrev commuting3 : Presentation
commuting3 = three (complement (2 ∷ []) (1 ∷ [])) (complement (3 ∷ []) (1 ∷ [])) undefined

abbrev pub trays : List {1} Case
trays =
    -- an empty tray, and one that ends in the length of a log, or in its image
    (read_tray [] gives refused 24 unplaced) ∷
    (read_tray (1 ∷ []) gives refused 24 unplaced) ∷
    (read_tray (1 ∷ 0 ∷ []) gives refused 24 unplaced) ∷
    (read_tray (1 ∷ 0 ∷ 1 ∷ []) gives refused 24 unplaced) ∷
    (read_tray (2 ∷ 0 ∷ 1 ∷ 7 ∷ 0 ∷ 2 ∷ 8 ∷ []) gives refused 24 unplaced) ∷
    -- bytes that follow
    (read_tray (0 ∷ 0 ∷ []) gives refused 24 unplaced) ∷
    (read_tray (1 ∷ 0 ∷ 1 ∷ 9 ∷ 9 ∷ []) gives refused 24 unplaced) ∷
    -- no logs; logs of one byte, of two and of none; the high byte of a length comes first
    (read_tray (0 ∷ []) gives answered []) ∷
    (read_tray (2 ∷ 0 ∷ 1 ∷ 7 ∷ 0 ∷ 2 ∷ 8 ∷ 9 ∷ []) gives answered ((7 ∷ []) ∷ (8 ∷ 9 ∷ []) ∷ [])) ∷
    (read_tray (1 ∷ 0 ∷ 0 ∷ []) gives answered ([] ∷ [])) ∷
    (read_tray (1 ∷ 1 ∷ 0 ∷ replicate 256 5) gives answered (replicate 256 5 ∷ [])) ∷
    -- 64 logs are read; 65 are refused by their number, whatever follows
    (read_tray (64 ∷ replicate 128 0) gives answered (replicate 64 [])) ∷
    (read_tray (65 ∷ replicate 130 0) gives refused 23 unplaced) ∷
    (read_tray (64 ∷ []) gives refused 24 unplaced) ∷
    (read_tray (65 ∷ []) gives refused 23 unplaced) ∷ []

abbrev pub answers : List {1} Case
answers =
    -- the bytes of each verdict, and of a refusal, which has no steps
    (log_bytes (answered (same_after 258 7)) gives 0 ∷ 1 ∷ 2 ∷ []) ∷
    (log_bytes (answered (different_after 513)) gives 1 ∷ 2 ∷ 1 ∷ []) ∷
    (log_bytes (refused 11 unplaced) gives 11 ∷ 0 ∷ 0 ∷ []) ∷
    -- logs of one move, of none, of a back move; an image of no bytes and one with a byte too many
    (against1 (5 ∷ 0 ∷ 2 ∷ 0x00 ∷ 0x10 ∷ 0 ∷ 2 ∷ 0x00 ∷ 0x00 ∷ 0 ∷ 2 ∷ 0x00 ∷ 0x18 ∷ 0 ∷ 0 ∷ 0 ∷ 3 ∷ 0x00 ∷ 0x10 ∷ 0x00 ∷ []) 1 2 15 gives
    answered (answered (same_after 1 0) ∷ answered (different_after 0) ∷ refused 7 unplaced ∷ refused 4 unplaced ∷ refused 6 unplaced ∷ [])) ∷
    -- a stop is one log's, by allowance and by workspace
    (against1 (2 ∷ 0 ∷ 2 ∷ 0x00 ∷ 0x10 ∷ 0 ∷ 2 ∷ 0x00 ∷ 0x00 ∷ []) 0 2 6 gives answered (refused 11 unplaced ∷ answered (different_after 0) ∷ [])) ∷
    (against1 (2 ∷ 0 ∷ 2 ∷ 0x00 ∷ 0x10 ∷ 0 ∷ 2 ∷ 0x00 ∷ 0x00 ∷ []) 1 1 6 gives answered (refused 12 unplaced ∷ answered (different_after 0) ∷ [])) ∷
    -- a letter that the table has not; the log is the first program, 1 2 1, and the pattern the second, 2 1 2
    (tray braid_bytes (2 ∷ 0 ∷ 2 ∷ 0x00 ∷ 0x36 ∷ 0 ∷ 3 ∷ 0x00 ∷ 0x30 ∷ 0x40 ∷ []) (pattern 3 (2 ∷ 1 ∷ 2 ∷ [])) 65535 32768 6 gives
    answered (refused 5 unplaced ∷ answered (same_after 5 1) ∷ [])) ∷
    -- and not the other way round: under 1 2 = 2 1 and 1 3 = 3 1 the log 1 3 meets the open pair of 3 and 2 after one step, 2 1 in its place after two
    (tray (image commuting3) (1 ∷ 0 ∷ 3 ∷ 0x00 ∷ 0x20 ∷ 0x80 ∷ []) (pattern 3 (2 ∷ 1 ∷ [])) 100 100 3 gives answered (answered (different_after 1) ∷ [])) ∷
    -- no logs
    (against1 (0 ∷ []) 0 0 0 gives answered []) ∷
    -- the answer area, as it was behind the answers
    (output_after tray_bytes (against1 (2 ∷ 0 ∷ 0 ∷ 0 ∷ 2 ∷ 0x00 ∷ 0x10 ∷ []) 1 2 8) (replicate 8 9) gives 4 ∷ 0 ∷ 0 ∷ 0 ∷ 0 ∷ 1 ∷ 9 ∷ 9 ∷ []) ∷ []

abbrev pub orders : List {1} Case
orders =
    -- the tray before the table, the table before the pattern, the pattern before the clearing
    (tray [] [] [] 0 0 0 gives refused 24 unplaced) ∷
    (tray [] (65 ∷ []) [] 0 0 0 gives refused 23 unplaced) ∷
    (tray [] (0 ∷ []) [] 0 0 0 gives refused 1 unplaced) ∷
    (tray (0x01 ∷ []) (0 ∷ []) [] 0 0 0 gives refused 3 unplaced) ∷
    (tray (image broken3) (0 ∷ []) [] 0 0 0 gives refused 4 unplaced) ∷
    (tray (image broken3) (0 ∷ []) (log 3 (back 1 ∷ [])) 0 0 0 gives refused 7 unplaced) ∷
    -- the pattern before a log that is refused, and after one that would be
    (tray (0x00 ∷ []) (1 ∷ 0 ∷ 2 ∷ 0x00 ∷ 0x18 ∷ []) [] 1 2 3 gives refused 4 unplaced) ∷
    -- the clearing, with no log too, before 13
    (empty3 (image broken3) 65535 32768 gives refused 9 (triple_of 1 2 3)) ∷
    (empty3 braid_bytes 0 32768 gives refused 11 (triple_of 1 2 3)) ∷
    (empty3 braid_bytes 65535 0 gives refused 12 (triple_of 1 2 3)) ∷
    (tray (image unequal2) (0 ∷ []) (0x00 ∷ 0x00 ∷ []) 0 0 0 gives refused 8 (pair_of 1 2)) ∷
    (tray (image unequal2) (1 ∷ 0 ∷ 0 ∷ []) (0x00 ∷ 0x00 ∷ []) 0 0 2 gives refused 8 (pair_of 1 2)) ∷
    -- 13 by three bytes a log, before a log is read
    (against1 (1 ∷ 0 ∷ 0 ∷ []) 0 0 2 gives refused 13 unplaced) ∷
    (against1 (1 ∷ 0 ∷ 0 ∷ []) 0 0 3 gives answered (refused 4 unplaced ∷ [])) ∷
    (against1 (2 ∷ 0 ∷ 0 ∷ 0 ∷ 0 ∷ []) 0 0 5 gives refused 13 unplaced) ∷
    -- the workspace: as found after 23 and 24, all zero after 13 and after an answer, of no logs too
    (workspace_after (against1 [] 0 2 0) (7 ∷ 8 ∷ []) gives 7 ∷ 8 ∷ []) ∷
    (workspace_after (against1 (65 ∷ []) 0 2 0) (7 ∷ 8 ∷ []) gives 7 ∷ 8 ∷ []) ∷
    (workspace_after (against1 (1 ∷ 0 ∷ 0 ∷ []) 0 2 2) (7 ∷ 8 ∷ []) gives 0 ∷ 0 ∷ []) ∷
    (workspace_after (against1 (0 ∷ []) 0 2 0) (7 ∷ 8 ∷ []) gives 0 ∷ 0 ∷ []) ∷
    (workspace_after (against1 (1 ∷ 0 ∷ 0 ∷ []) 0 2 3) (7 ∷ 8 ∷ []) gives 0 ∷ 0 ∷ []) ∷ []

-- every case holds
pub record TrayCases : Type 0 where
  pub trays_hold : All trays
  pub answers_hold : All answers
  pub orders_hold : All orders

trays_hold : All trays
unfolding complete cleared reversing run next under side against cube_at read_table read_program read_forward table_image program_image field finish compare
    comparison read_log read_tray tray
trays_hold = (refl, (refl, (refl, (refl, (refl, (refl, (refl, (refl, (refl, (refl, (refl, (refl, (refl, (refl, (refl, tt)))))))))))))))

answers_hold : All answers
unfolding complete cleared reversing run next under side against cube_at read_table read_program read_forward table_image program_image field finish compare
    comparison read_log read_tray tray
answers_hold = (refl, (refl, (refl, (refl, (refl, (refl, (refl, (refl, (refl, (refl, tt))))))))))

orders_hold : All orders
unfolding complete cleared reversing run next under side against cube_at read_table read_program read_forward table_image program_image field finish compare
    comparison read_log read_tray tray
orders_hold = (
  refl,
  (
    refl,
    (refl, (refl, (refl, (refl, (refl, (refl, (refl, (refl, (refl, (refl, (refl, (refl, (refl, (refl, (refl, (refl, (refl, (refl, tt)))))))))))))))))),
  ),
)

pub tray_cases_hold : TrayCases
tray_cases_hold =
    record {
      trays_hold = trays_hold;
      answers_hold = answers_hold;
      orders_hold = orders_hold;
    }
