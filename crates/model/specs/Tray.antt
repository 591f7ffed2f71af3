-- Specification 5.11 and 6.19: a tray of logs, each compared with one pattern under a table that is cleared once.
use Rattle.std.specs.Prelude.{List, [], ◌∷◌, map, cond, ℕ, ◌+◌, ◌*◌, ◌/◌, ◌%◌, ltb, length, take, drop}
use Rattle.model.specs.Enumeration.{concat_map}
use Rattle.model.specs.Outcome.{unplaced, Outcome, answered, refused, ◌>>=◌, unless}
use Rattle.model.specs.Bits.{Read}
use Rattle.model.specs.Images.{several}
use Rattle.model.specs.Checks.{cleared}
use Rattle.model.specs.Services.{Verdict, same_after, different_after, read_table_with, read_forward, compare}

-- THE TRAY (5.11)

-- 5.11: how many logs a tray may have
abbrev pub most_logs : ℕ
most_logs = 64

-- 5.11: the next log: its image's length in two bytes, the high one first, then the image; 24 where the tray ends early
unfoldable pub read_log : List ℕ → Outcome (Read (List ℕ))
read_log [] = refused 24 unplaced
read_log (high ∷ []) = refused 24 unplaced
read_log (high ∷ low ∷ bytes) =
    unless (ltb (length bytes) (high * 256 + low)) 24 (record { value = take (high * 256 + low) bytes; rest = drop (high * 256 + low) bytes })

-- 5.11: 24 where bytes follow the last log
abbrev pub tray_end : Read (List (List ℕ)) → Outcome (List (List ℕ))
tray_end r = unless (ltb 0 (length r.rest)) 24 r.value

-- 5.11: the number of logs, then the logs: their images, whatever these hold; 23 by the number alone
unfoldable pub read_tray : List ℕ → Outcome (List (List ℕ))
read_tray [] = refused 24 unplaced
read_tray (logs ∷ bytes) = cond (ltb most_logs logs) (refused 23 unplaced) (several read_log logs bytes >>= tray_end)

-- THE ANSWER (6.19)

-- 6.19: what is told of a log: a byte, and the steps in two, the high one first; 0 same, 1 different, or the refusal's number and no steps
abbrev pub log_bytes : Outcome Verdict → List ℕ
log_bytes (answered (same_after k r)) = 0 ∷ k / 256 ∷ k % 256 ∷ []
log_bytes (answered (different_after k)) = 1 ∷ k / 256 ∷ k % 256 ∷ []
log_bytes (refused n place) = n ∷ 0 ∷ 0 ∷ []

-- 6.19: the answers of the logs in their order
abbrev pub tray_bytes : List (Outcome Verdict) → List ℕ
tray_bytes = concat_map log_bytes

-- 6.19: the tray comes before the table, the table before the pattern, and 13 after the clearing and before the first log; then each log is
-- compared by itself
unfoldable pub tray : List ℕ → List ℕ → List ℕ → ℕ → ℕ → ℕ → Outcome (List (Outcome Verdict))
tray table logs pattern budget room area =
    read_tray logs >>= λ images.
    read_table_with read_forward table pattern >>= λ l.
    cleared l.table budget room >>= λ ok.
    unless (ltb area (3 * length images)) 13 (map (λ image. compare table image pattern budget room) images)
