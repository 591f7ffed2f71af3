-- What a tray's bytes are read as.
use Rattle.std.specs.Prelude.{List, [], Bool, true, false, ◌≡◌, ◌⊎◌, ℕ, ◌+◌, ◌*◌, get_or, take, drop, Ok, Err}
use Rattle.std.specs.declared.result.Result.{Result}
use Rattle.model.specs.Outcome.{unplaced, answered, refused, ◌>>=◌}
use Rattle.model.specs.Images.{several}
use Rattle.model.specs.Tray.{read_log, tray_end, read_tray}
use Rattle.model.specs.Stated.{refusal}
use Rattle.model.specs.declared.answers.Refusal.{Refusal}
use Rattle.model.specs.declared.answers.Refusal.TheVariants.{TooManyLogs, NotTray}

-- the length of the log at a place, its image, and where it ends
abbrev pub length_at : List ℕ → ℕ → ℕ
length_at tray at = get_or tray at 0 * 256 + get_or tray (at + 1) 0

abbrev pub image_at : List ℕ → ℕ → List ℕ
image_at tray at = take (length_at tray at) (drop (at + 2) tray)

abbrev pub end_at : List ℕ → ℕ → ℕ
end_at tray at = at + 2 + length_at tray at

-- so many logs fill the tray behind its first byte
pub record LogsOf (tray : List ℕ) (logs : ℕ) : Type 0 where
  pub images : List (List ℕ)
  pub filled : several read_log logs (drop 1 tray) ≡ answered (record { value = images; rest = [] })

abbrev pub LogsDecided : List ℕ → ℕ → Bool → Type 0
LogsDecided tray logs true = LogsOf tray logs
LogsDecided tray logs false = (several read_log logs (drop 1 tray) >>= tray_end) ≡ refused 24 unplaced

-- the tray is that of these logs
pub record TrayOf (tray : List ℕ) (logs : ℕ) : Type 0 where
  pub all : LogsOf tray logs
  pub read : read_tray tray ≡ answered all.images

abbrev pub TrayDone : List ℕ → Result ℕ Refusal → Type 0
TrayDone tray (Ok count) = TrayOf tray count
TrayDone tray (Err r) = (read_tray tray ≡ refusal r) × ((r ≡ TooManyLogs) ⊎ (r ≡ NotTray))
