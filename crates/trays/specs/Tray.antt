-- What comes of the logs of a tray under a table that was loaded.
use Rattle.std.specs.Prelude.{List, map, ◌≡◌, ℕ, ◌*◌, ltb, length}
use Rattle.std.specs.declared.result.Result.{Result}
use Rattle.model.specs.Word.{Positive}
use Rattle.model.specs.Presentation.{Presentation}
use Rattle.model.specs.Outcome.{Outcome, answered, ◌>>=◌, unless, mapped}
use Rattle.model.specs.Checks.{cleared}
use Rattle.model.specs.Services.{Verdict, read_forward, forward_verdict}
use Rattle.model.specs.Areas.{written, output_after, workspace_after}
use Rattle.model.specs.Tray.{log_bytes, tray_bytes, tray}
use Rattle.model.specs.Stated.{compared, tray_compared}
use Rattle.model.specs.declared.answers.Compared.{Compared}
use Rattle.model.specs.declared.answers.Refusal.{Refusal}
use Rattle.cells.specs.Stands.{Of}
use Rattle.trays.specs.Logs.{image_at, end_at, LogsOf}

-- a log of n letters against the pattern v, under a table that has cleared
abbrev pub log_verdict : ℕ → Presentation → Positive → ℕ → ℕ → List ℕ → Outcome Verdict
log_verdict n T v budget room image = read_forward n image >>= λ u. forward_verdict T u v budget room

-- the logs of a tray under a table that was loaded
abbrev pub tray_verdicts : ℕ → Presentation → Positive → List (List ℕ) → ℕ → ℕ → ℕ → Outcome (List (Outcome Verdict))
tray_verdicts n T v images budget room area =
    cleared T budget room >>= λ ok.
    unless (ltb area (3 * length images)) 13 (map (log_verdict n T v budget room) images)

-- under every table that the cells stand for, and the pattern that the image holds
abbrev pub Under : List ℕ → ℕ → List ℕ → (Presentation → Positive → Type 0) → Type 0
Under cells size pattern P = (T : Presentation) → Of cells size T → (v : Positive) → read_forward size pattern ≡ answered v → P T v

pub record LogCompared (cells : List ℕ) (size : ℕ) (log pattern : List ℕ) (budget : ℕ) (before after : List ℕ) (r : Result Compared Refusal) : Type 0 where
  pub workspace : after ≡ before
  pub verdict : Under cells size pattern (λ T v. compared r ≡ log_verdict size T v budget (length before) log)

pub record LogAnswered (cells : List ℕ) (size : ℕ) (tray : List ℕ) (at : ℕ) (pattern : List ℕ) (budget : ℕ)
    (workspace_before workspace_left before after : List ℕ) (place end : ℕ) : Type 0 where
  pub workspace : workspace_left ≡ workspace_before
  pub ends : end ≡ end_at tray at
  pub same_length : length after ≡ length before
  pub answer : Under cells size pattern
      (λ T v. after ≡ written before place (log_bytes (log_verdict size T v budget (length workspace_before) (image_at tray at))))

pub record LogsAnswered (cells : List ℕ) (size : ℕ) (tray : List ℕ) (logs : ℕ) (pattern : List ℕ) (budget : ℕ)
    (workspace_before workspace_left before after : List ℕ) : Type 0 where
  pub workspace : workspace_left ≡ workspace_before
  pub answer : (l : LogsOf tray logs)
      → Under cells size pattern (λ T v. after ≡ written before 0 (tray_bytes (map (log_verdict size T v budget (length workspace_before)) l.images)))

-- an outcome, as it is told and as the areas are left
pub record States (outcome : Outcome (List (Outcome Verdict))) (workspace_before workspace_left before after : List ℕ) (r : Result ℕ Refusal) : Type 0 where
  pub result : tray_compared r ≡ mapped length outcome
  pub answer : after ≡ output_after tray_bytes outcome before
  pub workspace : workspace_left ≡ workspace_after outcome workspace_before

abbrev pub TrayJudged : List ℕ → ℕ → List ℕ → ℕ → List ℕ → ℕ → List ℕ → List ℕ → List ℕ → List ℕ → Result ℕ Refusal → Type 0
TrayJudged cells size tray logs pattern budget workspace_before workspace_left before after r =
    (l : LogsOf tray logs) → Under cells size pattern
    (λ T v. States (tray_verdicts size T v l.images budget (length workspace_before) (length before)) workspace_before workspace_left before after r)

abbrev pub TrayStated : List ℕ → List ℕ → List ℕ → ℕ → List ℕ → List ℕ → List ℕ → List ℕ → Result ℕ Refusal → Type 0
TrayStated table logs pattern budget workspace_before workspace_left before after r =
    States (tray table logs pattern budget (length workspace_before) (length before)) workspace_before workspace_left before after r
