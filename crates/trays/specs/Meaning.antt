-- Specification 6.19: what the three bytes of a log mean, of the log and the pattern in the images.
use Rattle.std.specs.Prelude.{List, [], ◌∷◌, ◌++◌, ◌≡◌, ℕ, ◌*◌, ◌/◌, ◌%◌, length, take, drop}
use Rattle.model.specs.Word.{Positive, positive, negative}
use Rattle.model.specs.Presentation.{Presentation}
use Rattle.model.specs.Reversing.{Finishes, EndsEmpty, CoversSteps, CoversRoom}
use Rattle.model.specs.Equivalence.{Joined}
use Rattle.model.specs.Outcome.{Place, Outcome, answered, refused, mapped}
use Rattle.model.specs.Images.{read_table}
use Rattle.model.specs.Services.{read_forward}
use Rattle.model.specs.Areas.{Compares, output_after, workspace_after}
use Rattle.model.specs.Tray.{read_tray, tray_bytes, tray as trayOutcome}

-- same or different, with two bytes of steps, or a stop without steps by allowance or memory
pub data Told : List ℕ → Type 0 where
  told_same : (high low : ℕ) → Told (0 ∷ high ∷ low ∷ [])
  told_different : (high low : ℕ) → Told (1 ∷ high ∷ low ∷ [])
  by_allowance : Told (11 ∷ 0 ∷ 0 ∷ [])
  by_memory : Told (12 ∷ 0 ∷ 0 ∷ [])

-- the bytes told of the log u and the pattern v under a table that has cleared
pub record LogSays (T : Presentation) (u v : Positive) (budget room : ℕ) (bytes : List ℕ) : Type 0 where
  -- 0 only if a chain of swaps joins the two words
  pub same_joined : (high low : ℕ) → bytes ≡ 0 ∷ high ∷ low ∷ [] → Joined T u v
  -- 1 only if none does
  pub different_apart : (high low : ℕ) → bytes ≡ 1 ∷ high ∷ low ∷ [] → Joined T u v → ⊥
  -- nothing else is told but a stop
  pub verdict_or_stop : Told bytes
  -- joined words have a reversing that ends empty,
  pub ends_empty : Joined T u v → EndsEmpty T (negative u ++ positive v)
  -- and where allowance and workspace cover it, the bytes are 0 and its steps
  pub answers_same : Joined T u v → (k : ℕ) (run : Finishes T (negative u ++ positive v) [] [] k)
      → CoversSteps budget run → CoversRoom room run → bytes ≡ 0 ∷ k / 256 ∷ k % 256 ∷ []

-- what is told of a log, whatever its image holds
pub record LogMeans (table log pattern : List ℕ) (budget room : ℕ) (bytes : List ℕ) : Type 0 where
  -- of one that is no forward program the number of its refusal, without steps
  pub refused_log : (T : Presentation) → read_table table ≡ answered T → (n : ℕ) (place : Place) → read_forward T.size log ≡ refused n place
      → bytes ≡ n ∷ 0 ∷ 0 ∷ []
  -- of any other what a comparison with the pattern says
  pub compared_log : (T : Presentation) (u v : Positive) → Compares table log pattern T u v → LogSays T u v budget room bytes

-- WHAT AN ANSWER MEANS (6.19): the bytes at each log's place, whatever the other logs are
abbrev pub TraySays : List ℕ → List ℕ → List ℕ → ℕ → ℕ → Outcome ℕ → List ℕ → Type 0
TraySays table tray pattern budget room (refused n place) area = Unit {0}
TraySays table tray pattern budget room (answered logs) area =
    (earlier later : List (List ℕ)) (log : List ℕ) → read_tray tray ≡ answered (earlier ++ (log ∷ later))
    → LogMeans table log pattern budget room (take 3 (drop (3 * length earlier) area))

-- THE SERVICE'S PROMISE (6.19): the outcome that is told, both areas after the call, and what the answer says
pub record TrayPromise (table tray pattern : List ℕ) (allowance : ℕ) (workspace workspace' answer answer' : List ℕ) (outcome : Outcome ℕ) : Type 0 where
  pub stated : outcome ≡ mapped length (trayOutcome table tray pattern allowance (length workspace) (length answer))
  pub answer_is : answer' ≡ output_after tray_bytes (trayOutcome table tray pattern allowance (length workspace) (length answer)) answer
  pub workspace_is : workspace' ≡ workspace_after (trayOutcome table tray pattern allowance (length workspace) (length answer)) workspace
  pub meaning : TraySays table tray pattern allowance (length workspace) outcome answer'
