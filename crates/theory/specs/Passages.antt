-- Specification 6.7: what checking a chain answers, each outcome by what the entries do.
-- The promise of check cites it. Proved from the definitions alone as `passage_exactly` in proofs/Passages.antt. Main name: `Passes`.
use Rattle.std.specs.Prelude.{List, ◌∷◌, ◌++◌, ◌≢◌, ◌≡◌, ℕ, ◌<◌, length}
use Rattle.std.proofs.Math.Option.{none, some}
use Rattle.model.specs.Word.{Positive}
use Rattle.model.specs.Presentation.{Presentation}
use Rattle.model.specs.Equivalence.{Entry, applied, LeadsWithin}
use Rattle.model.specs.Outcome.{unplaced, Outcome, answered, refused}
use Rattle.model.specs.Services.{Passage, joins, breaks, ends_elsewhere}

-- what each outcome says of the entries from u towards v in a workspace of `room` letters
pub data Passes (T : Presentation) (room : ℕ) (u : Positive) (es : List Entry) (v : Positive) : Outcome Passage → Type 0 where
  -- they lead to v, and every word on the way fits
  arrives : LeadsWithin T room u es v → Passes T room u es v (answered joins)
  -- those before an entry lead somewhere, and it does not fit there
  broken : (before : List Entry) (e : Entry) (after : List Entry) (w : Positive) → es ≡ before ++ (e ∷ after) → LeadsWithin T room u before w
      → applied T w e ≡ none → Passes T room u es v (answered (breaks (length before)))
  -- they lead to another word
  elsewhere : (w : Positive) → LeadsWithin T room u es w → w ≢ v → Passes T room u es v (answered ends_elsewhere)
  -- u is longer than the workspace
  starts_long : room < length u → Passes T room u es v (refused 12 unplaced)
  -- an entry that fits leads to a word longer than the workspace
  grows_long : (before : List Entry) (e : Entry) (after : List Entry) (w w' : Positive) → es ≡ before ++ (e ∷ after) → LeadsWithin T room u before w
      → applied T w e ≡ some w' → room < length w' → Passes T room u es v (refused 12 unplaced)
