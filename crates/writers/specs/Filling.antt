-- What a writer leaves of an area that may be too short.
use Rattle.std.specs.Prelude.{List, ◌≡◌, ℕ, ◌≤◌, ◌<◌, length, Ok, Err}
use Rattle.std.specs.declared.result.Result.{Result}
use Rattle.model.specs.Areas.{begins}
use Rattle.model.specs.Bits.{bytes_for}
use Rattle.model.specs.declared.answers.Refusal.{Refusal}
use Rattle.model.specs.declared.answers.Refusal.TheVariants.{AnswerShort}

-- the area begins with the bytes, or it is shorter than they are and as it was
abbrev pub Fills : List ℕ → List ℕ → Result ℕ Refusal → List ℕ → Type 0
Fills before bytes (Ok k) after = (k ≡ length bytes) × (length bytes ≤ length before) × (after ≡ begins bytes before)
Fills before bytes (Err r) after = (r ≡ AnswerShort) × (length before < length bytes) × (after ≡ before)

-- an area has room for the bytes that so many bits fill, or it is too short
abbrev pub Needs : ℕ → List ℕ → Result ℕ Refusal → Type 0
Needs bits area (Ok k) = (k ≡ bytes_for bits) × (bytes_for bits ≤ length area)
Needs bits area (Err r) = (r ≡ AnswerShort) × (length area < bytes_for bits)
