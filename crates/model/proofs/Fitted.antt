-- Refusal 13 of a service that writes bytes, or not (specification 6.8).
use mathlib.Core.Path.{◌≡◌, ap}
use mathlib.Core.List.{List}
use Prim.Native.Nat.{ℕ, ◌≤◌, ◌<◌}
use borrow.Author.Tests.{lt-ltb, le-ltb}
use lib.ListN.{length}
use Rattle.model.specs.Outcome.{unplaced, answered, refused, unless}
use Rattle.model.specs.Services.{fitted}

pub short_area : (area : ℕ) (bytes : List ℕ) → area < length bytes → fitted area bytes ≡ refused 13 unplaced
short_area area bytes h = ap (λ t. unless t 13 bytes) (lt-ltb area (length bytes) h)

pub long_area : (area : ℕ) (bytes : List ℕ) → length bytes ≤ area → fitted area bytes ≡ answered bytes
long_area area bytes h = ap (λ t. unless t 13 bytes) (le-ltb area (length bytes) h)
