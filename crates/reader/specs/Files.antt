-- Specification 9.1: what counts as a file.
use Rattle.std.specs.Prelude.{ℕ, ◌+◌, ◌≤◌, ◌≡◌, List, length, take, Result, Ok, Err}

-- 9.1: how many bytes count as the file after a read that followed `done` of them: as many more as it gave, and none at all where it failed
abbrev pub counted : {E : Type 0} → ℕ → Result ℕ E → ℕ
counted done (Ok k) = done + k
counted done (Err error) = 0

-- n bytes can be taken from the list's start, and these are n. The second part follows from the first: a caller takes them with no proof of its own.
abbrev pub IsPrefixLen : ℕ → List ℕ → Type 0
IsPrefixLen n xs = (n ≤ length xs) × (n ≡ length (take n xs))
