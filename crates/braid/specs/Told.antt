-- Specification 8.3, how an outcome is told in numbers to C: 0 for an answer, else the refusal's number, then four values.
use Rattle.std.specs.Prelude.{ℕ}
use Rattle.model.specs.Outcome.{Outcome, answered, refused}
use Rattle.model.specs.Stated.{Counts}
use Rattle.numbering.specs.Refusals.{numbers_told}
use Rattle.model.specs.Services.{Sizes, Verdict, same_after, different_after, ChainAnswer, listed_after, unlisted_after, Remainder, moves_after, none_after}
use Rattle.model.specs.Services.{Passage, joins, breaks, ends_elsewhere}
use Rattle.model.specs.Signed.{SignedVerdict, same_after_both, different_after_both}
use Rattle.numbering.specs.declared.refusals.RefusalNumbers.{RefusalNumbers}
use Rattle.braid.specs.declared.numbers.Numbers.{Numbers}

abbrev numbers : ℕ → ℕ → ℕ → ℕ → ℕ → Numbers
numbers n a b c d = record { code = n; first = a; second = b; third = c; fourth = d }

-- a refusal: its number, what its place is, then the numbers of the place
abbrev pub refused_told : RefusalNumbers → Numbers
refused_told r = numbers r.number r.place r.a r.b r.c

abbrev pub told : {A : Type 0} → (A → Numbers) → Outcome A → Numbers
told tell (answered x) = tell x
told tell (refused n place) = refused_told (numbers_told n place)

-- reverse: the lengths of N and D, and the steps
abbrev pub sizes_told : Sizes → Numbers
sizes_told s = numbers 0 s.numerator s.denominator s.steps 0

-- clear
abbrev pub passed_told : Unit {0} → Numbers
passed_told x = numbers 0 0 0 0 0

-- compare: 0 same or 1 different, then the steps
abbrev pub verdict_told : Verdict → Numbers
verdict_told (same_after k r) = numbers 0 0 k 0 0
verdict_told (different_after k) = numbers 0 1 k 0 0

-- compare_signed: the same, with the steps of each of the two reversings
abbrev pub signed_told : SignedVerdict → Numbers
signed_told (same_after_both k j) = numbers 0 0 k j 0
signed_told (different_after_both k j) = numbers 0 1 k j 0

-- chain: as compare, and after same how many entries are listed, and in how many bytes
abbrev pub chain_told : ChainAnswer → Numbers
chain_told (listed_after k entries bytes) = numbers 0 0 k entries bytes
chain_told (unlisted_after k) = numbers 0 1 k 0 0

-- remainder: 0 for moves, how many they are, and the steps; 1 for none, and the steps in the same place
abbrev pub remainder_told : Remainder ℕ → Numbers
remainder_told (moves_after n k) = numbers 0 0 n k 0
remainder_told (none_after k) = numbers 0 1 0 k 0

-- check: 0 joins, 1 breaks with the entry's number, 2 ends at another program
abbrev pub passage_told : Passage → Numbers
passage_told joins = numbers 0 0 0 0 0
passage_told (breaks k) = numbers 0 1 k 0 0
passage_told ends_elsewhere = numbers 0 2 0 0 0

-- packing, unpacking, bed and import: the bytes written
abbrev pub bytes_told : ℕ → Numbers
bytes_told k = numbers 0 k 0 0 0

-- ways: the words and the bytes of the listing
abbrev pub counts_told : Counts → Numbers
counts_told c = numbers 0 c.words c.bytes 0 0

-- tray: the number of logs
abbrev pub logs_told : ℕ → Numbers
logs_told n = numbers 0 n 0 0 0
