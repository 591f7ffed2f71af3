-- Specification 5.1 to 5.3: bits, fields and filling, the width of a letter's field, and how fields are read. A bit is 0 or 1.
use Rattle.std.specs.Prelude.{List, [], ◌∷◌, ◌++◌, Bool, true, ◌&&◌, cond, ℕ, zero, suc, ◌+◌, ◌-◌, ◌*◌, ◌/◌, ◌%◌, ◌^◌, ltb, eqb, length, take, drop, replicate}
use Rattle.model.specs.Outcome.{unplaced, Outcome, answered, refused, unless}

-- 5.1: the last `width` binary digits of a number, the highest first
abbrev pub digits : ℕ → ℕ → List ℕ
digits zero v = []
digits (suc width) v = (v / (2 ^ width)) % 2 ∷ digits width v

-- 5.1: the number that binary digits write, after those that wrote `v`
abbrev pub number : ℕ → List ℕ → ℕ
number v [] = v
number v (b ∷ bs) = number (v * 2 + b) bs

-- 5.1: the bits of bytes
abbrev pub bits_of : List ℕ → List ℕ
bits_of [] = []
bits_of (x ∷ xs) = digits 8 x ++ bits_of xs

-- 5.1: as many bytes of bits as said, the last filled with zero bits
abbrev pub packed : ℕ → List ℕ → List ℕ
packed zero bits = []
packed (suc k) bits = number 0 (take 8 (bits ++ replicate 7 0)) ∷ packed k (drop 8 bits)

-- 5.1: the bytes that so many bits take, and bits in as many bytes as they take
abbrev pub bytes_for : ℕ → ℕ
bytes_for bits = (bits + 7) / 8

abbrev pub pack : List ℕ → List ℕ
pack bits = packed (bytes_for (length bits)) bits

-- 5.2: how long a number below 2 ^ `most` is in binary without leading zeros, 0 for 0; w is that of n − 1
abbrev pub binary_digits : ℕ → ℕ → ℕ
binary_digits zero m = 0
binary_digits (suc most) m = cond (eqb m 0) 0 (suc (binary_digits most (m / 2)))

abbrev pub letter_width : ℕ → ℕ
letter_width n = binary_digits 4 (n - 1)

-- 5.3: a value that was read, and what is left to read
pub record Read (A : Type 0) : Type 0 where
  pub value : A
  pub rest : List ℕ

-- 5.3: the next field; `early` is the refusal where the image ends before the field does
unfoldable pub field : ℕ → ℕ → List ℕ → Outcome (Read ℕ)
field early width bits = unless (ltb (length bits) width) early (record { value = number 0 (take width bits); rest = drop width bits })

-- 5.3: whether every bit is 0
abbrev pub all_zero : List ℕ → Bool
all_zero [] = true
all_zero (b ∷ bs) = eqb b 0 && all_zero bs

-- 5.3: what may follow the last field: fewer than eight bits, all zero
abbrev pub filling : List ℕ → Bool
filling bits = ltb (length bits) 8 && all_zero bits

-- 5.3: the end of an image; `tail` is the refusal where something else follows
unfoldable pub finish : {A : Type 0} → ℕ → Read A → Outcome A
finish tail r = cond (filling r.rest) (answered r.value) (refused tail unplaced)
