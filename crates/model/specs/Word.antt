-- Specification 2.1, letters and words: a letter is a move, an inverse an undoing (2.5). The numbers in comments are its sections.
use Rattle.std.specs.Prelude.{List, [], ◌∷◌, map, reverse, cond, ℕ, ◌+◌, ◌-◌, ltb}

-- 2.1: a move, forward or back: a generator, or the inverse of one
pub data Letter : Type 0 where
  forward : ℕ → Letter
  back : ℕ → Letter

-- 2.1: a word; a program is one that is in range (Range.antt)
abbrev pub Word : Type 0
Word = List Letter

-- 2.1: a word without back moves, by their numbers
abbrev pub Positive : Type 0
Positive = List ℕ

-- 2.1: the opposite sign
abbrev pub flip : Letter → Letter
flip (forward a) = back a
flip (back a) = forward a

-- 2.1: the undoing: the last move first, and each sign turned
abbrev pub inverse : Word → Word
inverse w = reverse (map flip w)

-- 2.1: a positive word as a word, and the undoing of that
abbrev pub positive : Positive → Word
positive u = map forward u

abbrev pub negative : Positive → Word
negative u = inverse (positive u)

-- 3.3: the numbers of the forward letters, and of the back letters, each in the word's order
abbrev pub forwards : Word → Positive
forwards [] = []
forwards (forward a ∷ w) = a ∷ forwards w
forwards (back a ∷ w) = forwards w

abbrev pub backs : Word → Positive
backs [] = []
backs (forward a ∷ w) = backs w
backs (back a ∷ w) = a ∷ backs w

-- 2.1: the byte of a letter, 128 more for a back one; and the letter of a byte
abbrev pub back_byte : ℕ
back_byte = 128

abbrev pub byte : Letter → ℕ
byte (forward a) = a
byte (back a) = back_byte + a

abbrev pub letter : ℕ → Letter
letter x = cond (ltb x back_byte) (forward x) (back (x - back_byte))
