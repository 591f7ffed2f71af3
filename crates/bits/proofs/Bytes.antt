-- The bits of bytes: where they stand, and what a store of one byte changes. Writing a run rests on these.
use mathlib.Core.Path.{◌≡◌, refl, sym, ap, ◌∙◌}
use mathlib.Core.List.{List, [], ◌∷◌, ◌++◌, append_assoc}
use Prim.Native.Nat.{ℕ, suc, ◌+◌, ◌*◌, ◌≤◌, ◌<◌}
use native.Mathlib.Omega.{arith}
use lib.ListN.{length, take, drop, set, get_or, length-append}
use lib.Seq.{split_at, set_split, get_or-drop, length-take-le}
use Rattle.model.specs.Bits.{digits, bits_of}
use Rattle.model.specs.Range.{AreBytes}
use Rattle.bits.proofs.Digits.{AreBits, length_digits, digits_are_bits, bits_append}

pub length_bits : (xs : List ℕ) → length (bits_of xs) ≡ 8 * length xs
length_bits [] = refl
length_bits (x ∷ xs) = length-append (digits 8 x) (bits_of xs) ∙ omega (arith, length_digits 8 x, length_bits xs)

pub bits_are_bits : (xs : List ℕ) → AreBits (bits_of xs)
bits_are_bits [] = tt
bits_are_bits (x ∷ xs) = bits_append (digits 8 x) (bits_of xs) (digits_are_bits 8 x) (bits_are_bits xs)

pub bits_of_append : (xs ys : List ℕ) → bits_of (xs ++ ys) ≡ bits_of xs ++ bits_of ys
bits_of_append [] ys = refl
bits_of_append (x ∷ xs) ys = ap (λ l. digits 8 x ++ l) (bits_of_append xs ys) ∙ sym (append_assoc (digits 8 x) (bits_of xs) (bits_of ys))

-- the bits of one byte among the others
pub bits_split : (xs : List ℕ) (q : ℕ) → q < length xs → bits_of xs ≡ bits_of (take q xs) ++ (digits 8 (get_or xs q 0) ++ bits_of (drop (suc q) xs))
bits_split xs q h = ap bits_of (split_at xs q 0 h) ∙ bits_of_append (take q xs) (get_or xs q 0 ∷ drop (suc q) xs)

pub bits_store : (xs : List ℕ) (q y : ℕ) → q < length xs → bits_of (set xs q y) ≡ bits_of (take q xs) ++ (digits 8 y ++ bits_of (drop (suc q) xs))
bits_store xs q y h = ap bits_of (set_split xs q y h) ∙ bits_of_append (take q xs) (y ∷ drop (suc q) xs)

pub length_bits_take : (xs : List ℕ) (q : ℕ) → q ≤ length xs → length (bits_of (take q xs)) ≡ 8 * q
length_bits_take xs q h = length_bits (take q xs) ∙ ap (λ n. 8 * n) (length-take-le q xs h)

-- bytes without the first ones
pub bytes_drop : (k : ℕ) (xs : List ℕ) → AreBytes xs → AreBytes (drop k xs)
bytes_drop k xs h i = rw (get_or-drop k xs i 0) (h (k + i))
