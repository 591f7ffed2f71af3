-- Packing bits into bytes: the bytes' bits are those bits, then fewer than eight zero bits. Bytes are told by their bits, so an image is told
-- by what it holds.
use mathlib.Core.Path.{◌≡◌, refl, sym, ap, ◌∙◌}
use mathlib.Core.Logic.{⊎_elim}
use mathlib.Core.List.{List, [], ◌∷◌, ◌++◌, append_assoc, append-nil}
use mathlib.Core.Bool.{Bool, true, false, ◌&&◌}
use Prim.Native.Nat.{ℕ, zero, suc, ◌+◌, ◌-◌, ◌*◌, ◌^◌, ◌≤◌, ◌<◌}
use native.Mathlib.Omega.{arith}
use borrow.Author.Tests.{lt-ltb, ltb-true, eqb-true}
use lib.Dec.{ltb, eqb}
use lib.ListN.{length, take, drop, replicate, length-append, length-take, length-drop, length-replicate, take-append-drop}
use lib.Seq.{take_at, drop_at, take-append-le, take-append-add, length-take-le}
use Rattle.model.specs.Bits.{digits, number, bits_of, packed, bytes_for, pack, all_zero, filling}
use Rattle.model.specs.Range.{AreBytes}
use Rattle.model.proofs.Booleans.{both}
use Rattle.model.proofs.Numbers.{below_or}
use Rattle.bits.proofs.Digits.{AreBits, length_digits, bits_append, number_bound, number_of_digits, digits_of_number}
use Rattle.bits.proofs.Bytes.{length_bits}
use Rattle.bits.proofs.Fields.{bits_take, bits_drop}

pub zeros_are_bits : (n : ℕ) → AreBits (replicate n 0)
zeros_are_bits zero = tt
zeros_are_bits (suc n) = (omega arith, zeros_are_bits n)

pub length_packed : (k : ℕ) (bits : List ℕ) → length (packed k bits) ≡ k
length_packed zero bits = refl
length_packed (suc k) bits = ap suc (length_packed k (drop 8 bits))

length_zeros : (n : ℕ) → length {A = ℕ} (replicate n 0) ≡ n
length_zeros n = length-replicate {A = ℕ} n 0

pub take_zeros : (m n : ℕ) → m ≤ n → take {A = ℕ} m (replicate n 0) ≡ replicate m 0
take_zeros zero n h = refl
take_zeros (suc m) zero h = absurd (omega arith)
take_zeros (suc m) (suc n) h = ap (λ l. 0 ∷ l) (take_zeros m n (omega arith))

-- the bits of the next byte
next_length : (bits : List ℕ) → 1 ≤ length bits → length (take 8 (bits ++ replicate 7 0)) ≡ 8
next_length bits h = length-take-le 8 (bits ++ replicate 7 0) (omega (arith, length-append bits (replicate 7 0), length_zeros 7))

next_bits : (bits : List ℕ) → 1 ≤ length bits → AreBits bits → digits 8 (number 0 (take 8 (bits ++ replicate 7 0))) ≡ take 8 (bits ++ replicate 7 0)
next_bits bits h r =
    digits_of_number 8 (take 8 (bits ++ replicate 7 0)) (next_length bits h)
    (bits_take 8 (bits ++ replicate 7 0) (bits_append bits (replicate 7 0) r (zeros_are_bits 7)))

pub packed_bits : (k : ℕ) (bits : List ℕ) → length bits ≤ 8 * k → 8 * k < length bits + 8 → AreBits bits
    → bits_of (packed k bits) ≡ bits ++ replicate (8 * k - length bits) 0
packed_bits zero [] h l r = refl
packed_bits zero (b ∷ bits) h l r = absurd (omega arith)
packed_bits (suc k) bits h l r =
    let some : 1 ≤ length bits = omega arith in
    let first : digits 8 (number 0 (take 8 (bits ++ replicate 7 0))) ≡ take 8 (bits ++ replicate 7 0) = next_bits bits some r in
    ⊎_elim
    (λ (short : length bits < 8).
    let k0 : k ≡ 0 = omega arith in
    ap (λ ds. ds ++ bits_of (packed k (drop 8 bits))) first
    ∙ (ap (λ n. take 8 (bits ++ replicate 7 0) ++ bits_of (packed n (drop 8 bits))) k0
    ∙ (append-nil (take 8 (bits ++ replicate 7 0))
    ∙ (ap (λ n. take n (bits ++ replicate 7 0)) {x = 8} {y = length bits + (8 - length bits)} (omega arith)
    ∙ (take-append-add bits (replicate 7 0) (8 - length bits)
    ∙ (ap (λ l. bits ++ l) (take_zeros (8 - length bits) 7 (omega arith))
    ∙ ap (λ n. bits ++ replicate n 0) {x = 8 - length bits} {y = 8 * suc k - length bits} (omega arith)))))))
    (λ (long : 8 ≤ length bits).
    let d : length (drop 8 bits) ≡ length bits - 8 = length-drop 8 bits in
    ap (λ ds. ds ++ bits_of (packed k (drop 8 bits))) first
    ∙ (ap (λ ds. ds ++ bits_of (packed k (drop 8 bits))) (take-append-le 8 bits (replicate 7 0) long)
    ∙ (ap (λ ds. take 8 bits ++ ds) (packed_bits k (drop 8 bits) (omega arith) (omega arith) (bits_drop 8 bits r))
    ∙ (sym (append_assoc (take 8 bits) (drop 8 bits) (replicate (8 * k - length (drop 8 bits)) 0))
    ∙ (ap (λ ds. ds ++ replicate (8 * k - length (drop 8 bits)) 0) (take-append-drop 8 bits)
    ∙ ap (λ n. bits ++ replicate n 0) {x = 8 * k - length (drop 8 bits)} {y = 8 * suc k - length bits} (omega arith))))))
    (below_or (length bits) 8)

-- the bits after packing: those packed, then the filling
pub pack_bits : (bits : List ℕ) → AreBits bits → bits_of (pack bits) ≡ bits ++ replicate (8 * bytes_for (length bits) - length bits) 0
pack_bits bits r = packed_bits (bytes_for (length bits)) bits (omega arith) (omega arith) r

pub zeros_all_zero : (n : ℕ) → all_zero (replicate n 0) ≡ true
zeros_all_zero zero = refl
zeros_all_zero (suc n) = zeros_all_zero n

pub and_first : (a b : Bool) → (a && b) ≡ true → a ≡ true
and_first true b e = refl
and_first false b e = e

pub and_second : (a b : Bool) → (a && b) ≡ true → b ≡ true
and_second true b e = e
and_second false true e = refl
and_second false false e = e

-- what packing adds is a filling
pub pack_filling : (bits : List ℕ) → filling (replicate (8 * bytes_for (length bits) - length bits) 0) ≡ true
pack_filling bits =
    let n = 8 * bytes_for (length bits) - length bits in
    both (lt-ltb (length (replicate n 0)) 8 (omega (arith, length_zeros n))) (zeros_all_zero n)

all_zero_replicate : (bits : List ℕ) → all_zero bits ≡ true → bits ≡ replicate (length bits) 0
all_zero_replicate [] e = refl
all_zero_replicate (b ∷ bits) e =
    ap (λ x. x ∷ bits) (eqb-true b 0 (and_first (eqb b 0) (all_zero bits) e))
    ∙ ap (λ l. 0 ∷ l) (all_zero_replicate bits (and_second (eqb b 0) (all_zero bits) e))

-- bytes are told by their bits
pub bits_injective : (xs ys : List ℕ) → AreBytes xs → AreBytes ys → bits_of xs ≡ bits_of ys → xs ≡ ys
bits_injective [] [] bx by e = refl
bits_injective [] (y ∷ ys) bx by e = absurd (omega (arith, ap length e, length_bits (y ∷ ys)))
bits_injective (x ∷ xs) [] bx by e = absurd (omega (arith, ap length e, length_bits (x ∷ xs)))
bits_injective (x ∷ xs) (y ∷ ys) bx by e =
    let d : digits 8 x ≡ digits 8 y =
    sym (take_at (digits 8 x) (bits_of xs) 8 (length_digits 8 x)) ∙ (ap (take 8) e ∙ take_at (digits 8 y) (bits_of ys) 8 (length_digits 8 y)) in
    let r : bits_of xs ≡ bits_of ys =
    sym (drop_at (digits 8 x) (bits_of xs) 8 (length_digits 8 x)) ∙ (ap (drop 8) e ∙ drop_at (digits 8 y) (bits_of ys) 8 (length_digits 8 y)) in
    let h : x ≡ y = sym (number_of_digits 8 x (bx 0)) ∙ (ap (number 0) d ∙ number_of_digits 8 y (by 0)) in
    ap (λ z. z ∷ xs) h ∙ ap (λ l. y ∷ l) (bits_injective xs ys (λ i. bx (suc i)) (λ i. by (suc i)) r)

pub packed_bytes : (k : ℕ) (bits : List ℕ) → AreBits bits → AreBytes (packed k bits)
packed_bytes zero bits r i = omega arith
packed_bytes (suc k) bits r zero =
    let b : number 0 (take 8 (bits ++ replicate 7 0)) < 2 ^ length (take 8 (bits ++ replicate 7 0)) =
    number_bound (take 8 (bits ++ replicate 7 0)) (bits_take 8 (bits ++ replicate 7 0) (bits_append bits (replicate 7 0) r (zeros_are_bits 7))) in
    let m : 2 ^ length (take 8 (bits ++ replicate 7 0)) ≤ 2 ^ 8 = lib.Pow.pow_mono {j = 8} (omega (arith, length-take 8 (bits ++ replicate 7 0))) in
    omega arith
packed_bytes (suc k) bits r (suc i) = packed_bytes k (drop 8 bits) (bits_drop 8 bits r) i

-- bytes whose bits are those and a filling are those bits packed
pub packed_of : (bytes bits rest : List ℕ) → AreBytes bytes → AreBits bits → bits_of bytes ≡ bits ++ rest → filling rest ≡ true → bytes ≡ pack bits
packed_of bytes bits rest bs r e f =
    let short : length rest < 8 = ltb-true (length rest) 8 (and_first (ltb (length rest) 8) (all_zero rest) f) in
    let zeros : rest ≡ replicate (length rest) 0 = all_zero_replicate rest (and_second (ltb (length rest) 8) (all_zero rest) f) in
    let l : 8 * length bytes ≡ length bits + length rest = sym (length_bits bytes) ∙ (ap length e ∙ length-append bits rest) in
    let n : length rest ≡ 8 * bytes_for (length bits) - length bits = omega arith in
    bits_injective bytes (pack bits) bs (packed_bytes (bytes_for (length bits)) bits r)
    (e ∙ (ap (λ l. bits ++ l) zeros ∙ (ap (λ k. bits ++ replicate k 0) n ∙ sym (pack_bits bits r))))
