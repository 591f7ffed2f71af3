-- Binary digits and the numbers that they write, over any width. Digits and number are each other's inverse.
use mathlib.Core.Path.{◌≡◌, refl, sym, ap, ◌∙◌}
use mathlib.Core.List.{List, [], ◌∷◌, ◌++◌}
use Prim.Native.Nat.{ℕ, zero, suc, ◌+◌, ◌*◌, ◌/◌, ◌%◌, ◌^◌, ◌<◌}
use native.Mathlib.Omega.{arith}
use native.Mathlib.Nat.{zero-add, add_comm, pow-suc, add-mul, mul_assoc, mul_comm, zero-mul, mod-eq_of_lt, mod-one, mod-lt}
use lib.ListN.{length}
use lib.Pow.{pow_pos, mod-pow-add, high, low, shr-shr}
use lib.Arith.{digits_lt}
use Rattle.model.specs.Bits.{digits, number}

-- every element is a bit
abbrev pub AreBits : List ℕ → Type 0
AreBits [] = Unit {0}
AreBits (b ∷ bs) = (b < 2) × AreBits bs

pub length_digits : (width v : ℕ) → length (digits width v) ≡ width
length_digits zero v = refl
length_digits (suc width) v = ap suc (length_digits width v)

pub digits_are_bits : (width v : ℕ) → AreBits (digits width v)
digits_are_bits zero v = tt
digits_are_bits (suc width) v = (omega arith, digits_are_bits width v)

pub bits_append : (xs ys : List ℕ) → AreBits xs → AreBits ys → AreBits (xs ++ ys)
bits_append [] ys hx hy = hy
bits_append (x ∷ xs) ys hx hy = (hx.0, bits_append xs ys hx.1 hy)

-- a number by its first digits and its last
pub number_append : (v : ℕ) (xs ys : List ℕ) → number v (xs ++ ys) ≡ number (number v xs) ys
number_append v [] ys = refl
number_append v (x ∷ xs) ys = number_append (v * 2 + x) xs ys

-- a digit before others, where p is 2 to the number of those
shifted : (v b p : ℕ) → (v * 2 + b) * p ≡ v * (p * 2) + b * p
shifted v b p = add-mul (v * 2) b p ∙ ap (λ x. x + b * p) (mul_assoc v 2 p ∙ ap (λ x. v * x) (mul_comm 2 p))

pub number_after : (v : ℕ) (bs : List ℕ) → number v bs ≡ v * 2 ^ length bs + number 0 bs
number_after v [] = omega arith
number_after v (b ∷ bs) =
    let l : number (v * 2 + b) bs ≡ (v * 2 + b) * 2 ^ length bs + number 0 bs = number_after (v * 2 + b) bs in
    let r : number (0 * 2 + b) bs ≡ (0 * 2 + b) * 2 ^ length bs + number 0 bs = number_after (0 * 2 + b) bs in
    let s : (v * 2 + b) * 2 ^ length bs ≡ v * (2 ^ length bs * 2) + b * 2 ^ length bs = shifted v b (2 ^ length bs) in
    let t : (0 * 2 + b) * 2 ^ length bs ≡ b * 2 ^ length bs = ap (λ x. x * 2 ^ length bs) (omega arith) in
    let d : v * 2 ^ suc (length bs) ≡ v * (2 ^ length bs * 2) = ap (λ x. v * x) (pow-suc 2 (length bs)) in
    omega arith

pub number_bound : (bs : List ℕ) → AreBits bs → number 0 bs < 2 ^ length bs
number_bound [] h = omega arith
number_bound (b ∷ bs) h =
    let l : number (0 * 2 + b) bs ≡ (0 * 2 + b) * 2 ^ length bs + number 0 bs = number_after (0 * 2 + b) bs in
    let q : (0 * 2 + b) * 2 ^ length bs + number 0 bs < 2 * 2 ^ length bs = digits_lt (omega (arith, h.0)) (number_bound bs h.1) in
    let d : 2 ^ suc (length bs) ≡ 2 ^ length bs * 2 = pow-suc 2 (length bs) in
    omega arith

-- the digits of a number write its last `width` digits
pub number_digits : (u width v : ℕ) → number u (digits width v) ≡ u * 2 ^ width + v % 2 ^ width
number_digits u zero v = omega (arith, mod-one v)
number_digits u (suc width) v =
    let b = v / 2 ^ width % 2 in
    let l : number (u * 2 + v / 2 ^ width % 2) (digits width v) ≡ (u * 2 + v / 2 ^ width % 2) * 2 ^ width + v % 2 ^ width =
    number_digits (u * 2 + v / 2 ^ width % 2) width v in
    let s : (u * 2 + v / 2 ^ width % 2) * 2 ^ width ≡ u * (2 ^ width * 2) + v / 2 ^ width % 2 * 2 ^ width = shifted u (v / 2 ^ width % 2) (2 ^ width) in
    let d : u * 2 ^ suc width ≡ u * (2 ^ width * 2) = ap (λ x. u * x) (pow-suc 2 width) in
    let e : v % 2 ^ suc width ≡ v / 2 ^ width % 2 * 2 ^ width + v % 2 ^ width = ap (λ x. v % 2 ^ x) (omega arith) ∙ mod-pow-add v 1 width in
    omega arith

-- the digits of the number that bits write are those bits
pub digits_number : (u : ℕ) (bs : List ℕ) → AreBits bs → digits (length bs) (number u bs) ≡ bs
digits_number u [] h = refl
digits_number u (b ∷ bs) h =
    let l : number (u * 2 + b) bs / 2 ^ length bs ≡ u * 2 + b = ap (λ x. x / 2 ^ length bs) (number_after (u * 2 + b) bs)
    ∙ high (u * 2 + b) (length bs) (number_bound bs h.1) in
    let d : number (u * 2 + b) bs / 2 ^ length bs % 2 ≡ b = omega (arith, h.0) in
    ap (λ x. x ∷ digits (length bs) (number (u * 2 + b) bs)) d ∙ ap (λ x. b ∷ x) (digits_number (u * 2 + b) bs h.1)

-- only the last `width` digits count
pub digits_mod : (width v : ℕ) → digits width (v % 2 ^ width) ≡ digits width v
digits_mod width v =
    let e : number 0 (digits width v) ≡ v % 2 ^ width = number_digits 0 width v ∙ omega (arith, zero-mul (2 ^ width)) in
    let d : digits (length (digits width v)) (number 0 (digits width v)) ≡ digits width v = digits_number 0 (digits width v) (digits_are_bits width v) in
    ap (digits width) (sym e) ∙ (ap (λ n. digits n (number 0 (digits width v))) (sym (length_digits width v)) ∙ d)

pub number_of_digits : (width v : ℕ) → v < 2 ^ width → number 0 (digits width v) ≡ v
number_of_digits width v h = number_digits 0 width v ∙ omega (arith, zero-mul (2 ^ width), mod-eq_of_lt h)

pub digits_of_number : (width : ℕ) (bs : List ℕ) → length bs ≡ width → AreBits bs → digits width (number 0 bs) ≡ bs
digits_of_number width bs e h = ap (λ n. digits n (number 0 bs)) (sym e) ∙ digits_number 0 bs h

-- digits by the first and the last ones
pub digits_append : (a b v : ℕ) → digits (a + b) v ≡ digits a (v / 2 ^ b) ++ digits b v
digits_append zero b v = ap (λ n. digits n v) (zero-add b)
digits_append (suc a) b v =
    ap (λ n. digits n v) {x = suc a + b} {y = suc (a + b)} (omega arith)
    ∙ (ap (λ l. v / 2 ^ (a + b) % 2 ∷ l) (digits_append a b v)
    ∙ ap (λ n. n % 2 ∷ (digits a (v / 2 ^ b) ++ digits b v)) (ap (λ n. v / 2 ^ n) (add_comm a b) ∙ sym (shr-shr v b a)))

pub digits_low : (hi k v : ℕ) → digits k (hi * 2 ^ k + v % 2 ^ k) ≡ digits k v
digits_low hi k v = sym (digits_mod k (hi * 2 ^ k + v % 2 ^ k)) ∙ (ap (digits k) (low hi k (mod-lt v (pow_pos k))) ∙ digits_mod k v)

-- two fields written as one
pub digits_joined : (a b hi lo : ℕ) → lo < 2 ^ b → digits (a + b) (hi * 2 ^ b + lo) ≡ digits a hi ++ digits b lo
digits_joined a b hi lo h =
    digits_append a b (hi * 2 ^ b + lo)
    ∙ (ap (λ n. digits a n ++ digits b (hi * 2 ^ b + lo)) (high hi b h)
    ∙ ap (λ ds. digits a hi ++ ds) (sym (digits_mod b (hi * 2 ^ b + lo)) ∙ ap (digits b) (low hi b h)))
