-- Bytes as letters.
use mathlib.Core.Path.{◌≡◌, refl, sym, ap, ap₂, ◌∙◌}
use mathlib.Core.List.{List, [], ◌∷◌, ◌++◌, map-append, nil≢cons, head-eq_of_cons-eq, tail-eq_of_cons-eq}
use mathlib.Core.Bool.{cond}
use Prim.Native.Nat.{ℕ, zero, suc, ◌+◌, ◌-◌, ◌%◌, ◌≤◌, ◌<◌}
use native.Mathlib.Decide.{dec_lt}
use native.Mathlib.Omega.{arith}
use borrow.Author.Tests.{lt-ltb, le-ltb}
use lib.ListN.{length, take, length-map}
use Rattle.model.specs.Word.{forward, back, flip, letter, positive}
use Rattle.engine.specs.Gap.{letters}

pub letter_forward : (x : ℕ) → x < 128 → letter x ≡ forward x
letter_forward x h = ap (λ b. cond b (forward x) (back (x - 128))) (lt-ltb x 128 h)

pub letter_back : (x : ℕ) → 128 ≤ x → letter x ≡ back (x - 128)
letter_back x h = ap (λ b. cond b (forward x) (back (x - 128))) (le-ltb x 128 h)

-- 128 more, modulo 256: a forward letter becomes a back one, and of a back one what it has more is taken away
abbrev turned : ℕ → ℕ
turned x = (x + 128) % 256

pub letter_turned : (x : ℕ) → x < 256 → letter (turned x) ≡ flip (letter x)
letter_turned x fits = go (dec_lt x 128)
  where
    go : Dec (x < 128) → letter (turned x) ≡ flip (letter x)
    go (yes h) =
        let e : turned x ≡ 128 + x = omega arith in
        let n : 128 + x - 128 ≡ x = omega arith in
        ap letter e ∙ (letter_back (128 + x) (omega arith) ∙ (ap back n ∙ sym (ap flip (letter_forward x h))))
    go (no h) =
        let e : turned x ≡ x - 128 = omega arith in
        ap letter e ∙ (letter_forward (x - 128) (omega arith) ∙ sym (ap flip (letter_back x (omega arith))))

pub letters_append : (xs ys : List ℕ) → letters (xs ++ ys) ≡ letters xs ++ letters ys
unfolding letters
letters_append xs ys = map-append letter xs ys

pub letters_take : (k : ℕ) (xs : List ℕ) → letters (take k xs) ≡ take k (letters xs)
unfolding letters
letters_take zero xs = refl
letters_take (suc k) [] = refl
letters_take (suc k) (x ∷ xs) = ap (λ w. letter x ∷ w) (letters_take k xs)

pub letters_cons : (x : ℕ) (xs : List ℕ) → letters (x ∷ xs) ≡ letter x ∷ letters xs
unfolding letters
letters_cons x xs = refl

pub letters_nil : letters [] ≡ []
unfolding letters
letters_nil = refl

pub length_letters : (xs : List ℕ) → length (letters xs) ≡ length xs
unfolding letters
length_letters xs = length-map xs letter

-- a byte is known from its letter
pub byte_of_forward : (x a : ℕ) → letter x ≡ forward a → x ≡ a
byte_of_forward x a e = go (dec_lt x 128)
  where
    go : Dec (x < 128) → x ≡ a
    go (yes h) = let f : forward x ≡ forward a = sym (letter_forward x h) ∙ e in cc
    go (no h) = absurd (let f : back (x - 128) ≡ forward a = sym (letter_back x (omega arith)) ∙ e in let z : ◌≡◌ {A = ℕ} 0 1 = cc in omega arith)

pub byte_of_back : (x a : ℕ) → letter x ≡ back a → x ≡ 128 + a
byte_of_back x a e = go (dec_lt x 128)
  where
    go : Dec (x < 128) → x ≡ 128 + a
    go (yes h) = absurd (let f : forward x ≡ back a = sym (letter_forward x h) ∙ e in let z : ◌≡◌ {A = ℕ} 0 1 = cc in omega arith)
    go (no h) = let f : back (x - 128) ≡ back a = sym (letter_back x (omega arith)) ∙ e in let g : x - 128 ≡ a = cc in omega arith

pub letters_forward : (xs u : List ℕ) → letters xs ≡ positive u → xs ≡ u
unfolding letters
letters_forward [] [] e = refl
letters_forward [] (a ∷ u) e = absurd (nil≢cons e)
letters_forward (x ∷ xs) [] e = absurd (nil≢cons (sym e))
letters_forward (x ∷ xs) (a ∷ u) e =
    ap₂ (λ z zs. z ∷ zs) (byte_of_forward x a (head-eq_of_cons-eq e)) (letters_forward xs u (tail-eq_of_cons-eq e))
