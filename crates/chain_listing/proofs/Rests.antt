-- The rest of the first word as the workspace holds it: its first letter is the last byte before the gap.
use mathlib.Core.Path.{◌≡◌, refl, sym, ap, ap₂, ◌∙◌}
use mathlib.Core.List.{List, [], ◌∷◌, ◌++◌, head-eq_of_cons-eq, tail-eq_of_cons-eq}
use Prim.Native.Nat.{ℕ, zero, suc, ◌+◌, ◌-◌, ◌≤◌, ◌<◌}
use native.Mathlib.Omega.{arith}
use native.Mathlib.Numerals.{add-one}
use lib.ListN.{length, take, drop, get_or, length-drop}
use lib.Seq.{take-suc, drop-cons, take_at, drop_at, drop-drop, take-add, length-take-le}
use Rattle.model.specs.Word.{Word, Positive, forward, back, letter, positive, negative}
use Rattle.model.proofs.Words.{negative_cons, negative_append}
use Rattle.engine.specs.Gap.{letters}
use Rattle.engine.specs.Turn.{Pushed}
use Rattle.engine.proofs.Letters.{letters_append, letters_cons, letters_nil, length_letters, byte_of_back, byte_of_forward, letters_take}
use Rattle.engine.proofs.Lettering.{length_negative, length_positive}

letters_drop : (k : ℕ) (xs : List ℕ) → letters (drop k xs) ≡ drop k (letters xs)
unfolding letters
letters_drop zero xs = refl
letters_drop (suc k) [] = refl
letters_drop (suc k) (x ∷ xs) = letters_drop k xs

-- as many bytes as letters
pub held_length : (bytes : List ℕ) (left : ℕ) (rest : Positive) → left ≤ length bytes → letters (take left bytes) ≡ negative rest → left ≡ length rest
held_length bytes left rest h e =
    sym (length-take-le left bytes h) ∙ (sym (length_letters (take left bytes)) ∙ (ap length e ∙ length_negative rest))

pub left_length : (bytes : List ℕ) (right : ℕ) (left : Positive) → letters (drop right bytes) ≡ positive left → length bytes - right ≡ length left
left_length bytes right left e = sym (length-drop right bytes) ∙ (sym (length_letters (drop right bytes)) ∙ (ap length e ∙ length_positive left))

-- the first letter of the rest
pub record First (bytes : List ℕ) (left a : ℕ) (rest : Positive) : Type 0 where
  pub some : 1 ≤ left
  pub byte : get_or bytes (left - 1) 0 ≡ 128 + a
  pub fewer : letters (take (left - 1) bytes) ≡ negative rest

pub first_letter : (bytes : List ℕ) (left a : ℕ) (rest : Positive) → left ≤ length bytes → letters (take left bytes) ≡ negative (a ∷ rest)
    → First bytes left a rest
first_letter bytes left a rest h e =
    let n : left ≡ suc (length rest) = held_length bytes left (a ∷ rest) h e in
    let m : left ≡ suc (left - 1) = omega arith in
    let split : letters (take (left - 1) bytes) ++ (letter (get_or bytes (left - 1) 0) ∷ []) ≡ negative rest ++ (back a ∷ []) =
    sym
    (ap (λ i. letters (take i bytes)) m
    ∙ (ap letters (take-suc bytes (left - 1) 0 (omega arith))
    ∙ (letters_append (take (left - 1) bytes) (get_or bytes (left - 1) 0 ∷ [])
    ∙ ap (λ w. letters (take (left - 1) bytes) ++ w)
    (letters_cons (get_or bytes (left - 1) 0) [] ∙ ap (λ w. letter (get_or bytes (left - 1) 0) ∷ w) letters_nil))))
    ∙ (e ∙ negative_cons a rest) in
    let l : length (letters (take (left - 1) bytes)) ≡ left - 1 =
    length_letters (take (left - 1) bytes) ∙ length-take-le (left - 1) bytes (omega arith) in
    let r : length (negative rest) ≡ left - 1 = length_negative rest ∙ omega arith in
    let last : letter (get_or bytes (left - 1) 0) ∷ [] ≡ back a ∷ [] =
    sym (drop_at (letters (take (left - 1) bytes)) (letter (get_or bytes (left - 1) 0) ∷ []) (left - 1) l)
    ∙ (ap (drop (left - 1)) split ∙ drop_at (negative rest) (back a ∷ []) (left - 1) r) in
    record {
      some = omega arith;
      byte = byte_of_back (get_or bytes (left - 1) 0) a (head-eq_of_cons-eq last);
      fewer =
          sym (take_at (letters (take (left - 1) bytes)) (letter (get_or bytes (left - 1) 0) ∷ []) (left - 1) l)
          ∙ (ap (take (left - 1)) split ∙ take_at (negative rest) (back a ∷ []) (left - 1) r);
    }

-- the next letter of the second word
pub record Next (bytes : List ℕ) (right : ℕ) (left : Positive) : Type 0 where
  pub others : Positive
  pub is : left ≡ get_or bytes right 0 ∷ others
  pub held : letters (drop (right + 1) bytes) ≡ positive others

pub next_letter : (bytes : List ℕ) (right : ℕ) (left : Positive) → right < length bytes → letters (drop right bytes) ≡ positive left → Next bytes right left
next_letter bytes right [] h e = absurd (omega (arith, left_length bytes right [] e))
next_letter bytes right (b ∷ left) h e =
    let both : letter (get_or bytes right 0) ∷ letters (drop (suc right) bytes) ≡ forward b ∷ positive left =
    sym (ap letters (drop-cons bytes right 0 h) ∙ letters_cons (get_or bytes right 0) (drop (suc right) bytes)) ∙ e in
    record {
      others = left;
      is = ap (λ x. x ∷ left) (sym (byte_of_forward (get_or bytes right 0) b (head-eq_of_cons-eq both)));
      held = ap (λ i. letters (drop i bytes)) (add-one right) ∙ tail-eq_of_cons-eq both;
    }

pub none_next : (bytes : List ℕ) (right : ℕ) (left : Positive) → right ≡ length bytes → letters (drop right bytes) ≡ positive left → left ≡ []
none_next bytes right [] h e = refl
none_next bytes right (b ∷ left) h e = absurd (omega (arith, left_length bytes right (b ∷ left) e))

-- C(b,a) goes to the front of the rest
module _ (bytes after : List ℕ) (left count : ℕ) (rest other : Positive) (word : Word) (is : word ≡ negative other) (many : count ≡ length other)
    (inside : left ≤ length bytes) (held : letters (take left bytes) ≡ negative rest) (p : Pushed word bytes (left + count) count after) where
  back_to : left + count - count ≡ left
  back_to = omega arith

  word_length : length word ≡ count
  word_length = ap length is ∙ (length_negative other ∙ sym many)

  pushed_here : letters (drop left after) ≡ word ++ letters (drop (left + count) bytes)
  pushed_here = ap (λ i. letters (drop i after)) (sym back_to) ∙ p.pushed

  pub pushed_rest : letters (take (left + count) after) ≡ negative (other ++ rest)
  pushed_rest =
      let before : letters (take left after) ≡ negative rest =
      ap letters (ap (λ i. take i after) (sym back_to) ∙ (p.before ∙ ap (λ i. take i bytes) back_to)) ∙ held in
      let end : letters (take count (drop left after)) ≡ negative other =
      letters_take count (drop left after)
      ∙ (ap (take count) pushed_here ∙ (take_at word (letters (drop (left + count) bytes)) count word_length ∙ is)) in
      ap letters (take-add left count after)
      ∙ (letters_append (take left after) (take count (drop left after)) ∙ (ap₂ (λ v w. v ++ w) before end ∙ sym (negative_append other rest)))

  pub pushed_left : (right : ℕ) → left + count ≤ right → letters (drop right after) ≡ letters (drop right bytes)
  pushed_left right h =
      let d : right ≡ left + (count + (right - (left + count))) = omega arith in
      let e : left + count + (right - (left + count)) ≡ right = omega arith in
      ap (λ i. letters (drop i after)) d
      ∙ (ap letters (sym (drop-drop (count + (right - (left + count))) left after))
      ∙ (letters_drop (count + (right - (left + count))) (drop left after)
      ∙ (ap (drop (count + (right - (left + count)))) pushed_here
      ∙ (sym (drop-drop (right - (left + count)) count (word ++ letters (drop (left + count) bytes)))
      ∙ (ap (drop (right - (left + count))) (drop_at word (letters (drop (left + count) bytes)) count word_length)
      ∙ (sym (letters_drop (right - (left + count)) (drop (left + count) bytes))
      ∙ ap letters (drop-drop (right - (left + count)) (left + count) bytes ∙ ap (λ i. drop i bytes) e)))))))
