-- Two lists compared letter by letter: what is still to compare after each turn of a loop.
use mathlib.Core.Path.{◌≡◌, refl, sym, ap, ap₂, ◌∙◌}
use mathlib.Core.List.{List, [], ◌∷◌}
use mathlib.Core.Bool.{Bool, true, false, ◌&&◌}
use Prim.Native.Nat.{ℕ, zero, suc, ◌+◌, ◌-◌, ◌≤◌, ◌<◌}
use native.Mathlib.Omega.{arith}
use borrow.Author.Tests.{eq-eqb, ne_eqb}
use lib.Dec.{eqb}
use lib.Pointwise.{pointwise}
use lib.ListN.{length, take, drop, get_or}
use lib.Seq.{drop-cons, take_all}
use Rattle.model.specs.Word.{Positive, positive, byte, forward}
use Rattle.model.specs.Equivalence.{equal}

equal_step : (xs ys : List ℕ) (p q n : ℕ) → p < length xs → q < length ys
    → equal (take (suc n) (drop p xs))
    (take (suc n) (drop q ys)) ≡ (eqb (get_or xs p 0) (get_or ys q 0) && equal (take n (drop (suc p) xs)) (take n (drop (suc q) ys)))
equal_step xs ys p q n h i = ap₂ (λ a b. equal (take (suc n) a) (take (suc n) b)) (drop-cons xs p 0 h) (drop-cons ys q 0 i)

-- words of different length are different
pub lengths_differ : (xs ys : List ℕ) → (length xs ≡ length ys → ⊥) → equal xs ys ≡ false
lengths_differ [] [] h = absurd (h refl)
lengths_differ [] (y ∷ ys) h = refl
lengths_differ (x ∷ xs) [] h = refl
lengths_differ (x ∷ xs) (y ∷ ys) h = ap (λ t. eqb x y && t) (lengths_differ xs ys (λ e. h (ap suc e))) ∙ never (eqb x y)
  where
    never : (t : Bool) → (t && false) ≡ false
    never true = refl
    never false = refl

module _ (xs ys : List ℕ) (p q count : ℕ) where
  -- what is still to compare after i letters
  unfoldable pub Rest : ℕ → Bool
  Rest i = equal (take (count - i) (drop (p + i) xs)) (take (count - i) (drop (q + i) ys))

  pub rest_start : Rest 0 ≡ equal (take count (drop p xs)) (take count (drop q ys))
  unfolding Rest
  rest_start =
      let e : count - 0 ≡ count = omega arith in
      let f : p + 0 ≡ p = omega arith in
      let g : q + 0 ≡ q = omega arith in
      ap₂ (λ a b. equal (take (count - 0) (drop a xs)) (take (count - 0) (drop b ys))) f g ∙ ap (λ n. equal (take n (drop p xs)) (take n (drop q ys))) e

  pub rest_done : (i : ℕ) → count ≤ i → Rest i ≡ true
  unfolding Rest
  rest_done i h =
      let e : count - i ≡ 0 = omega arith in
      ap (λ n. equal (take n (drop (p + i) xs)) (take n (drop (q + i) ys))) e

  module _ (fx : p + count ≤ length xs) (fy : q + count ≤ length ys) (i : ℕ) (h : i < count) where
    rest_step : Rest i ≡ (eqb (get_or xs (p + i) 0) (get_or ys (q + i) 0) && Rest (i + 1))
    unfolding Rest
    rest_step =
        let e : count - i ≡ suc (count - (i + 1)) = omega arith in
        let f : suc (p + i) ≡ p + (i + 1) = omega arith in
        let g : suc (q + i) ≡ q + (i + 1) = omega arith in
        ap (λ n. equal (take n (drop (p + i) xs)) (take n (drop (q + i) ys))) e
        ∙ (equal_step xs ys (p + i) (q + i) (count - (i + 1)) (omega arith) (omega arith)
        ∙ ap₂ (λ a b. eqb (get_or xs (p + i) 0) (get_or ys (q + i) 0) && equal (take (count - (i + 1)) (drop a xs)) (take (count - (i + 1)) (drop b ys))) f g)

    pub rest_more : get_or xs (p + i) 0 ≡ get_or ys (q + i) 0 → Rest i ≡ Rest (i + 1)
    rest_more e = rest_step ∙ ap (λ t. t && Rest (i + 1)) (eq-eqb (get_or xs (p + i) 0) (get_or ys (q + i) 0) e)

    pub rest_fails : (get_or xs (p + i) 0 ≡ get_or ys (q + i) 0 → ⊥) → Rest i ≡ false
    rest_fails e = rest_step ∙ ap (λ t. t && Rest (i + 1)) (ne_eqb (get_or xs (p + i) 0) (get_or ys (q + i) 0) e)

-- two slices compared are two words compared
pub slices_equal : (xs ys : List ℕ) → pointwise eqb xs ys ≡ equal xs ys
slices_equal [] [] = refl
slices_equal [] (y ∷ ys) = refl
slices_equal (x ∷ xs) [] = refl
slices_equal (x ∷ xs) (y ∷ ys) = ap (λ t. eqb x y && t) (slices_equal xs ys)

-- a word of the cells that was looked for, by its cell
pub word_looked : (cells : List ℕ) (cell : ℕ) (word : List ℕ) → length word ≡ get_or cells cell 0 → word ≡ take (get_or cells cell 0) (drop (cell + 1) cells)
    → (bytes : List ℕ) (a : ℕ) (v : Bool) → equal (take (1 + length word) bytes) (a ∷ word) ≡ v
    → equal (take (1 + get_or cells cell 0) bytes) (a ∷ take (get_or cells cell 0) (drop (cell + 1) cells)) ≡ v
word_looked cells cell word n e bytes a v h =
    sym (ap (λ k. equal (take (1 + k) bytes) (a ∷ word)) n ∙ ap (λ w. equal (take (1 + get_or cells cell 0) bytes) (a ∷ w)) e) ∙ h

-- a letter before a word of the cells
module _ (bytes : List ℕ) (at a : ℕ) (word : List ℕ) (count : ℕ) where
  abbrev pub Whole : Bool
  Whole = equal (take (1 + count) (drop at bytes)) (a ∷ word)

  whole_step : at < length bytes → Whole ≡ (eqb (get_or bytes at 0) a && equal (take count (drop (at + 1) bytes)) word)
  whole_step h =
      let e : 1 + count ≡ suc count = omega arith in
      let f : suc at ≡ at + 1 = omega arith in
      ap₂ (λ n l. equal (take n l) (a ∷ word)) e (drop-cons bytes at 0 h)
      ∙ ap (λ i. eqb (get_or bytes at 0) a && equal (take count (drop i bytes)) word) f

  pub whole_more : at < length bytes → get_or bytes at 0 ≡ a → Whole ≡ equal (take count (drop (at + 1) bytes)) word
  whole_more h e = whole_step h ∙ ap (λ t. t && equal (take count (drop (at + 1) bytes)) word) (eq-eqb (get_or bytes at 0) a e)

-- the bytes of a forward program are its numbers
pub number_at : (v : Positive) (i : ℕ) → byte (get_or (positive v) i (forward 0)) ≡ get_or v i 0
number_at [] i = refl
number_at (a ∷ v) zero = refl
number_at (a ∷ v) (suc i) = number_at v i

-- the first letters of an area, compared with all of a word
pub spelled_start : (bytes : List ℕ) (v : Positive) (letters : ℕ) → length v ≡ letters → equal (take letters bytes) v ≡ Rest bytes v 0 0 letters 0
spelled_start bytes v letters e =
    ap (equal (take letters bytes)) (sym (take_all letters v (omega arith))) ∙ sym (rest_start bytes v 0 0 letters)

module _ (bytes : List ℕ) (v : Positive) (letters : ℕ) (fx : letters ≤ length bytes) (fy : length v ≡ letters) (i : ℕ) (h : i < letters) where
  at_i : 0 + i ≡ i
  at_i = omega arith

  pub spelled_more : get_or bytes i 0 ≡ get_or v i 0 → Rest bytes v 0 0 letters i ≡ Rest bytes v 0 0 letters (i + 1)
  spelled_more e =
      rest_more bytes v 0 0 letters (omega arith) (omega arith) i h (ap (λ j. get_or bytes j 0) at_i ∙ (e ∙ sym (ap (λ j. get_or v j 0) at_i)))

  pub spelled_fails : (get_or bytes i 0 ≡ get_or v i 0 → ⊥) → Rest bytes v 0 0 letters i ≡ false
  spelled_fails e =
      rest_fails bytes v 0 0 letters (omega arith) (omega arith) i h (λ g. e (sym (ap (λ j. get_or bytes j 0) at_i) ∙ (g ∙ ap (λ j. get_or v j 0) at_i)))
