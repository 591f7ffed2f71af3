-- What the test for the braid table says (specification 2.4): every pair of the table is as there, or one is not.
-- From the definitions alone. Main names: `braid_pairs`, `braid_words`, `all_braid`, `not_braid`.
use mathlib.Core.Path.{◌≡◌, refl, ap, ◌∙◌}
use mathlib.Core.Logic.{◌≢◌}
use mathlib.Core.List.{List, [], ◌∷◌, ◌++◌, Memᴰ}
use mathlib.Core.Bool.{Bool, true, false}
use Prim.Native.Nat.{ℕ, zero, suc, ◌+◌, ◌-◌, ◌≤◌, ◌<◌}
use native.Mathlib.Omega.{arith}
use native.Mathlib.Decide.{dec_lt}
use Rattle.model.specs.Word.{Positive}
use Rattle.model.specs.Presentation.{Presentation, Complement, undefined, complement, swapped, complete}
use Rattle.model.specs.Equivalence.{equal}
use Rattle.model.specs.Enumeration.{Two, pairs}
use Rattle.model.specs.Range.{InRange}
use Rattle.model.specs.Bed.{braid_word, has_words, every, braid_pair, is_braid}
use Rattle.model.proofs.Impossible.{impossible}
use Rattle.model.proofs.Booleans.{both_true, both}
use Rattle.model.proofs.Complete.{complete_turn}
use Rattle.model.proofs.Positions.{row_of, rows_from}
use Rattle.model.proofs.Entries.{equal_same, equal_true}
use Rattle.theory.proofs.Enumerated.{pairs_have}

-- A TEST OF EVERY ELEMENT

module _ {A : Type 0} (test : A → Bool) where
  every_each : {x : A} {xs : List A} → Memᴰ x xs → every test xs ≡ true → test x ≡ true
  every_each (Memᴰ.head {x = y} {xs} e) h = ap test e ∙ (both_true (test y) (every test xs) h).0
  every_each (Memᴰ.tail {x = y} {xs} m) h = every_each m (both_true (test y) (every test xs) h).1

  every_append : (xs ys : List A) → every test xs ≡ true → every test ys ≡ true → every test (xs ++ ys) ≡ true
  every_append [] ys h k = k
  every_append (x ∷ xs) ys h k =
      let b = both_true (test x) (every test xs) h in
      both b.0 (every_append xs ys b.1 k)

-- of every pair of n numbers
module _ (test : Two → Bool) (n : ℕ) (each : (a b : ℕ) → 1 ≤ a → a < b → b ≤ n → test (record { a = a; b = b }) ≡ true) where
  every_in_row : (a from k : ℕ) → 1 ≤ a → a < from → from + k ≤ suc n → every test (row_of a from k) ≡ true
  every_in_row a from zero low h high = refl
  every_in_row a from (suc k) low h high = both (each a from low h (omega arith)) (every_in_row a (suc from) k low (omega arith) (omega arith))

  every_in_rows : (a k : ℕ) → 1 ≤ a → a + k ≤ suc n → every test (rows_from n a k) ≡ true
  every_in_rows a zero low high = refl
  every_in_rows a (suc k) low high =
      every_append test (row_of a (suc a) (n - a)) (rows_from n (suc a) k) (every_in_row a (suc a) (n - a) low (omega arith) (omega arith))
      (every_in_rows (suc a) k (omega arith) (omega arith))

  every_pair : every test (pairs n) ≡ true
  every_pair = every_in_rows 1 n (omega arith) (omega arith)

-- A PAIR OF THE BRAID TABLE

has_words_lem : (x y : Positive) (c : Complement) → has_words x y c ≡ true → c ≡ complement x y
has_words_lem x y undefined e = impossible (cc)
has_words_lem x y (complement u v) e =
    let b = both_true (equal u x) (equal v y) e in
    ap (λ u. complement u v) (equal_true u x b.0) ∙ ap (complement x) (equal_true v y b.1)

module _ (T : Presentation) where
  pub braid_pairs : is_braid T ≡ true → (a b : ℕ) → 1 ≤ a → a < b → b ≤ T.size → complete T a b ≡ complement (braid_word a b) (braid_word b a)
  unfolding is_braid
  braid_pairs e a b low h high =
      has_words_lem (braid_word a b) (braid_word b a) (complete T a b) (every_each (braid_pair T) (pairs_have T.size a b low h high) e)

  -- in either order
  pub braid_words : is_braid T ≡ true → (a b : ℕ) → a ≢ b → InRange T.size a → InRange T.size b → complete T a b ≡ complement (braid_word a b)
      (braid_word b a)
  braid_words e a b h ra rb = go (dec_lt a b)
    where
      go : Dec (a < b) → complete T a b ≡ complement (braid_word a b) (braid_word b a)
      go (yes l) = braid_pairs e a b ra.low l rb.high
      go (no l) = complete_turn T b a ∙ ap swapped (braid_pairs e b a rb.low (omega arith) ra.high)

  pub all_braid : ((a b : ℕ) → 1 ≤ a → a < b → b ≤ T.size → complete T a b ≡ complement (braid_word a b) (braid_word b a)) → is_braid T ≡ true
  unfolding is_braid
  all_braid each = every_pair (braid_pair T) T.size λ a b low h high.
      ap (has_words (braid_word a b) (braid_word b a)) (each a b low h high) ∙ both (equal_same (braid_word a b)) (equal_same (braid_word b a))

  pub not_braid : (((a b : ℕ) → 1 ≤ a → a < b → b ≤ T.size → complete T a b ≡ complement (braid_word a b) (braid_word b a)) → ⊥) → is_braid T ≡ false
  not_braid n = go (is_braid T) refl
    where
      go : (t : Bool) → is_braid T ≡ t → is_braid T ≡ false
      go true e = absurd (n (braid_pairs e))
      go false e = e
