-- The first words, written one after the other.
use mathlib.Core.Path.{◌≡◌, refl, sym, ap, ◌∙◌}
use mathlib.Core.List.{List, [], ◌∷◌, ◌++◌, map, append_assoc}
use Prim.Native.Nat.{ℕ, zero, suc, ◌+◌, ◌*◌, ◌≤◌, ◌<◌}
use native.Mathlib.Omega.{arith}
use native.Mathlib.Numerals.{add-one}
use lib.ListN.{length, take, set, length-set, length-append}
use lib.Seq.{take-suc-set}
use Rattle.model.specs.Word.{Positive, positive}
use Rattle.model.specs.Enumeration.{range}
use Rattle.model.specs.Range.{All, Lettered}
use Rattle.model.specs.Ways.{listing_bytes}
use Rattle.model.specs.Signed.{first_words}
use Rattle.sets.proofs.Spelling.{listing_both}

abbrev single : ℕ → Positive
single a = a ∷ []

-- one letter more
singles_more : (from k : ℕ) → map single (range from (suc k)) ≡ map single (range from k) ++ (single (from + k) ∷ [])
singles_more from zero = let e : from ≡ from + 0 = omega arith in ap (λ a. single a ∷ []) e
singles_more from (suc k) =
    let e : suc from + k ≡ from + suc k = omega arith in
    ap (λ l. single from ∷ l) (singles_more (suc from) k ∙ ap (λ a. map single (range (suc from) k) ++ (single a ∷ [])) e)

first_more : (k : ℕ) → listing_bytes (first_words (k + 1)) ≡ listing_bytes (first_words k) ++ ((k + 1) ∷ 0 ∷ [])
first_more k =
    let e : 1 + k ≡ k + 1 = omega arith in
    ap (λ i. listing_bytes (first_words i)) (add-one k)
    ∙ (ap (λ l. listing_bytes ([] ∷ l)) (singles_more 1 k ∙ ap (λ a. map single (range 1 k) ++ (single a ∷ [])) e)
    ∙ listing_both (first_words k) (single (k + 1) ∷ []))

module _ (area : List ℕ) (a : ℕ) (inside : 1 + 2 * a + 1 < length area) (so_far : take (1 + 2 * a) area ≡ listing_bytes (first_words a)) where
  -- the letter and its zero byte
  pub first_written : take (1 + 2 * (a + 1)) (set (set area (1 + 2 * a) (a + 1)) (1 + 2 * a + 1) 0) ≡ listing_bytes (first_words (a + 1))
  first_written =
      let n : 1 + 2 * (a + 1) ≡ suc (1 + 2 * a + 1) = omega arith in
      let front : List ℕ = listing_bytes (first_words a) in
      let one : take (1 + 2 * a + 1) (set area (1 + 2 * a) (a + 1)) ≡ front ++ ((a + 1) ∷ []) =
      ap (λ k. take k (set area (1 + 2 * a) (a + 1))) (add-one (1 + 2 * a))
      ∙ (take-suc-set area (1 + 2 * a) (a + 1) (omega arith) ∙ ap (λ l. l ++ ((a + 1) ∷ [])) so_far) in
      ap (λ k. take k (set (set area (1 + 2 * a) (a + 1)) (1 + 2 * a + 1) 0)) n
      ∙ (take-suc-set (set area (1 + 2 * a) (a + 1)) (1 + 2 * a + 1) 0 (omega (arith, length-set area (1 + 2 * a) (a + 1)))
      ∙ (ap (λ l. l ++ (0 ∷ [])) one ∙ (append_assoc front ((a + 1) ∷ []) (0 ∷ []) ∙ sym (first_more a))))

-- their count, and their letters
singles_count : (from k : ℕ) → length (map single (range from k)) ≡ k
singles_count from zero = refl
singles_count from (suc k) = ap suc (singles_count (suc from) k)

pub firsts : (n : ℕ) → length (first_words n) ≡ 1 + n
firsts n = omega (arith, singles_count 1 n)

singles_named : (n from k : ℕ) → 1 ≤ from → from + k ≤ n + 1 → All (λ w. Lettered n (positive w)) (map single (range from k))
singles_named n from zero l h = tt
singles_named n from (suc k) l h = ((record { low = l; high = omega arith }, tt), singles_named n (suc from) k (omega arith) (omega arith))

pub first_named : (n : ℕ) → All (λ w. Lettered n (positive w)) (first_words n)
first_named n = (tt, singles_named n 1 n (omega arith) (omega arith))

pub first_bytes : (n : ℕ) → length (listing_bytes (first_words n)) ≡ 1 + 2 * n
first_bytes zero = refl
first_bytes (suc n) =
    ap (λ k. length (listing_bytes (first_words k))) (sym (add-one n))
    ∙ (ap length (first_more n) ∙ (length-append (listing_bytes (first_words n)) ((n + 1) ∷ 0 ∷ []) ∙ omega (arith, first_bytes n)))
