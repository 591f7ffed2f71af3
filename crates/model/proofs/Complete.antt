-- The laws of `complete`, which gives both right complements of two letters at once: equal letters, the pair the other way round, and which
-- pairs are undefined. They are what [D1] section 1 asks of a right complement, with the arguments in the order of [D2].
use mathlib.Core.Path.{◌≡◌, refl, sym, ap, ◌∙◌}
use mathlib.Core.Logic.{◌≢◌}
use mathlib.Core.List.{List, [], ◌∷◌}
use mathlib.Core.Bool.{Bool, true, false, ◌&&◌, cond}
use Prim.Native.Nat.{ℕ, zero, suc, ◌-◌, ◌<◌}
use native.Mathlib.Omega.{arith}
use native.Mathlib.Decide.{ℕ_discrete, dec_lt}
use lib.Dec.{leb, ltb}
use lib.ListN.{get_or}
use borrow.Author.Tests.{eq-eqb, ne_eqb, lt-ltb, le-ltb, leb-true}
use Rattle.model.specs.Word.{Positive}
use Rattle.model.specs.Range.{InRange, Rows, WordInRange, PairInRange, TableInRange}
use Rattle.model.specs.Presentation.{Presentation, Complement, undefined, complement, swapped, listed, complete}
use Rattle.model.proofs.Impossible.{impossible}
use Rattle.model.proofs.Lists.{all_default}

module _ (T : Presentation) where
  pub complete_same : (a : ℕ) → complete T a a ≡ complement [] []
  unfolding complete
  complete_same a = ap (λ t. cond t (complement [] []) (cond (ltb a a) (listed T a a) (swapped (listed T a a)))) (eq-eqb a a refl)

  pub complete_below : {a b : ℕ} → a < b → complete T a b ≡ listed T a b
  unfolding complete
  complete_below {a} {b} h =
      ap (λ t. cond t (complement [] []) (cond (ltb a b) (listed T a b) (swapped (listed T b a)))) (ne_eqb a b (omega arith))
      ∙ ap (λ t. cond t (listed T a b) (swapped (listed T b a))) (lt-ltb a b h)

  pub complete_above : {a b : ℕ} → b < a → complete T a b ≡ swapped (listed T b a)
  unfolding complete
  complete_above {a} {b} h =
      ap (λ t. cond t (complement [] []) (cond (ltb a b) (listed T a b) (swapped (listed T b a)))) (ne_eqb a b (omega arith))
      ∙ ap (λ t. cond t (listed T a b) (swapped (listed T b a))) (le-ltb a b (omega arith))

pub swapped_twice : (c : Complement) → swapped (swapped c) ≡ c
swapped_twice undefined = refl
swapped_twice (complement x y) = refl

module _ (T : Presentation) where
  pub complete_turn : (a b : ℕ) → complete T b a ≡ swapped (complete T a b)
  complete_turn a b = go (ℕ_discrete a b) (dec_lt a b)
    where
      go : Dec (a ≡ b) → Dec (a < b) → complete T b a ≡ swapped (complete T a b)
      go (yes p) _ = rw (← p, complete_same T a)
      go (no p) (yes q) = complete_above T q ∙ ap swapped (sym (complete_below T q))
      go (no p) (no q) =
          let h : b < a = omega arith in
          complete_below T h ∙ (sym (swapped_twice (listed T b a)) ∙ ap swapped (sym (complete_above T h)))

  -- of two different letters that have a complement both are named: a pair is undefined where one of them is not
  listed_named : {a b : ℕ} {x y : Positive} → a < b → listed T a b ≡ complement x y → InRange T.size a × InRange T.size b
  listed_named {a} {b} {x} {y} h e = go (leb 1 a) (leb b T.size) refl refl
    where
      given : Complement
      given = get_or (get_or T.rows (a - 1) []) (b - a - 1) undefined

      none_there : {t : Bool} → leb 1 a && leb b T.size ≡ t → cond t given undefined ≡ complement x y
      none_there p = ap (λ t. cond t given undefined) (sym p) ∙ e

      go : (s t : Bool) → leb 1 a ≡ s → leb b T.size ≡ t → InRange T.size a × InRange T.size b
      go true true p q =
          let low_a = leb-true 1 a p in
          let high_b = leb-true b T.size q in
          (record { low = low_a; high = omega arith }, record { low = omega arith; high = high_b })
      go true false p q =
          let r : undefined ≡ complement x y = none_there (ap (λ s. s && leb b T.size) p ∙ q) in
          impossible (cc)
      go false t p q =
          let r : undefined ≡ complement x y = none_there (ap (λ s. s && leb b T.size) p) in
          impossible (cc)

  pub complete_named : {a b : ℕ} {x y : Positive} → a ≢ b → complete T a b ≡ complement x y → InRange T.size a × InRange T.size b
  complete_named {a} {b} {x} {y} h e = go (dec_lt a b)
    where
      go : Dec (a < b) → InRange T.size a × InRange T.size b
      go (yes q) = listed_named q (sym (complete_below T q) ∙ e)
      go (no q) =
          let below : b < a = omega arith in
          let r = listed_named {x = y} {y = x} below (sym (complete_below T below) ∙ (complete_turn a b ∙ ap swapped e)) in
          (r.1, r.0)

-- THE LETTERS OF COMPLETIONS

rows_at : {A : Type 0} (P : A → Type 0) (d : A) → P d → (k : ℕ) (rows : List (List A)) → Rows P k rows → (i j : ℕ) → P (get_or (get_or rows i []) j d)
rows_at P d p zero [] h i j = p
rows_at P d p zero (row ∷ rows) h i j = elim h [ ]
rows_at P d p (suc k) [] h i j = elim h [ ]
rows_at P d p (suc k) (row ∷ rows) h zero j = all_default P d p row h.1 j
rows_at P d p (suc k) (row ∷ rows) h (suc i) j = rows_at P d p k rows h.2 i j

module _ (T : Presentation) (h : TableInRange T) where
  listed_in_range : (a b : ℕ) → PairInRange T.size (listed T a b)
  listed_in_range a b = go (leb 1 a && leb b T.size)
    where
      go : (t : Bool) → PairInRange T.size (cond t (get_or (get_or T.rows (a - 1) []) (b - a - 1) undefined) undefined)
      go true = rows_at (PairInRange T.size) undefined tt T.size T.rows h.pairs (a - 1) (b - a - 1)
      go false = tt

  swapped_in_range : (c : Complement) → PairInRange T.size c → PairInRange T.size (swapped c)
  swapped_in_range undefined p = tt
  swapped_in_range (complement x y) p = (p.1, p.0)

  -- those of a table in range name letters
  pub complete_in_range : (a b : ℕ) → PairInRange T.size (complete T a b)
  complete_in_range a b = go (ℕ_discrete a b) (dec_lt a b)
    where
      none : WordInRange T.size []
      none = record { short = omega arith; letters = tt }

      go : Dec (a ≡ b) → Dec (a < b) → PairInRange T.size (complete T a b)
      go (yes e) _ = rw (← e, complete_same T a) (none, none)
      go (no d) (yes l) = rw (complete_below T l) (listed_in_range a b)
      go (no d) (no l) =
          let below : b < a = omega arith in
          rw (complete_above T below) (swapped_in_range (listed T b a) (listed_in_range b a))
