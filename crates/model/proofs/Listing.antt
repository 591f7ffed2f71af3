-- The order of words by the first letter that differs, lists of words in that order, and insertion into them (specification 6.14).
-- Two ordered lists with the same members are the same list, and one whose members are all in another takes no more bytes.
use mathlib.Core.Path.{◌≡◌, refl, sym, ap, ap₂, ◌∙◌}
use mathlib.Core.Logic.{◌⊎◌, inl, inr}
use mathlib.Core.List.Memᴰ
use mathlib.Core.List.{List, [], ◌∷◌, ◌++◌, Memᴰ}
use mathlib.Core.Bool.{Bool, true, false, cond}
use Prim.Native.Nat.{ℕ, ◌+◌, ◌≤◌, ◌<◌}
use native.Mathlib.Omega.{arith}
use native.Mathlib.Decide.{ℕ_discrete, dec_lt}
use lib.Dec.{ltb}
use lib.ListN.{length, length-append}
use borrow.Author.Tests.{eq-eqb, ne_eqb, lt-ltb, ltb-true}
use Rattle.model.specs.Word.{Positive}
use Rattle.model.specs.Presentation.{total}
use Rattle.model.specs.Ways.{earlier, Ordered, inserted, inserted_all, listing_bytes}
use Rattle.model.proofs.Impossible.{impossible}

-- THE ORDER

pub earlier_same : (a : ℕ) (u v : Positive) → earlier (a ∷ u) (a ∷ v) ≡ earlier u v
earlier_same a u v = ap (λ t. cond t (earlier u v) (ltb a a)) (eq-eqb a a refl)

pub earlier_apart : (a b : ℕ) (u v : Positive) → (a ≡ b → ⊥) → earlier (a ∷ u) (b ∷ v) ≡ ltb a b
earlier_apart a b u v h = ap (λ t. cond t (earlier u v) (ltb a b)) (ne_eqb a b h)

pub earlier_below : (a b : ℕ) (u v : Positive) → a < b → earlier (a ∷ u) (b ∷ v) ≡ true
earlier_below a b u v h = earlier_apart a b u v (omega arith) ∙ lt-ltb a b h

-- what decides
pub earlier_cases : (a b : ℕ) (u v : Positive) → earlier (a ∷ u) (b ∷ v) ≡ true → (a < b) ⊎ ((a ≡ b) × (earlier u v ≡ true))
earlier_cases a b u v e = go (ℕ_discrete a b)
  where
    go : Dec (a ≡ b) → (a < b) ⊎ ((a ≡ b) × (earlier u v ≡ true))
    go (yes h) = inr (h, sym (ap (λ t. cond t (earlier u v) (ltb a b)) (eq-eqb a b h)) ∙ e)
    go (no h) = inl (ltb-true a b (sym (earlier_apart a b u v h) ∙ e))

pub earlier_transitive : (u v w : Positive) → earlier u v ≡ true → earlier v w ≡ true → earlier u w ≡ true
earlier_transitive [] v w p q = impossible (cc)
earlier_transitive (a ∷ u) [] w p q = impossible (cc)
earlier_transitive (a ∷ u) (b ∷ v) [] p q = impossible (cc)
earlier_transitive (a ∷ u) (b ∷ v) (c ∷ w) p q = go (earlier_cases a b u v p) (earlier_cases b c v w q) (earlier_transitive u v w)
  where
    go : (a < b) ⊎ ((a ≡ b) × (earlier u v ≡ true)) → (b < c) ⊎ ((b ≡ c) × (earlier v w ≡ true))
        → (earlier u v ≡ true → earlier v w ≡ true → earlier u w ≡ true) → earlier (a ∷ u) (c ∷ w) ≡ true
    go (inl h) (inl k) rest = earlier_below a c u w (omega arith)
    go (inl h) (inr k) rest = earlier_below a c u w (omega (arith, k.0))
    go (inr h) (inl k) rest = earlier_below a c u w (omega (arith, h.0))
    go (inr h) (inr k) rest =
        ap (λ x. earlier (x ∷ u) (c ∷ w)) (h.0 ∙ k.0) ∙ (earlier_same c u w ∙ rest h.1 k.1)

pub earlier_irreflexive : (u : Positive) → earlier u u ≡ true → ⊥
earlier_irreflexive [] e = impossible (cc)
earlier_irreflexive (a ∷ u) e = earlier_irreflexive u (sym (earlier_same a u u) ∙ e)

pub earlier_not_back : (u v : Positive) → earlier u v ≡ true → earlier v u ≡ true → ⊥
earlier_not_back u v p q = earlier_irreflexive u (earlier_transitive u v u p q)

-- BEGINNINGS

module _ (weight : ℕ → ℕ) (weighs : (a : ℕ) → 1 ≤ weight a) where
  -- of two words of one weight neither begins the other, unless they are the same
  pub same_weight_same : (u v : Positive) → total weight u ≡ total weight v → earlier u v ≡ false → earlier v u ≡ false → u ≡ v
  same_weight_same [] [] h p q = refl
  same_weight_same [] (b ∷ v) h p q = absurd (omega (arith, weighs b, h))
  same_weight_same (a ∷ u) [] h p q = absurd (omega (arith, weighs a, h))
  same_weight_same (a ∷ u) (b ∷ v) h p q = go (ℕ_discrete a b) (dec_lt a b) (same_weight_same u v)
    where
      go : Dec (a ≡ b) → Dec (a < b) → (total weight u ≡ total weight v → earlier u v ≡ false → earlier v u ≡ false → u ≡ v) → a ∷ u ≡ b ∷ v
      go (yes e) _ rest =
          ap₂ (λ x w. x ∷ w) e
          (rest (omega (arith, h, ap weight e)) (sym (ap (λ x. earlier (a ∷ u) (x ∷ v)) (sym e) ∙ earlier_same a u v) ∙ p)
          (sym (ap (λ x. earlier (b ∷ v) (x ∷ u)) e ∙ earlier_same b v u) ∙ q))
      go (no e) (yes l) rest =
          let below = earlier_below a b u v l in
          impossible (cc)
      go (no e) (no l) rest =
          let above = earlier_below b a v u (omega arith) in
          impossible (cc)

-- ORDERED LISTS

-- every element but the first comes after it
pub ordered_rest : (v : Positive) (vs : List Positive) → Ordered (v ∷ vs) → Ordered vs
ordered_rest v [] o = tt
ordered_rest v (w ∷ vs) o = o.1

pub ordered_after : (v : Positive) (vs : List Positive) → Ordered (v ∷ vs) → (w : Positive) → Memᴰ w vs → earlier v w ≡ true
ordered_after v [] o w m = absurd (Memᴰ.not-nil m)
ordered_after v (x ∷ vs) o w m = go (Memᴰ.cases_cons m) (ordered_after x vs o.1 w)
  where
    go : (w ≡ x) ⊎ Memᴰ w vs → (Memᴰ w vs → earlier x w ≡ true) → earlier v w ≡ true
    go (inl e) rest = ap (earlier v) e ∙ o.0
    go (inr n) rest = earlier_transitive v x w o.0 (rest n)

-- a word put before those that it comes before
pub ordered_front : (v : Positive) (vs : List Positive) → Ordered vs → ((w : Positive) → Memᴰ w vs → earlier v w ≡ true) → Ordered (v ∷ vs)
ordered_front v [] o h = tt
ordered_front v (w ∷ vs) o h = (h w (Memᴰ.head refl), o)

-- INSERTION

-- the three ways that it can go
pub inserted_here : (w v : Positive) (vs : List Positive) → earlier w v ≡ true → inserted w (v ∷ vs) ≡ w ∷ v ∷ vs
inserted_here w v vs e = rw e

pub inserted_later : (w v : Positive) (vs : List Positive) → earlier v w ≡ true → inserted w (v ∷ vs) ≡ v ∷ inserted w vs
inserted_later w v vs e = go (earlier w v) refl
  where
    go : (t : Bool) → earlier w v ≡ t → inserted w (v ∷ vs) ≡ v ∷ inserted w vs
    go true h = absurd (earlier_not_back w v h e)
    go false h = rw (h, e)

pub inserted_there : (w v : Positive) (vs : List Positive) → earlier w v ≡ false → earlier v w ≡ false → inserted w (v ∷ vs) ≡ v ∷ vs
inserted_there w v vs p q = rw (p, q)

-- a property of a list is shown of an insertion by the three ways
inserted_by : (P : List Positive → Type 0) (w v : Positive) (vs : List Positive)
    → (earlier w v ≡ true → P (w ∷ v ∷ vs)) → (earlier v w ≡ true → P (v ∷ inserted w vs))
    → (earlier w v ≡ false → earlier v w ≡ false → P (v ∷ vs)) → P (inserted w (v ∷ vs))
inserted_by P w v vs here later there = go (earlier w v) (earlier v w) refl refl
  where
    go : (s t : Bool) → earlier w v ≡ s → earlier v w ≡ t → P (inserted w (v ∷ vs))
    go true t p q = rw (inserted_here w v vs p) (here p)
    go false true p q = rw (inserted_later w v vs q) (later q)
    go false false p q = rw (inserted_there w v vs p q) (there p q)

-- what is inserted, and nothing else, is new
pub inserted_member : (w : Positive) (vs : List Positive) (x : Positive) → Memᴰ x (inserted w vs) → (x ≡ w) ⊎ Memᴰ x vs
inserted_member w [] x m = Memᴰ.cases_cons m
inserted_member w (v ∷ vs) x m =
    inserted_by (λ l. Memᴰ x l → (x ≡ w) ⊎ Memᴰ x (v ∷ vs)) w v vs
    (λ p n. Memᴰ.cases_cons n)
    (λ p n. go (Memᴰ.cases_cons n) (inserted_member w vs x))
    (λ p q n. inr n) m
  where
    step : (x ≡ w) ⊎ Memᴰ x vs → (x ≡ w) ⊎ Memᴰ x (v ∷ vs)
    step (inl e) = inl e
    step (inr n) = inr (Memᴰ.tail n)

    go : (x ≡ v) ⊎ Memᴰ x (inserted w vs) → (Memᴰ x (inserted w vs) → (x ≡ w) ⊎ Memᴰ x vs) → (x ≡ w) ⊎ Memᴰ x (v ∷ vs)
    go (inl e) rest = inr (Memᴰ.head e)
    go (inr n) rest = step (rest n)

-- nothing is lost
pub inserted_keeps : (w : Positive) (vs : List Positive) (x : Positive) → Memᴰ x vs → Memᴰ x (inserted w vs)
inserted_keeps w [] x m = absurd (Memᴰ.not-nil m)
inserted_keeps w (v ∷ vs) x m =
    inserted_by (Memᴰ x) w v vs
    (λ p. Memᴰ.tail m)
    (λ p. go (Memᴰ.cases_cons m) (inserted_keeps w vs x))
    (λ p q. m)
  where
    go : (x ≡ v) ⊎ Memᴰ x vs → (Memᴰ x vs → Memᴰ x (inserted w vs)) → Memᴰ x (v ∷ inserted w vs)
    go (inl e) rest = Memᴰ.head e
    go (inr n) rest = Memᴰ.tail (rest n)

pub inserted_ordered : (w : Positive) (vs : List Positive) → Ordered vs → Ordered (inserted w vs)
inserted_ordered w [] o = tt
inserted_ordered w (v ∷ vs) o =
    inserted_by Ordered w v vs
    (λ p. (p, o))
    (λ p. ordered_front v (inserted w vs) (inserted_ordered w vs (ordered_rest v vs o)) (λ x m. go x p (inserted_member w vs x m)))
    (λ p q. o)
  where
    go : (x : Positive) → earlier v w ≡ true → (x ≡ w) ⊎ Memᴰ x vs → earlier v x ≡ true
    go x p (inl e) = ap (earlier v) e ∙ p
    go x p (inr m) = ordered_after v vs o x m

-- a list never becomes shorter, and one that stays as long stays as it is
pub inserted_longer : (w : Positive) (vs : List Positive) → length vs ≤ length (inserted w vs)
inserted_longer w [] = omega arith
inserted_longer w (v ∷ vs) =
    inserted_by (λ l. length (v ∷ vs) ≤ length l) w v vs
    (λ p. omega arith) (λ p. omega (arith, inserted_longer w vs)) (λ p q. omega arith)

pub inserted_unchanged : (w : Positive) (vs : List Positive) → length (inserted w vs) ≤ length vs → inserted w vs ≡ vs
inserted_unchanged w [] h = absurd (omega arith)
inserted_unchanged w (v ∷ vs) h =
    inserted_by (λ l. length l ≤ length (v ∷ vs) → l ≡ v ∷ vs) w v vs
    (λ p k. absurd (omega (arith, k)))
    (λ p k. ap (λ l. v ∷ l) (inserted_unchanged w vs (omega (arith, k))))
    (λ p q k. refl) h

pub all_longer : (ws vs : List Positive) → length vs ≤ length (inserted_all ws vs)
all_longer [] vs = omega arith
all_longer (w ∷ ws) vs = omega (arith, inserted_longer w vs, all_longer ws (inserted w vs))

pub all_unchanged : (ws vs : List Positive) → length (inserted_all ws vs) ≤ length vs → inserted_all ws vs ≡ vs
all_unchanged [] vs h = refl
all_unchanged (w ∷ ws) vs h =
    let longer = inserted_longer w vs in
    let further = all_longer ws (inserted w vs) in
    all_unchanged ws (inserted w vs) (omega arith) ∙ inserted_unchanged w vs (omega arith)

pub all_ordered : (ws vs : List Positive) → Ordered vs → Ordered (inserted_all ws vs)
all_ordered [] vs o = o
all_ordered (w ∷ ws) vs o = all_ordered ws (inserted w vs) (inserted_ordered w vs o)

pub all_keeps : (ws vs : List Positive) (x : Positive) → Memᴰ x vs → Memᴰ x (inserted_all ws vs)
all_keeps [] vs x m = m
all_keeps (w ∷ ws) vs x m = all_keeps ws (inserted w vs) x (inserted_keeps w vs x m)

pub all_member : (ws vs : List Positive) (x : Positive) → Memᴰ x (inserted_all ws vs) → Memᴰ x ws ⊎ Memᴰ x vs
all_member [] vs x m = inr m
all_member (w ∷ ws) vs x m = go (all_member ws (inserted w vs) x m)
  where
    last : (x ≡ w) ⊎ Memᴰ x vs → Memᴰ x (w ∷ ws) ⊎ Memᴰ x vs
    last (inl e) = inl (Memᴰ.head e)
    last (inr n) = inr n

    go : Memᴰ x ws ⊎ Memᴰ x (inserted w vs) → Memᴰ x (w ∷ ws) ⊎ Memᴰ x vs
    go (inl n) = inl (Memᴰ.tail n)
    go (inr n) = last (inserted_member w vs x n)

-- EQUAL WEIGHTS

-- every word weighs so much
abbrev pub Weighing : (ℕ → ℕ) → ℕ → List Positive → Type 0
Weighing weight k vs = (x : Positive) → Memᴰ x vs → total weight x ≡ k

module _ (weight : ℕ → ℕ) (weighs : (a : ℕ) → 1 ≤ weight a) (k : ℕ) where
  -- among words of its weight a word is there once it is inserted
  pub inserted_is_there : (w : Positive) (vs : List Positive) → total weight w ≡ k → Weighing weight k vs → Memᴰ w (inserted w vs)
  inserted_is_there w [] e h = Memᴰ.head refl
  inserted_is_there w (v ∷ vs) e h =
      inserted_by (Memᴰ w) w v vs
      (λ p. Memᴰ.head refl)
      (λ p. Memᴰ.tail (inserted_is_there w vs e (λ x m. h x (Memᴰ.tail m))))
      (λ p q. Memᴰ.head (same_weight_same weight weighs w v (e ∙ sym (h v (Memᴰ.head refl))) p q))

  pub inserted_weighing : (w : Positive) (vs : List Positive) → total weight w ≡ k → Weighing weight k vs → Weighing weight k (inserted w vs)
  inserted_weighing w vs e h x m = go (inserted_member w vs x m)
    where
      go : (x ≡ w) ⊎ Memᴰ x vs → total weight x ≡ k
      go (inl p) = ap (total weight) p ∙ e
      go (inr n) = h x n

  pub all_are_there : (ws vs : List Positive) → Weighing weight k ws → Weighing weight k vs → (x : Positive) → Memᴰ x ws → Memᴰ x (inserted_all ws vs)
  all_are_there [] vs g h x m = absurd (Memᴰ.not-nil m)
  all_are_there (w ∷ ws) vs g h x m =
      go (Memᴰ.cases_cons m)
      (all_are_there ws (inserted w vs) (λ y n. g y (Memᴰ.tail n)) (inserted_weighing w vs (g w (Memᴰ.head refl)) h) x)
    where
      go : (x ≡ w) ⊎ Memᴰ x ws → (Memᴰ x ws → Memᴰ x (inserted_all ws (inserted w vs))) → Memᴰ x (inserted_all ws (inserted w vs))
      go (inl e) rest =
          all_keeps ws (inserted w vs) x
          (rw e (inserted_is_there w vs (g w (Memᴰ.head refl)) h))
      go (inr n) rest = rest n

-- ONE LIST IN ANOTHER

abbrev pub Within : List Positive → List Positive → Type 0
Within vs ws = (x : Positive) → Memᴰ x vs → Memᴰ x ws

-- where the first words are the same, the others are among the others
pub within_rest : (v w : Positive) (vs ws : List Positive) → Ordered (v ∷ vs) → v ≡ w → Within (v ∷ vs) (w ∷ ws) → Within vs ws
within_rest v w vs ws o e h x m = go (Memᴰ.cases_cons (h x (Memᴰ.tail m)))
  where
    go : (x ≡ w) ⊎ Memᴰ x ws → Memᴰ x ws
    go (inl p) =
        let after : earlier v x ≡ true = ordered_after v vs o x m in
        absurd (earlier_irreflexive v (ap (earlier v) (e ∙ sym p) ∙ after))
    go (inr n) = n

-- where the first word comes later, all are among the others
pub within_later : (v w : Positive) (vs ws : List Positive) → Ordered (v ∷ vs) → earlier w v ≡ true → Within (v ∷ vs) (w ∷ ws) → Within (v ∷ vs) ws
within_later v w vs ws o e h x m = go (Memᴰ.cases_cons (h x m)) (Memᴰ.cases_cons m)
  where
    go : (x ≡ w) ⊎ Memᴰ x ws → (x ≡ v) ⊎ Memᴰ x vs → Memᴰ x ws
    go (inr n) _ = n
    go (inl p) (inl q) = absurd (earlier_irreflexive w (ap (earlier w) (sym p ∙ q) ∙ e))
    go (inl p) (inr n) =
        absurd (earlier_irreflexive w (earlier_transitive w v w e (ap (earlier v) (sym p) ∙ ordered_after v vs o x n)))

-- the first word of a list within an ordered one is its first, or comes later
pub first_of : (v w : Positive) (vs ws : List Positive) → Ordered (w ∷ ws) → Within (v ∷ vs) (w ∷ ws) → (v ≡ w) ⊎ (earlier w v ≡ true)
first_of v w vs ws o h = go (Memᴰ.cases_cons (h v (Memᴰ.head refl)))
  where
    go : (v ≡ w) ⊎ Memᴰ v ws → (v ≡ w) ⊎ (earlier w v ≡ true)
    go (inl e) = inl e
    go (inr n) = inr (ordered_after w ws o v n)

pub same_members : (vs ws : List Positive) → Ordered vs → Ordered ws → Within vs ws → Within ws vs → vs ≡ ws
same_members [] [] p q f g = refl
same_members [] (w ∷ ws) p q f g = absurd (Memᴰ.not-nil (g w (Memᴰ.head refl)))
same_members (v ∷ vs) [] p q f g = absurd (Memᴰ.not-nil (f v (Memᴰ.head refl)))
same_members (v ∷ vs) (w ∷ ws) p q f g = go (first_of v w vs ws q f) (first_of w v ws vs p g) (same_members vs ws)
  where
    go : (v ≡ w) ⊎ (earlier w v ≡ true) → (w ≡ v) ⊎ (earlier v w ≡ true) → (Ordered vs → Ordered ws → Within vs ws → Within ws vs → vs ≡ ws)
        → v ∷ vs ≡ w ∷ ws
    go (inl e) _ rest =
        ap₂ (λ x l. x ∷ l) e
        (rest (ordered_rest v vs p) (ordered_rest w ws q) (within_rest v w vs ws p e f) (within_rest w v ws vs q (sym e) g))
    go (inr l) (inl e) rest = absurd (earlier_irreflexive w (ap (earlier w) e ∙ l))
    go (inr l) (inr k) rest = absurd (earlier_not_back v w k l)

-- the bytes of a listing
abbrev pub bytes_of : List Positive → ℕ
bytes_of vs = length (listing_bytes vs)

pub bytes_more : (v : Positive) (vs : List Positive) → bytes_of (v ∷ vs) ≡ length v + 1 + bytes_of vs
bytes_more v vs = length-append (v ++ (0 ∷ [])) (listing_bytes vs) ∙ ap (λ k. k + bytes_of vs) (length-append v (0 ∷ []))

pub within_shorter : (vs ws : List Positive) → Ordered vs → Ordered ws → Within vs ws → bytes_of vs ≤ bytes_of ws
within_shorter [] ws p q f = omega arith
within_shorter (v ∷ vs) [] p q f = absurd (Memᴰ.not-nil (f v (Memᴰ.head refl)))
within_shorter (v ∷ vs) (w ∷ ws) p q f =
    go (first_of v w vs ws q f) (within_shorter vs ws (ordered_rest v vs p) (ordered_rest w ws q))
    (within_shorter (v ∷ vs) ws p (ordered_rest w ws q))
  where
    go : (v ≡ w) ⊎ (earlier w v ≡ true) → (Within vs ws → bytes_of vs ≤ bytes_of ws) → (Within (v ∷ vs) ws → bytes_of (v ∷ vs) ≤ bytes_of ws)
        → bytes_of (v ∷ vs) ≤ bytes_of (w ∷ ws)
    go (inl e) rest skip = omega (arith, bytes_more v vs, bytes_more w ws, ap length e, rest (within_rest v w vs ws p e f))
    go (inr l) rest skip = omega (arith, bytes_more w ws, skip (within_later v w vs ws p l f))
