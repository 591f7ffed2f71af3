-- The listing of all words joined to a program (specification 6.14) is in order, has joined words only and has all of them; no other list does.
-- It ends since words of one weight are numbers of so many digits: in order, they are numbers that rise.
-- From the definitions, and that joined words weigh the same, the norm of [D1] Lemma 1.4.
-- Main names: `listing_meaning`, `listing_closed`, `lists_once`, `words_in_order`.
use mathlib.Core.Path.{◌≡◌, refl, sym, ap, subst}
use mathlib.Core.Logic.{◌≢◌, ◌⊎◌, inl, inr}
use mathlib.Core.List.{List, [], ◌∷◌, ◌++◌, map, Memᴰ}
use mathlib.Core.Bool.{Bool, true, false}
use mathlib.Core.Option.{Option, none, some}
use Prim.Native.Nat.{ℕ, zero, suc, ◌+◌, ◌*◌, ◌^◌, ◌≤◌, ◌<◌}
use native.Mathlib.Nat.{pow-succ', one-le-pow, mul-le-mul_right, pow-zero}
use native.Mathlib.Omega.{arith}
use native.Mathlib.Decide.{ℕ_discrete}
use lib.Dec.{eqb}
use lib.ListN.{length}
use borrow.Author.Tests.{eqb-true, eqb-false}
use Rattle.model.specs.Word.{Positive}
use Rattle.model.specs.Presentation.{Presentation, complement, complete, weight_of, total, weigh}
use Rattle.model.specs.Equivalence.{Entry, applied, Leads, Joined}
use Rattle.model.specs.Enumeration.{range, concat_map, pairs}
use Rattle.model.specs.Outcome.{answered}
use Rattle.model.specs.Checks.{weight_check}
use Rattle.model.specs.Range.{All, InRange, PairInRange, TableInRange}
use Rattle.model.specs.Ways.{earlier, Ordered, entries, of_option, neighbours, spread, on_from, closure, listing}
use Rattle.model.proofs.Impossible.{impossible}
use Rattle.model.proofs.Complete.{complete_named, complete_in_range}
use Rattle.model.proofs.Equiv.{Swap, Equiv, done, step, Homogeneous, length_total, total_append}
use Rattle.model.proofs.Entries.{applied_applies, entry_inside}
use Rattle.model.proofs.Joining.{joined_equiv, joined_same, joined_transitive, joined_weight, idle}
use Rattle.model.proofs.Listing.{earlier_cases, same_weight_same, Weighing, all_ordered, all_keeps, all_member, all_longer, all_unchanged, all_are_there}
use Rattle.model.proofs.Listing.{Within, same_members}
use Rattle.theory.specs.Ways.{Lists, Weighed, ListingMeaning, WordsInOrder}
use Rattle.theory.proofs.Letters.{all_append, all_first, all_second}
use Rattle.theory.proofs.Enumerated.{range_has, concat_has}
use Rattle.theory.proofs.Clearing.{checked_homogeneous}

-- WORDS AS NUMBERS

-- the number with the word's letters as its first digits, and zeros after them
abbrev digits_of : ℕ → ℕ → Positive → ℕ
digits_of b zero u = 0
digits_of b (suc k) [] = 0
digits_of b (suc k) (a ∷ u) = a * b ^ k + digits_of b k u

-- a word of at most k letters, each below b
pub record Digits (b k : ℕ) (u : Positive) : Type 0 where
  pub short : length u ≤ k
  pub small : All (λ a. a < b) u

digits_rest : (b k a : ℕ) (u : Positive) → Digits b (suc k) (a ∷ u) → Digits b k u
digits_rest b k a u d = let h = d.short in record { short = omega arith; small = d.small.1 }

digits_below : (b k : ℕ) (u : Positive) → 0 < b → Digits b k u → digits_of b k u < b ^ k
digits_below b zero u p d = rw (pow-zero b) (omega arith)
digits_below b (suc k) [] p d = one-le-pow (suc k) b p
digits_below b (suc k) (a ∷ u) p d =
    let rest = digits_below b k u p (digits_rest b k a u d) in
    let high : suc a * b ^ k ≤ b * b ^ k = mul-le-mul_right (b ^ k) d.small.0 in
    omega (arith, rest, high, pow-succ' b k)

digits_rise : (b k : ℕ) (u v : Positive) → 0 < b → Digits b k u → Digits b k v → earlier u v ≡ true → digits_of b k u < digits_of b k v
digits_rise b k [] v p d e h = impossible (cc)
digits_rise b k (x ∷ u) [] p d e h = impossible (cc)
digits_rise b zero (x ∷ u) (y ∷ v) p d e h = let s = d.short in absurd (omega arith)
digits_rise b (suc k) (x ∷ u) (y ∷ v) p d e h = go (earlier_cases x y u v h) (digits_rise b k u v p (digits_rest b k x u d) (digits_rest b k y v e))
  where
    go : (x < y) ⊎ ((x ≡ y) × (earlier u v ≡ true)) → (earlier u v ≡ true → digits_of b k u < digits_of b k v)
        → x * b ^ k + digits_of b k u < y * b ^ k + digits_of b k v
    go (inl l) rest =
        let below = digits_below b k u p (digits_rest b k x u d) in
        let high : suc x * b ^ k ≤ y * b ^ k = mul-le-mul_right (b ^ k) l in
        omega (arith, below, high)
    go (inr q) rest =
        let same : x * b ^ k ≡ y * b ^ k = ap (λ i. i * b ^ k) q.0 in
        omega (arith, rest q.1, same)

-- so that an ordered list of such words has no more of them than there are numbers
few_after : (b k : ℕ) (v : Positive) (vs : List Positive) → 0 < b → Ordered (v ∷ vs) → ((x : Positive) → Memᴰ x (v ∷ vs) → Digits b k x)
    → digits_of b k v + length (v ∷ vs) ≤ b ^ k
few_after b k v [] p o d = omega (arith, digits_below b k v p (d v (mathlib.Core.List.Memᴰ.head refl)))
few_after b k v (w ∷ vs) p o d =
    let rest = few_after b k w vs p o.1 (λ x m. d x (mathlib.Core.List.Memᴰ.tail m)) in
    let rise = digits_rise b k v w p (d v (mathlib.Core.List.Memᴰ.head refl)) (d w (mathlib.Core.List.Memᴰ.tail (mathlib.Core.List.Memᴰ.head refl))) o.0 in
    omega (arith, rest, rise)

few_words : (b k : ℕ) (vs : List Positive) → 0 < b → Ordered vs → ((x : Positive) → Memᴰ x vs → Digits b k x) → length vs ≤ b ^ k
few_words b k [] p o d = omega arith
few_words b k (v ∷ vs) p o d = omega (arith, few_after b k v vs p o d)

-- LETTERS

below_all : (n : ℕ) (u : Positive) → All (InRange n) u → All (λ a. a < suc n) u
below_all n [] h = tt
below_all n (a ∷ u) h = (omega (arith, h.0.high), below_all n u h.1)

module _ (T : Presentation) (range : TableInRange T) where
  swap_letters : {u v : Positive} → Swap (complete T) u v → All (InRange T.size) u → All (InRange T.size) v
  swap_letters {u} {v} s h = go (ℕ_discrete s.a s.b)
    where
      go : Dec (s.a ≡ s.b) → All (InRange T.size) v
      go (yes e) = rw (idle T s e) at h
      go (no d) =
          let named = complete_named T d s.rule in
          let words : PairInRange T.size (complement s.x s.y) = subst (PairInRange T.size) s.rule (complete_in_range T range s.a s.b) in
          let whole : All (InRange T.size) (s.before ++ (s.a ∷ s.x ++ s.after)) = subst (All (InRange T.size)) s.left h in
          let before = all_first (InRange T.size) s.before (s.a ∷ s.x ++ s.after) whole in
          let rest = all_second (InRange T.size) s.before (s.a ∷ s.x ++ s.after) whole in
          let after = all_second (InRange T.size) s.x s.after rest.1 in
          subst (All (InRange T.size)) (sym s.right)
          (all_append (InRange T.size) s.before (s.b ∷ s.y ++ s.after) before
          (named.1, all_append (InRange T.size) s.y s.after words.1.letters after))

  equiv_letters : {u v : Positive} → Equiv (complete T) u v → All (InRange T.size) u → All (InRange T.size) v
  equiv_letters done h = h
  equiv_letters (step s e) h = equiv_letters e (swap_letters s h)

  pub joined_letters : (u v : Positive) → Joined T u v → All (InRange T.size) u → All (InRange T.size) v
  joined_letters u v j h = equiv_letters (joined_equiv T u v j) h

-- ONE SWAP

concat_cases : {A B : Type 0} (f : A → List B) (l : List A) {y : B} → Memᴰ y (concat_map f l) → (x : A) × Memᴰ x l × Memᴰ y (f x)
concat_cases f [] m = absurd (mathlib.Core.List.Memᴰ.not-nil m)
concat_cases {A} f (x ∷ l) {y} m = go (mathlib.Core.List.Memᴰ.append_cases (f x) m) (concat_cases f l)
  where
    go : Memᴰ y (f x) ⊎ Memᴰ y (concat_map f l) → (Memᴰ y (concat_map f l) → (z : A) × Memᴰ z l × Memᴰ y (f z))
        → (z : A) × Memᴰ z (x ∷ l) × Memᴰ y (f z)
    go (inl n) rest = (x, mathlib.Core.List.Memᴰ.head refl, n)
    go (inr n) rest = let t = rest n in (t.0, mathlib.Core.List.Memᴰ.tail t.1, t.2)

option_member : (o : Option Positive) (w : Positive) → Memᴰ w (of_option o) → o ≡ some w
option_member none w m = absurd (mathlib.Core.List.Memᴰ.not-nil m)
option_member (some x) w m = ap some (sym (mathlib.Core.List.Memᴰ.eq_of_singleton m))

entries_have : (n l : ℕ) (e : Entry) → e.offset < l → InRange n e.a → InRange n e.b → Memᴰ e (entries n l)
entries_have n l e h p q =
    concat_has (λ o. concat_map (λ a. map (λ b. record { offset = o; a = a; b = b }) (range 1 n)) (range 1 n)) {x = e.offset} {y = e}
    (range_has 0 l e.offset (omega arith) (omega arith))
    (concat_has (λ a. map (λ b. record { offset = e.offset; a = a; b = b }) (range 1 n)) {x = e.a} {y = e}
    (range_has 1 n e.a p.low (omega (arith, p.high)))
    (mathlib.Core.List.Memᴰ.map (λ b. record { offset = e.offset; a = e.a; b = b }) (range_has 1 n e.b q.low (omega (arith, q.high)))))

module _ (T : Presentation) where
  -- the neighbours are what entries make of a word
  pub neighbour_applied : (u w : Positive) → Memᴰ w (neighbours T u) → (e : Entry) × (applied T u e ≡ some w)
  neighbour_applied u w m =
      let t = concat_cases (λ e. of_option (applied T u e)) (entries T.size (length u)) m in
      (t.0, option_member (applied T u t.0) w t.2)

  pub applied_neighbour : (u w : Positive) (e : Entry) → applied T u e ≡ some w → Memᴰ w (neighbours T u)
  applied_neighbour u w e h =
      let t = applied_applies T u e w h in
      let named = complete_named T t.differ t.swap.rule in
      let a≡ : t.swap.a ≡ e.a = ap (λ q. q.a) t.same in
      let b≡ : t.swap.b ≡ e.b = ap (λ q. q.b) t.same in
      concat_has (λ e. of_option (applied T u e))
      (entries_have T.size (length u) e (entry_inside T u e w h) (subst (InRange T.size) a≡ named.0) (subst (InRange T.size) b≡ named.1))
      (subst (λ o. Memᴰ w (of_option o)) (sym h) (mathlib.Core.List.Memᴰ.head refl))

  pub applied_joined : (u w : Positive) (e : Entry) → applied T u e ≡ some w → Joined T u w
  applied_joined u w e h = (e ∷ [], (w, h, refl))

-- CLOSED LISTS

-- whatever one swap makes of a listed word is listed
abbrev pub Closed : Presentation → List Positive → Type 0
Closed T vs = (v w : Positive) (e : Entry) → Memᴰ v vs → applied T v e ≡ some w → Memᴰ w vs

leads_closed : (T : Presentation) (vs : List Positive) → Closed T vs → (u : Positive) (es : List Entry) (v : Positive) → Leads T u es v → Memᴰ u vs
    → Memᴰ v vs
leads_closed T vs c u [] v h m = subst (λ x. Memᴰ x vs) h m
leads_closed T vs c u (e ∷ es) v h m = leads_closed T vs c h.0 es v h.2 (c u h.0 e m h.1)

-- a closed list with u has every word joined to it
pub closed_every : (T : Presentation) (u : Positive) (vs : List Positive) → Closed T vs → Memᴰ u vs → (w : Positive) → Joined T u w → Memᴰ w vs
closed_every T u vs c m w j = leads_closed T vs c u j.0 w j.1 m

-- a list of words joined to u, in order, and u among them
pub record Finding (T : Presentation) (u : Positive) (vs : List Positive) : Type 0 where
  pub ordered : Ordered vs
  pub joined : (w : Positive) → Memᴰ w vs → Joined T u w
  pub has : Memᴰ u vs

pub closed_lists : (T : Presentation) (u : Positive) (vs : List Positive) → Finding T u vs → Closed T vs → Lists T u vs
closed_lists T u vs f c = record { ordered = f.ordered; joined = f.joined; every = closed_every T u vs c f.has }

-- THE LISTING

module _ (T : Presentation) (u : Positive) where
  finding_first : Finding T u (u ∷ [])
  finding_first =
      record {
        ordered = tt;
        joined = λ w m. subst (Joined T u) (sym (mathlib.Core.List.Memᴰ.eq_of_singleton m)) (joined_same T u);
        has = mathlib.Core.List.Memᴰ.head refl;
      }

  spread_joined : (vs : List Positive) → Finding T u vs → (w : Positive) → Memᴰ w (concat_map (neighbours T) vs) → Joined T u w
  spread_joined vs f w m =
      let t = concat_cases (neighbours T) vs m in
      let e = neighbour_applied T t.0 w t.2 in
      joined_transitive T u t.0 w (f.joined t.0 t.1) (applied_joined T t.0 w e.0 e.1)

  finding_spread : (vs : List Positive) → Finding T u vs → Finding T u (spread T vs)
  finding_spread vs f =
      record {
        ordered = all_ordered (concat_map (neighbours T) vs) vs f.ordered;
        joined = λ w m. go w (all_member (concat_map (neighbours T) vs) vs w m);
        has = all_keeps (concat_map (neighbours T) vs) vs u f.has;
      }
    where
      go : (w : Positive) → Memᴰ w (concat_map (neighbours T) vs) ⊎ Memᴰ w vs → Joined T u w
      go w (inl n) = spread_joined vs f w n
      go w (inr n) = f.joined w n

  closure_finding : (k : ℕ) (vs : List Positive) → Finding T u vs → Finding T u (closure T k vs)
  unfolding closure
  closure_finding zero vs f = f
  closure_finding (suc k) vs f = go (eqb (length (spread T vs)) (length vs)) (closure_finding k (spread T vs) (finding_spread vs f))
    where
      go : (t : Bool) → Finding T u (closure T k (spread T vs)) → Finding T u (on_from (closure T k) vs (spread T vs) t)
      go true rest = f
      go false rest = rest

module _ (T : Presentation) (u : Positive) (h : Weighed T u) where
  homogeneous : Homogeneous (weight_of T) (complete T)
  homogeneous = checked_homogeneous T h.even

  weighs : (a : ℕ) → 1 ≤ weight_of T a
  weighs a = omega arith

  finding_weighing : (vs : List Positive) → Finding T u vs → Weighing (weight_of T) (weigh T u) vs
  finding_weighing vs f x m = sym (joined_weight T (weight_of T) homogeneous u x (f.joined x m))

  finding_digits : (vs : List Positive) → Finding T u vs → (x : Positive) → Memᴰ x vs → Digits (suc T.size) (weigh T u) x
  finding_digits vs f x m =
      record {
        short = omega (arith, length_total (weight_of T) weighs x, finding_weighing vs f x m);
        small = below_all T.size x (joined_letters T h.in_range u x (f.joined x m) h.letters);
      }

  finding_few : (vs : List Positive) → Finding T u vs → length vs ≤ suc T.size ^ weigh T u
  finding_few vs f = few_words (suc T.size) (weigh T u) vs (omega arith) f.ordered (finding_digits vs f)

  -- a list that spreads to no more words is closed
  unspread_closed : (vs : List Positive) → Finding T u vs → length (spread T vs) ≡ length vs → Closed T vs
  unspread_closed vs f e v w entry m q =
      let new : Memᴰ w (concat_map (neighbours T) vs) = concat_has (neighbours T) m (applied_neighbour T v w entry q) in
      let weighing : Weighing (weight_of T) (weigh T u) (concat_map (neighbours T) vs) =
      λ x n. sym (joined_weight T (weight_of T) homogeneous u x (spread_joined T u vs f x n)) in
      let there : Memᴰ w (spread T vs) =
      all_are_there (weight_of T) weighs (weigh T u) (concat_map (neighbours T) vs) vs weighing (finding_weighing vs f) w new in
      subst (λ l. Memᴰ w l) (all_unchanged (concat_map (neighbours T) vs) vs (omega (arith, e))) there

  closure_closed : (k : ℕ) (vs : List Positive) → Finding T u vs → suc T.size ^ weigh T u < length vs + k → Closed T (closure T k vs)
  unfolding closure
  closure_closed zero vs f l = absurd (omega (arith, finding_few vs f))
  closure_closed (suc k) vs f l =
      go (eqb (length (spread T vs)) (length vs)) refl (closure_closed k (spread T vs) (finding_spread T u vs f))
    where
      go : (t : Bool) → eqb (length (spread T vs)) (length vs) ≡ t
          → (suc T.size ^ weigh T u < length (spread T vs) + k → Closed T (closure T k (spread T vs)))
          → Closed T (on_from (closure T k) vs (spread T vs) t)
      go true p rest = unspread_closed vs f (eqb-true (length (spread T vs)) (length vs) p)
      go false p rest =
          let longer = all_longer (concat_map (neighbours T) vs) vs in
          let more : length (spread T vs) ≢ length vs = eqb-false (length (spread T vs)) (length vs) p in
          rest (omega (arith, longer, more, l))

  pub listing_finding : Finding T u (listing T u)
  unfolding listing
  listing_finding = closure_finding T u (suc T.size ^ weigh T u) (u ∷ []) (finding_first T u)

  pub listing_closed : Closed T (listing T u)
  unfolding listing
  listing_closed = closure_closed (suc T.size ^ weigh T u) (u ∷ []) (finding_first T u) (omega arith)

  pub listing_lists : Lists T u (listing T u)
  listing_lists = closed_lists T u (listing T u) listing_finding listing_closed

  -- two such lists are the same
  pub lists_once : (vs ws : List Positive) → Lists T u vs → Lists T u ws → vs ≡ ws
  lists_once vs ws p q =
      same_members vs ws p.ordered q.ordered (λ x m. q.every x (p.joined x m)) (λ x m. p.every x (q.joined x m))

  pub listing_meaning : ListingMeaning T u
  listing_meaning = record { lists = listing_lists; only = λ vs l. lists_once vs (listing T u) l listing_lists }

  -- words found so far are part of the listing
  pub finding_within : (vs : List Positive) → ((w : Positive) → Memᴰ w vs → Joined T u w) → Within vs (listing T u)
  finding_within vs f x m = listing_lists.every x (f x m)

-- BEGINNINGS

heavy_empty : (weight : ℕ → ℕ) → ((a : ℕ) → 1 ≤ weight a) → (u : Positive) → total weight u ≡ 0 → u ≡ []
heavy_empty weight weighs [] e = refl
heavy_empty weight weighs (a ∷ u) e = absurd (omega (arith, weighs a, e))

pub words_in_order : (T : Presentation) → weight_check T (pairs T.size) ≡ answered tt → WordsInOrder T
words_in_order T even = record { no_beginning = alone; one_first = first }
  where
    kept : (u v : Positive) → Joined T u v → weigh T u ≡ weigh T v
    kept u v j = joined_weight T (weight_of T) (checked_homogeneous T even) u v j

    alone : (u v rest : Positive) → Joined T u v → v ≡ u ++ rest → rest ≡ []
    alone u v rest j e =
        heavy_empty (weight_of T) (λ a. omega arith) rest
        (omega (arith, kept u v j, ap (weigh T) e, total_append (weight_of T) u rest))

    by : (u v : Positive) → Joined T u v → (s t : Bool) → earlier u v ≡ s → earlier v u ≡ t → (u ≡ v) ⊎ ((earlier u v ≡ true) ⊎ (earlier v u ≡ true))
    by u v j true t p q = inr (inl p)
    by u v j false true p q = inr (inr q)
    by u v j false false p q = inl (same_weight_same (weight_of T) (λ a. omega arith) u v (kept u v j) p q)

    first : (u v : Positive) → Joined T u v → (u ≡ v) ⊎ ((earlier u v ≡ true) ⊎ (earlier v u ≡ true))
    first u v j = by u v j (earlier u v) (earlier v u) refl refl
