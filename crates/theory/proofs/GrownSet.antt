-- The set of words that the comparison of words of either sign grows (specification 6.18) is closed once it is answered: every two of its words have been
-- taken as a pair, the words of earlier pairs stay in their places, and there are never more words than places that are looked at.
-- From the definitions alone. Main name: `set_closed`.
use mathlib.Core.Path.{◌≡◌, refl, sym, ap, subst, subst₂, ◌∙◌}
use mathlib.Core.Logic.{◌⊎◌, inl, inr}
use mathlib.Core.List.Memᴰ
use mathlib.Core.List.{List, [], ◌∷◌, ◌++◌, map, append-nil, append_assoc, Memᴰ}
use mathlib.Core.Bool.{Bool, true, false, ◌||◌, cond}
use Prim.Native.Nat.{ℕ, zero, suc, ◌+◌, ◌-◌, ◌≤◌, ◌<◌}
use native.Mathlib.Omega.{arith}
use native.Mathlib.Decide.{ℕ_discrete}
use lib.Dec.{leb, ltb}
use lib.ListN.{length, get_or, length-append, length-map, get_or-append}
use borrow.Author.Tests.{leb-false, ltb-false, ltb-true}
use Rattle.model.specs.Word.{Word, Positive, positive, negative}
use Rattle.model.specs.Presentation.{Presentation}
use Rattle.model.specs.Equivalence.{equal}
use Rattle.model.specs.Reversing.{Ending, finished, open_pair, stopped, no_room, reversing, Residuals}
use Rattle.model.specs.Enumeration.{range, Two}
use Rattle.model.specs.Outcome.{answered, ◌>>=◌, unless}
use Rattle.model.specs.Range.{All, InRange, LetterInRange, TableInRange}
use Rattle.model.specs.Signed.{first_words, is_listed, places_at, most_words, set_bytes, beside, added_to, taken_pairs, grown_from, grown_set}
use Rattle.model.proofs.Impossible.{impossible}
use Rattle.model.proofs.Entries.{equal_true}
use Rattle.model.proofs.Beds.{range_length}
use Rattle.model.proofs.Endings.{reversing_finishes}
use Rattle.model.proofs.Lists.{all_default}
use Rattle.theory.specs.Signed.{ClosedSet}
use Rattle.theory.proofs.Letters.{all_append, all_first, all_have, positive_lettered, lettered_positive, negative_lettered}
use Rattle.theory.proofs.Reduction.{finished_reduces}
use Rattle.theory.proofs.Enumerated.{range_has}
use Rattle.theory.proofs.Checked.{went_on}
use Rattle.theory.proofs.Linking.{reduces_letters}

-- LISTS AND PLACES

-- a word that the look-up finds is there
listed_there : (w : Positive) (vs : List Positive) → is_listed w vs ≡ true → Memᴰ w vs
listed_there w [] e = impossible (cc)
listed_there w (v ∷ vs) e = go (equal w v) refl (listed_there w vs) e
  where
    go : (t : Bool) → equal w v ≡ t → (is_listed w vs ≡ true → Memᴰ w vs) → t || is_listed w vs ≡ true → Memᴰ w (v ∷ vs)
    go true h rest e = Memᴰ.head (equal_true w v h)
    go false h rest e = Memᴰ.tail (rest e)

-- what is in a list stands at some place of it
record StandsAt (u : Positive) (vs : List Positive) : Type 0 where
  place : ℕ
  inside : place < length vs
  there : get_or vs place [] ≡ u

member_place : (u : Positive) (vs : List Positive) → Memᴰ u vs → StandsAt u vs
member_place u [] m = absurd (Memᴰ.not-nil m)
member_place u (v ∷ vs) m = go (Memᴰ.cases_cons m) (member_place u vs)
  where
    go : (u ≡ v) ⊎ Memᴰ u vs → (Memᴰ u vs → StandsAt u vs) → StandsAt u (v ∷ vs)
    go (inl e) rest = record { place = 0; inside = omega arith; there = sym e }
    go (inr n) rest = let s = rest n in record { place = suc s.place; inside = omega (arith, s.inside); there = s.there }

-- and of what is made of each number of a range, where it holds of each of these
all_ranged : {A : Type 0} (P : A → Type 0) (f : ℕ → A) (from k : ℕ) → ((i : ℕ) → from ≤ i → i < from + k → P (f i)) → All P (map f (range from k))
all_ranged P f from zero h = tt
all_ranged P f from (suc k) h =
    (h from (omega arith) (omega arith), all_ranged P f (suc from) k (λ i low high. h i (omega arith) (omega arith)))

-- a list that has more words, at its end
record Longer (vs ws : List Positive) : Type 0 where
  more : List Positive
  whole : ws ≡ vs ++ more

-- none, or some and then some more
longer_same : (vs : List Positive) → Longer vs vs
longer_same vs = record { more = []; whole = sym (append-nil vs) }

longer_then : {us vs ws : List Positive} → Longer us vs → Longer vs ws → Longer us ws
longer_then {us} p q =
    record { more = p.more ++ q.more; whole = q.whole ∙ (ap (λ l. l ++ q.more) p.whole ∙ append_assoc us p.more q.more) }

longer_length : {vs ws : List Positive} → Longer vs ws → length vs ≤ length ws
longer_length {vs} {ws} p =
    let sum : length ws ≡ length vs + length p.more = ap length p.whole ∙ length-append vs p.more in
    omega arith

-- words keep their places,
longer_at : {vs ws : List Positive} → Longer vs ws → (i : ℕ) → i < length vs → get_or vs i [] ≡ get_or ws i []
longer_at {vs} {ws} p i h = sym (ap (λ l. get_or l i []) p.whole ∙ get_or-append vs p.more [] i h)

-- and stay in the list
longer_has : {vs ws : List Positive} → Longer vs ws → (u : Positive) → Memᴰ u vs → Memᴰ u ws
longer_has {vs} p u m = subst (Memᴰ u) (sym p.whole) (Memᴰ.append_left p.more m)

-- THE FIRST WORDS

-- as many as the letters and the empty word; with letters of the table; and each letter is there
first_length : (n : ℕ) → length (first_words n) ≡ suc n
first_length n = ap suc (length-map (range 1 n) (λ a. a ∷ []) ∙ range_length 1 n)

first_letters : (n : ℕ) → All (All (InRange n)) (first_words n)
first_letters n =
    (tt, all_ranged (All (InRange n)) (λ a. a ∷ []) 1 n (λ a low high. (record { low = low; high = omega arith }, tt)))

first_has : (n a : ℕ) → InRange n a → Memᴰ (a ∷ []) (first_words n)
first_has n a h = Memᴰ.tail (Memᴰ.map (λ a. a ∷ []) (range_has 1 n a h.low (omega (arith, h.high))))

-- ONE PAIR

module _ (T : Presentation) (inside : TableInRange T) (budget room : ℕ) where
  -- from one list to the next: the words stay in their places, all have letters of the table, and they are no more than the most
  record Grows (vs ws : List Positive) : Type 0 where
    longer : Longer vs ws
    letters : All (All (InRange T.size)) ws
    few : length ws ≤ most_words

  unchanged : (vs : List Positive) → All (All (InRange T.size)) vs → length vs ≤ most_words → Grows vs vs
  unchanged vs letters few = record { longer = longer_same vs; letters = letters; few = few }

  grows_then : {us vs ws : List Positive} → Grows us vs → Grows vs ws → Grows us ws
  grows_then p q = record { longer = longer_then p.longer q.longer; letters = q.letters; few = q.few }

  -- beside the set a reversing finishes as it does in the room that is left
  beside_finished : (vs : List Positive) (w : Word) (n d : Positive) (k r : ℕ) → beside T budget room vs w ≡ finished n d k r
      → reversing T budget (room - set_bytes vs) w ≡ finished n d k r
  beside_finished vs w n d k r h = go (ltb room (set_bytes vs)) h
    where
      go : (t : Bool) → cond t (stopped no_room) (reversing T budget (room - set_bytes vs) w) ≡ finished n d k r
          → reversing T budget (room - set_bytes vs) w ≡ finished n d k r
      go true e = impossible (cc)
      go false e = e

  -- its numerator has letters of the table where the two words have
  numerator_letters : (room : ℕ) (u v n d : Positive) (k r : ℕ) → All (InRange T.size) u → All (InRange T.size) v
      → reversing T budget room (negative u ++ positive v) ≡ finished n d k r → All (InRange T.size) n
  numerator_letters room u v n d k r p q e =
      lettered_positive T.size n
      (all_first (LetterInRange T.size) (positive n) (negative d)
      (reduces_letters T inside
      (all_append (LetterInRange T.size) (negative u) (positive v) (negative_lettered T.size u p) (positive_lettered T.size v q))
      (finished_reduces T budget room (negative u ++ positive v) n d k r e)))

  module _ (vs : List Positive) (letters : All (All (InRange T.size)) vs) (few : length vs ≤ most_words) where
    -- a word that is listed stays, and another one comes to the end
    put : (n : Positive) → All (InRange T.size) n → {ws : List Positive}
        → cond (is_listed n vs) (answered vs) (unless (leb most_words (length vs)) 22 (vs ++ (n ∷ []))) ≡ answered ws → Grows vs ws × Memᴰ n ws
    put n in-n {ws} h = go (is_listed n vs) refl (leb most_words (length vs)) refl h
      where
        go : (t : Bool) → is_listed n vs ≡ t → (s : Bool) → leb most_words (length vs) ≡ s
            → cond t (answered vs) (unless s 22 (vs ++ (n ∷ []))) ≡ answered ws → Grows vs ws × Memᴰ n ws
        go true l s m e =
            let same : vs ≡ ws = cc in
            subst (λ l. Grows vs l × Memᴰ n l) same (unchanged vs letters few, listed_there n vs l)
        go false l true m e = impossible (cc)
        go false l false m e =
            let same : vs ++ (n ∷ []) ≡ ws = cc in
            let space = leb-false most_words (length vs) m in
            let sum = length-append vs (n ∷ []) in
            subst (λ l. Grows vs l × Memᴰ n l) same (
              record {
                longer = record { more = n ∷ []; whole = refl };
                letters = all_append (All (InRange T.size)) vs (n ∷ []) letters (in-n, tt);
                few = omega (arith, space, sum);
              },
              Memᴰ.append_right vs (Memᴰ.head refl),
            )

    -- one pair of words: u\v is in the list that is answered
    added : (u v : Positive) → All (InRange T.size) u → All (InRange T.size) v → (ws : List Positive)
        → added_to vs (beside T budget room vs (negative u ++ positive v)) ≡ answered ws
        → Grows vs ws × ((r : Positive) × Memᴰ r ws × (d : Positive) × Residuals T u v r d)
    added u v p q ws h = go (beside T budget room vs (negative u ++ positive v)) refl h
      where
        go : (end : Ending) → beside T budget room vs (negative u ++ positive v) ≡ end → added_to vs end ≡ answered ws
            → Grows vs ws × ((r : Positive) × Memᴰ r ws × (d : Positive) × Residuals T u v r d)
        go (finished n d k r) b e =
            let done = beside_finished vs (negative u ++ positive v) n d k r b in
            let next = put n (numerator_letters (room - set_bytes vs) u v n d k r p q done) e in
            (next.0, (n, next.1, d, (k, (reversing_finishes T budget (room - set_bytes vs) (negative u ++ positive v) n d k r done).run)))
        go (open_pair a b k) _ e = impossible (cc)
        go (stopped s) b e = impossible (cc)

  -- ALL PAIRS

  -- u\v of the words at two places is in the list
  abbrev Taken : List Positive → ℕ → ℕ → Type 0
  Taken vs i j = (r : Positive) × Memᴰ r vs × (d : Positive) × Residuals T (get_or vs i []) (get_or vs j []) r d

  -- two places of the list
  abbrev Places : List Positive → Two → Type 0
  Places vs p = (p.a < length vs) × (p.b < length vs)

  -- what was found of two places stays so
  residual_longer : {vs ws : List Positive} → Longer vs ws → (i j : ℕ) → Places vs (record { a = i; b = j }) → (r d : Positive)
      → Residuals T (get_or vs i []) (get_or vs j []) r d → Residuals T (get_or ws i []) (get_or ws j []) r d
  residual_longer p i j h r d t = subst₂ (λ u v. Residuals T u v r d) (longer_at p i h.0) (longer_at p j h.1) t

  taken_longer : {vs ws : List Positive} → Longer vs ws → (i j : ℕ) → i < length vs → j < length vs → Taken vs i j → Taken ws i j
  taken_longer p i j h k t = (t.0, longer_has p t.0 t.1, t.2, residual_longer p i j (h, k) t.0 t.2 t.3)

  places_longer : {vs ws : List Positive} → Longer vs ws → (ps : List Two) → All (Places vs) ps → All (Places ws) ps
  places_longer l [] h = tt
  places_longer l (p ∷ ps) h =
      let longer = longer_length l in
      ((omega (arith, h.0.0), omega (arith, h.0.1)), places_longer l ps h.1)

  -- one pair of places after another
  taken_all : (ps : List Two) (vs ws : List Positive) → All (All (InRange T.size)) vs → length vs ≤ most_words → All (Places vs) ps
      → taken_pairs T budget room ps vs ≡ answered ws → Grows vs ws × All (λ p. Taken ws p.a p.b) ps
  taken_all [] vs ws letters few h e =
      let same : vs ≡ ws = cc in
      (subst (Grows vs) same (unchanged vs letters few), tt)
  taken_all (p ∷ ps) vs ws letters few h e =
      let ending = beside T budget room vs (negative (get_or vs p.a []) ++ positive (get_or vs p.b [])) in
      let first = went_on (added_to vs ending) (taken_pairs T budget room ps) e in
      let one = added vs letters few (get_or vs p.a []) (get_or vs p.b []) (all_default (All (InRange T.size)) [] tt vs letters p.a)
      (all_default (All (InRange T.size)) [] tt vs letters p.b) first.0 first.1 in
      let rest = taken_all ps first.0 ws one.0.letters one.0.few (places_longer one.0.longer ps h.1) first.2 in
      let all = grows_then one.0 rest.0 in
      let found = one.1 in
      let here : Taken ws p.a p.b = (
        found.0,
        longer_has rest.0.longer found.0 found.1,
        found.2,
        residual_longer all.longer p.a p.b h.0 found.0 found.2 found.3,
      ) in
      (all, (here, rest.1))

  -- all words at places below m have been taken with each other
  abbrev TakenBelow : List Positive → ℕ → Type 0
  TakenBelow vs m = (i j : ℕ) → i < m → j < m → Taken vs i j

  -- the pairs of the place m are places of the list, if m is; each place up to m is in one with m, before it and after it
  places_at_lem : (vs : List Positive) (m : ℕ) → m < length vs → All (Places vs) (places_at m)
  places_at_lem vs m h =
      all_append (Places vs) (map (λ i. record { a = i; b = m }) (range 0 m)) (map (λ j. record { a = m; b = j }) (range 0 (suc m)))
      (all_ranged (Places vs) (λ i. record { a = i; b = m }) 0 m (λ i low high. (omega arith, h)))
      (all_ranged (Places vs) (λ j. record { a = m; b = j }) 0 (suc m) (λ j low high. (h, omega arith)))

  earlier_place : (m i : ℕ) → i < m → Memᴰ (record { a = i; b = m }) (places_at m)
  earlier_place m i h =
      Memᴰ.append_left (map (λ j. record { a = m; b = j }) (range 0 (suc m)))
      (Memᴰ.map (λ i. record { a = i; b = m }) (range_has 0 m i (omega arith) (omega arith)))

  later_place : (m j : ℕ) → j ≤ m → Memᴰ (record { a = m; b = j }) (places_at m)
  later_place m j h =
      Memᴰ.append_right (map (λ i. record { a = i; b = m }) (range 0 m))
      (Memᴰ.map (λ j. record { a = m; b = j }) (range_has 0 (suc m) j (omega arith) (omega arith)))

  -- so after these pairs one place more is taken
  taken_next : (vs ws : List Positive) (m : ℕ) → m < length vs → Longer vs ws → TakenBelow vs m → All (λ p. Taken ws p.a p.b) (places_at m)
      → TakenBelow ws (suc m)
  taken_next vs ws m h l before at i j p q = go (ℕ_discrete i m) (ℕ_discrete j m)
    where
      among : (p : Two) → Memᴰ p (places_at m) → Taken ws p.a p.b
      among p = all_have (λ p. Taken ws p.a p.b) at

      go : Dec (i ≡ m) → Dec (j ≡ m) → Taken ws i j
      go (yes e) _ = subst (λ k. Taken ws k j) (sym e) (among (record { a = m; b = j }) (later_place m j (omega arith)))
      go (no e) (yes f) = subst (λ k. Taken ws i k) (sym f) (among (record { a = i; b = m }) (earlier_place m i (omega arith)))
      go (no e) (no f) = taken_longer l i j (omega arith) (omega arith) (before i j (omega arith) (omega arith))

  -- THE SET

  -- from the place m on, with as many rounds as there may be places from there
  grown_closed : (rounds m : ℕ) (vs ws : List Positive) → most_words ≤ m + rounds → m ≤ length vs → All (All (InRange T.size)) vs → length vs ≤ most_words
      → TakenBelow vs m → grown_from T budget room rounds m vs ≡ answered ws → Grows vs ws × TakenBelow ws (length ws)
  unfolding grown_from
  grown_closed zero m vs ws enough low letters few before e =
      let same : vs ≡ ws = cc in
      subst (λ l. Grows vs l × TakenBelow l (length l)) same
      (unchanged vs letters few, λ i j p q. before i j (omega arith) (omega arith))
  grown_closed (suc rounds) m vs ws enough low letters few before e =
      go (ltb m (length vs)) refl (λ us. grown_closed rounds (suc m) us ws (omega arith)) e
    where
      go : (t : Bool) → ltb m (length vs) ≡ t
          → ((us : List Positive) → suc m ≤ length us → All (All (InRange T.size)) us → length us ≤ most_words → TakenBelow us (suc m)
          → grown_from T budget room rounds (suc m) us ≡ answered ws → Grows us ws × TakenBelow ws (length ws))
          → cond t (taken_pairs T budget room (places_at m) vs >>= grown_from T budget room rounds (suc m)) (answered vs) ≡ answered ws
          → Grows vs ws × TakenBelow ws (length ws)
      go true l further e =
          let below = ltb-true m (length vs) l in
          let next = went_on (taken_pairs T budget room (places_at m) vs) (grown_from T budget room rounds (suc m)) e in
          let taken = taken_all (places_at m) vs next.0 letters few (places_at_lem vs m below) next.1 in
          let longer = longer_length taken.0.longer in
          let rest = further next.0 (omega (arith, below, longer)) taken.0.letters taken.0.few
          (taken_next vs next.0 m below taken.0.longer before taken.1) next.2 in
          (grows_then taken.0 rest.0, rest.1)
      go false l further e =
          let above = ltb-false m (length vs) l in
          let same : vs ≡ ws = cc in
          subst (λ l. Grows vs l × TakenBelow l (length l)) same
          (unchanged vs letters few, λ i j p q. before i j (omega arith) (omega arith))

  -- what is answered has all pairs of its places
  pub set_closed : (S : List Positive) → grown_set T budget room ≡ answered S → ClosedSet T S
  unfolding grown_set
  set_closed S e =
      let some = first_length T.size in
      let few = inside.few in
      let grown = grown_closed most_words 0 (first_words T.size) S (omega arith) (omega arith) (first_letters T.size) (omega arith)
      (λ i j p q. absurd (omega arith)) e in
      record {
        has_empty = longer_has grown.0.longer [] (Memᴰ.head refl);
        has_letters = λ a h. longer_has grown.0.longer (a ∷ []) (first_has T.size a h);
        in_letters = λ u m. all_have (All (InRange T.size)) grown.0.letters m;
        has_complements = λ u v m n.
            let p = member_place u S m in
            let q = member_place v S n in
            let t = grown.1 p.place q.place p.inside q.inside in
            (t.0, t.1, t.2, subst₂ (λ x y. Residuals T x y t.0 t.2) p.there q.there t.3);
      }
