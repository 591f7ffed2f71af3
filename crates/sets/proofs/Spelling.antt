-- Words one after the other, a zero byte after each: where each begins and ends.
use mathlib.Core.Path.{◌≡◌, refl, sym, ap, ◌∙◌}
use mathlib.Core.List.{List, [], ◌∷◌, ◌++◌, append_assoc}
use Prim.Native.Nat.{ℕ, zero, suc, ◌+◌, ◌-◌, ◌≤◌, ◌<◌}
use native.Mathlib.Omega.{arith}
use native.Mathlib.Decide.{dec_lt}
use lib.ListN.{length, take, drop, get_or, length-append, get_or-append, take-append-drop}
use lib.Seq.{drop_at, take_at, take-length, take-suc, take-append-le, split_at, get_or-drop, get_or-append_seam, length-take-le}
use Rattle.model.specs.Word.{Positive, positive}
use Rattle.model.specs.Range.{InRange, Lettered}
use Rattle.model.specs.Ways.{listing_bytes}
use Rattle.model.specs.Signed.{set_bytes}
use Rattle.model.proofs.Lists.{all_at}
use Rattle.sets.specs.declared.words.Span.{Span}
use Rattle.spans.specs.Ends.{is_ending, HasEnd, EndFound}
use Rattle.spans.proofs.Runs.{letter_ends_none, WordAt, has_end, end_is}
use Rattle.sets.specs.Listed.{Lists, Placed}

-- BYTES OF WORDS

pub listing_both : (xs ys : List Positive) → listing_bytes (xs ++ ys) ≡ listing_bytes xs ++ listing_bytes ys
listing_both [] ys = refl
listing_both (x ∷ xs) ys = ap (λ l. (x ++ (0 ∷ [])) ++ l) (listing_both xs ys) ∙ sym (append_assoc (x ++ (0 ∷ [])) (listing_bytes xs) (listing_bytes ys))

bytes_more : (w : Positive) (vs : List Positive) → set_bytes (w ∷ vs) ≡ length w + 1 + set_bytes vs
bytes_more w vs = length-append (w ++ (0 ∷ [])) (listing_bytes vs) ∙ ap (λ k. k + set_bytes vs) (length-append w (0 ∷ []))

bytes_both : (xs ys : List Positive) → set_bytes (xs ++ ys) ≡ set_bytes xs + set_bytes ys
bytes_both xs ys = ap length (listing_both xs ys) ∙ length-append (listing_bytes xs) (listing_bytes ys)

-- one word more at the end
pub bytes_after : (vs : List Positive) (w : Positive) → set_bytes (vs ++ (w ∷ [])) ≡ set_bytes vs + (length w + 1)
bytes_after vs w = bytes_both vs (w ∷ []) ∙ (ap (λ k. set_bytes vs + k) (bytes_more w []) ∙ omega arith)

-- WHERE A PLACE BEGINS

places_up : (vs : List Positive) (i j : ℕ) → i ≤ j → set_bytes (take i vs) ≤ set_bytes (take j vs)
places_up vs zero j h = omega arith
places_up [] (suc i) zero h = absurd (omega arith)
places_up [] (suc i) (suc j) h = omega arith
places_up (v ∷ vs) (suc i) zero h = absurd (omega arith)
places_up (v ∷ vs) (suc i) (suc j) h =
    let r : set_bytes (take i vs) ≤ set_bytes (take j vs) = places_up vs i j (omega arith) in
    omega (arith, bytes_more v (take i vs), bytes_more v (take j vs), r)

-- the bytes before a place, and those before the next
place_next : (vs : List Positive) (i : ℕ) → i < length vs → set_bytes (take (suc i) vs) ≡ set_bytes (take i vs) + (length (get_or vs i []) + 1)
place_next vs i h = ap set_bytes (take-suc vs i [] h) ∙ bytes_after (take i vs) (get_or vs i [])

-- places are in the order of their bytes
pub place_below : (vs : List Positive) (i j : ℕ) → set_bytes (take i vs) < set_bytes (take j vs) → i < j
place_below vs i j h = go (dec_lt i j)
  where
    go : Dec (i < j) → i < j
    go (yes p) = p
    go (no p) = let r = places_up vs j i (omega arith) in absurd (omega arith)

pub place_above : (vs : List Positive) (i j : ℕ) → i < length vs → set_bytes (take j vs) ≤ set_bytes (take i vs) → j ≤ i
place_above vs i j l h = go (dec_lt i j)
  where
    go : Dec (i < j) → j ≤ i
    go (yes p) = let r = places_up vs (suc i) j (omega arith) in absurd (omega (arith, place_next vs i l, r))
    go (no p) = omega arith

-- A WORD AT ITS PLACE

letter_named : (n : ℕ) (w : Positive) (k : ℕ) → Lettered n (positive w) → k < length w → InRange n (get_or w k 0)
letter_named n [] k p h = absurd (omega arith)
letter_named n (a ∷ w) zero p h = p.0
letter_named n (a ∷ w) (suc k) p h = letter_named n w k p.1 (omega arith)

module _ (n : ℕ) (area : List ℕ) (used : ℕ) (vs : List Positive) (s : Lists n area used vs) where
  pub used_is : used ≡ set_bytes vs
  used_is = sym (length-take-le used area s.inside) ∙ ap length s.bytes

  -- every byte, with those before and after a word
  module _ (i : ℕ) (h : i < length vs) where
    abbrev word : Positive
    word = get_or vs i []

    abbrev start : ℕ
    start = set_bytes (take i vs)

    abbrev rest : List ℕ
    rest = listing_bytes (drop (suc i) vs) ++ drop used area

    from_start : drop start area ≡ word ++ (0 ∷ rest)
    from_start =
        let front : List ℕ = listing_bytes (take i vs) in
        let behind : List ℕ = listing_bytes (drop (suc i) vs) in
        let parts : listing_bytes vs ≡ front ++ ((word ++ (0 ∷ [])) ++ behind) =
        ap listing_bytes (split_at vs i [] h) ∙ listing_both (take i vs) (word ∷ drop (suc i) vs) in
        let whole : area ≡ front ++ (((word ++ (0 ∷ [])) ++ behind) ++ drop used area) =
        sym (take-append-drop used area)
        ∙ (ap (λ l. l ++ drop used area) (s.bytes ∙ parts) ∙ append_assoc front ((word ++ (0 ∷ [])) ++ behind) (drop used area)) in
        ap (drop start) whole
        ∙ (drop_at front (((word ++ (0 ∷ [])) ++ behind) ++ drop used area) start refl
        ∙ (append_assoc (word ++ (0 ∷ [])) behind (drop used area) ∙ append_assoc word (0 ∷ []) rest))

    pub word_named : Lettered n (positive word)
    word_named = all_at (λ w. Lettered n (positive w)) vs i [] s.named h

    pub word_part : take (length word) (drop start area) ≡ word
    word_part = ap (take (length word)) from_start ∙ take_at word (0 ∷ rest) (length word) refl

    word_ends : get_or area (start + length word) 0 ≡ 0
    word_ends =
        sym (get_or-drop start area (length word) 0) ∙ (ap (λ l. get_or l (length word) 0) from_start ∙ get_or-append_seam word 0 rest 0)

    pub word_inside : start + (length word + 1) ≤ used
    word_inside =
        let r : set_bytes (take (suc i) vs) ≤ set_bytes (take (length vs) vs) = places_up vs (suc i) (length vs) (omega arith) in
        let all : set_bytes (take (length vs) vs) ≡ set_bytes vs = ap set_bytes (take-length vs) in
        omega (arith, r, all, used_is, place_next vs i h)

    word_at : WordAt area start word
    word_at =
        record {
          inside = omega (arith, word_inside, s.inside);
          letters = λ k l. sym (get_or-drop start area k 0) ∙ (ap (λ l. get_or l k 0) from_start ∙ get_or-append word (0 ∷ rest) 0 k l);
          plain = λ k l. letter_ends_none n (get_or word k 0) s.few (letter_named n word k word_named l);
          ends = ap is_ending word_ends;
        }

    -- the word's end is the first byte that ends one
    module _ (at : ℕ) (e : at ≡ start) where
      pub word_has_end : HasEnd area at
      word_has_end = has_end area start word word_at at (omega arith)

      pub word_end_is : (r : ℕ) → EndFound area at r → r ≡ start + length word
      word_end_is r f = end_is area start word word_at at r (omega arith) (omega arith) f

      pub word_placed : (r : ℕ) → EndFound area at r → Placed vs i (record { at = at; letters = r - at })
      word_placed r f = record { inside = h; at_is = e; letters_is = omega (arith, word_end_is r f, e) }

      -- and the next place begins behind it
      pub next_start : (r : ℕ) → EndFound area at r → r + 1 ≡ set_bytes (take (suc i) vs)
      next_start r f = omega (arith, word_end_is r f, place_next vs i h)

-- MORE WORDS

module _ (vs xs : List Positive) (i : ℕ) where
  pub start_more : i ≤ length vs → set_bytes (take i (vs ++ xs)) ≡ set_bytes (take i vs)
  start_more h = ap set_bytes (take-append-le i vs xs h)

  pub placed_more : (s : Span) → Placed vs i s → Placed (vs ++ xs) i s
  placed_more s p =
      record {
        inside = omega (arith, p.inside, length-append vs xs);
        at_is = p.at_is ∙ sym (start_more (omega (arith, p.inside)));
        letters_is = p.letters_is ∙ ap length (sym (get_or-append vs xs [] i p.inside));
      }
