-- Runs of bytes that end no word, and a word at its place, which is found by any of its bytes.
use Rattle.std.proofs.Common.{◌≡◌, sym, ap, subst, ◌∙◌, List, reverse, Bool, true, false, not, ℕ, ◌+◌, ◌-◌, ◌%◌, ◌≤◌, ◌<◌, arith, length, take, drop, get_or}
use Rattle.std.proofs.lemmas.List.{get_or-take, get_or-drop, get_or-reverse}
use native.Mathlib.Decide.{dec_le, dec_lt}
use borrow.Author.Tests.{ne_eqb}
use lib.ListN.{length-drop, length-reverse}
use lib.Seq.{length-take-le}
use Rattle.std.specs.List.{prefix_len}
use Rattle.std.proofs.lemmas.List.Folds.{length-prefix_len}
use Rattle.std.proofs.lemmas.List.Sums.{prefix_len-le-length, fails_before_first, passes_at_first}
use Rattle.model.specs.Word.{Positive}
use Rattle.model.specs.Range.{InRange}
use Rattle.model.proofs.Impossible.{impossible}
use Rattle.model.specs.Images.{most_size}
use Rattle.spans.specs.Ends.{marked, is_ending, Inside, HasEnd, EndFound, StartFound}

-- a letter's byte ends nothing
pub letter_ends_none : (n a : ℕ) → n ≤ most_size → InRange n a → is_ending a ≡ false
letter_ends_none n a few r = ne_eqb (a % marked) 0 (omega (arith, r.low, r.high))

-- LETTERS COUNTED UP TO A BYTE THAT ENDS A WORD

abbrev pub is_letter : ℕ → Bool
is_letter x = not (is_ending x)

-- the letters that a list begins with
abbrev pub letters_first : List ℕ → List ℕ
letters_first l = take (prefix_len is_letter l) l

module _ (l : List ℕ) (r : ℕ) (e : r ≡ length (letters_first l)) where
  counted : r ≡ prefix_len is_letter l
  counted = e ∙ length-prefix_len is_letter l

  counted_few : r ≤ length l
  counted_few = omega (arith, counted, prefix_len-le-length is_letter l)

  counted_letter : (k : ℕ) → k < r → is_ending (get_or l k 0) ≡ false
  counted_letter k h = fails_before_first is_ending l k 0 (omega (arith, counted))

  counted_ends : r < length l → is_ending (get_or l r 0) ≡ true
  counted_ends h = ap (λ k. is_ending (get_or l k 0)) counted ∙ passes_at_first is_ending l 0 (omega (arith, counted))

-- from a place on
module _ (area : List ℕ) (at r : ℕ) (e : r ≡ length (letters_first (drop at area))) (some : HasEnd area at) where
  end_letters : Inside area at (at + r)
  end_letters i l h =
      let there : at + (i - at) ≡ i = omega arith in
      subst (λ j. is_ending (get_or area j 0) ≡ false) there
      (sym (ap is_ending (get_or-drop at area (i - at) 0)) ∙ counted_letter (drop at area) r e (i - at) (omega arith))

  end_inside : at + r < length area
  end_inside = go (dec_lt r (length (drop at area)))
    where
      go : Dec (r < length (drop at area)) → at + r < length area
      go (yes h) = omega (arith, length-drop at area)
      go (no h) =
          let letter = end_letters some.end some.after (omega (arith, length-drop at area, some.inside)) in
          let ends = some.ends in
          impossible (cc)

  pub end_counted : EndFound area at (at + r)
  end_counted = record {
    after = omega arith;
    inside = end_inside;
    letters = end_letters;
    ends = sym (ap is_ending (get_or-drop at area r 0)) ∙ counted_ends (drop at area) r e (omega (arith, end_inside, length-drop at area));
  }

-- from a place backward
module _ (area : List ℕ) (low at r : ℕ) (e : r ≡ length (letters_first (reverse (take (at - low) (drop low area))))) (order : low ≤ at)
    (inside : at ≤ length area) where
  abbrev part : List ℕ
  part = take (at - low) (drop low area)

  part_length : length part ≡ at - low
  part_length = length-take-le (at - low) (drop low area) (omega (arith, length-drop low area))

  abbrev back : List ℕ
  back = reverse part

  back_length : length back ≡ at - low
  back_length = length-reverse part ∙ part_length

  back_at : (i : ℕ) → low ≤ i → i < at → get_or back (at - 1 - i) 0 ≡ get_or area i 0
  back_at i l h =
      let there : length part - 1 - (at - 1 - i) ≡ i - low = omega (arith, part_length) in
      let all : low + (i - low) ≡ i = omega arith in
      get_or-reverse part (at - 1 - i) 0 (omega (arith, part_length))
      ∙ (ap (λ k. get_or part k 0) there
      ∙ (get_or-take (at - low) (drop low area) (i - low) 0 (omega arith) ∙ (get_or-drop low area (i - low) 0 ∙ ap (λ k. get_or area k 0) all)))

  pub start_counted : StartFound area low at (at - r)
  start_counted = record {
    after = omega (arith, counted_few back r e, back_length);
    before = omega arith;
    letters = λ i l h.
        sym (ap is_ending (back_at i (omega (arith, counted_few back r e, back_length)) h)) ∙ counted_letter back r e (at - 1 - i) (omega arith);
    begins = λ h.
        let there : at - 1 - (at - r - 1) ≡ r = omega arith in
        sym (ap is_ending (back_at (at - r - 1) (omega arith) (omega arith)))
        ∙ (ap (λ k. is_ending (get_or back k 0)) there ∙ counted_ends back r e (omega (arith, back_length)));
  }

-- A WORD AT ITS PLACE

pub record WordAt (area : List ℕ) (start : ℕ) (w : Positive) : Type 0 where
  pub inside : start + length w < length area
  pub letters : (i : ℕ) → i < length w → get_or area (start + i) 0 ≡ get_or w i 0
  pub plain : (i : ℕ) → i < length w → is_ending (get_or w i 0) ≡ false
  pub ends : is_ending (get_or area (start + length w) 0) ≡ true

module _ (area : List ℕ) (start : ℕ) (w : Positive) (h : WordAt area start w) where
  -- a byte in the word ends nothing
  inner : (j : ℕ) → start ≤ j → j < start + length w → is_ending (get_or area j 0) ≡ false
  inner j low high =
      let at : j ≡ start + (j - start) = omega arith in
      ap (λ i. is_ending (get_or area i 0)) at ∙ (ap is_ending (h.letters (j - start) (omega arith)) ∙ h.plain (j - start) (omega arith))

  -- .. and it begins behind a byte that ends another, or at the area's start
  pub start_is : (0 < start → is_ending (get_or area (start - 1) 0) ≡ true) → (low at r : ℕ) → low ≤ start → start ≤ at → at ≤ start + length w
      → StartFound area low at r → r ≡ start
  start_is begins low at r l p q f = go (dec_le r start) (dec_le start r)
    where
      go : Dec (r ≤ start) → Dec (start ≤ r) → r ≡ start
      go (yes a) (yes b) = omega arith
      go (no a) _ =
          let before = f.before in
          let ending : is_ending (get_or area (r - 1) 0) ≡ true = f.begins (omega arith) in
          let letter : is_ending (get_or area (r - 1) 0) ≡ false = inner (r - 1) (omega arith) (omega arith) in
          impossible (cc)
      go (yes a) (no b) =
          let after = f.after in
          let ending : is_ending (get_or area (start - 1) 0) ≡ true = begins (omega arith) in
          let letter : is_ending (get_or area (start - 1) 0) ≡ false = f.letters (start - 1) (omega arith) (omega arith) in
          impossible (cc)

  pub has_end : (at : ℕ) → at ≤ start + length w → HasEnd area at
  has_end at q = record { end = start + length w; after = q; inside = h.inside; ends = h.ends }

  pub end_is : (at r : ℕ) → start ≤ at → at ≤ start + length w → EndFound area at r → r ≡ start + length w
  end_is at r p q f = go (dec_le (start + length w) r) (dec_le r (start + length w))
    where
      go : Dec (start + length w ≤ r) → Dec (r ≤ start + length w) → r ≡ start + length w
      go (yes a) (yes b) = omega arith
      go (no a) _ =
          let after = f.after in
          let ending : is_ending (get_or area r 0) ≡ true = f.ends in
          let letter : is_ending (get_or area r 0) ≡ false = inner r (omega arith) (omega arith) in
          impossible (cc)
      go (yes a) (no b) =
          let ending : is_ending (get_or area (start + length w) 0) ≡ true = h.ends in
          let letter : is_ending (get_or area (start + length w) 0) ≡ false = f.letters (start + length w) q (omega arith) in
          impossible (cc)
