-- The image's frame: its count and filling are written first, and at the end the area begins with the chain's image.
use mathlib.Core.Path.{◌≡◌, refl, sym, ap, ap₂, ◌∙◌}
use mathlib.Core.List.{List, [], ◌∷◌, ◌++◌, append_assoc}
use mathlib.Core.Bool.{true}
use Prim.Native.Nat.{ℕ, zero, suc, ◌+◌, ◌-◌, ◌*◌, ◌%◌, ◌^◌, ◌≤◌, ◌<◌}
use native.Mathlib.Nat.{zero-mul, zero-div}
use native.Mathlib.Omega.{arith}
use lib.ListN.{length, take, drop, replicate, length-append, length-drop, take-append-drop}
use lib.Seq.{take_at, drop_at, drop-drop, length-take-le}
use Rattle.model.specs.Bits.{bits_of, digits, letter_width, bytes_for, pack, filling}
use Rattle.model.specs.Equivalence.{Entry}
use Rattle.model.specs.Enumeration.{concat_map}
use Rattle.model.specs.Images.{offset_width, entry_bits, letter_bits, chain_image, entry_width, entry_position, chain_count_width}
use Rattle.model.specs.Services.{chain_bytes}
use Rattle.model.specs.Areas.{begins}
use Rattle.bits.specs.Fields.{Writable, Written}
use Rattle.bits.proofs.Digits.{AreBits, length_digits, digits_are_bits, bits_append}
use Rattle.bits.proofs.Bytes.{length_bits, bits_of_append, bytes_drop}
use Rattle.model.specs.Range.{AreBytes}
use Rattle.bits.proofs.Packing.{pack_filling, bits_injective, packed_of}
use Rattle.chain_listing.specs.Layout.{Layout}
use Rattle.chain_listing.proofs.Parts.{part_within, part_whole, empty_of}
use Rattle.entries.proofs.Placing.{entry_small}
use Rattle.bits.proofs.Appending.{appended_at, appended_field}
use Rattle.chain_listing.proofs.Layouts.{length_entries, image_end}

-- AT THE START

pub fill_width : (bits : ℕ) → 8 * bytes_for bits - bits ≡ (8 - bits % 8) % 8
fill_width bits = omega arith

module _ (n total : ℕ) (before mid after : List ℕ) (room : chain_bytes n total ≤ length before) (end : ℕ) (here : end ≡ entry_position n total) where
  fill : ℕ
  fill = 8 * chain_bytes n total - entry_position n total

  rest : List ℕ
  rest = drop chain_count_width (bits_of before)

  gap : List ℕ
  gap = take (total * entry_width n) rest

  behind : List ℕ
  behind = drop (total * entry_width n) rest

  rest_length : length rest ≡ 8 * length before - chain_count_width
  unfolding rest
  rest_length = length-drop chain_count_width (bits_of before) ∙ ap (λ i. i - chain_count_width) (length_bits before)

  enough : total * entry_width n + fill ≤ length rest
  unfolding fill
  enough = sums (total * entry_width n) (8 * chain_bytes n total) (length rest) (8 * length before) (image_end n total) rest_length (omega arith)
    where
      sums : (s c r l : ℕ) → chain_count_width + s ≤ c → r ≡ l - chain_count_width → c ≤ l → s + (c - (chain_count_width + s)) ≤ r
      sums s c r l p q m = omega arith

  gap_length : length gap ≡ total * entry_width n
  unfolding gap
  gap_length = length-take-le (total * entry_width n) rest (part_within (total * entry_width n) fill (length rest) enough)

  filled : length (take fill behind) ≡ fill
  unfolding behind
  filled =
      length-take-le fill behind
      (second (total * entry_width n) fill (length rest) (length (drop (total * entry_width n) rest)) (length-drop (total * entry_width n) rest) enough)
    where
      second : (s f r b : ℕ) → b ≡ r - s → s + f ≤ r → f ≤ b
      second s f r b e h = omega arith

  last_bits : drop fill behind ≡ drop (8 * chain_bytes n total) (bits_of before)
  unfolding behind rest fill
  last_bits =
      ap (drop fill) (drop-drop (total * entry_width n) chain_count_width (bits_of before))
      ∙ (drop-drop fill (chain_count_width + total * entry_width n) (bits_of before)
      ∙ ap (λ i. drop i (bits_of before)) (part_whole (chain_count_width + total * entry_width n) (8 * chain_bytes n total) (image_end n total)))

  pub prepared : Written before 0 chain_count_width total mid → Written mid end ((8 - end % 8) % 8) 0 after → Layout n total before [] [] after
  unfolding gap behind rest fill
  prepared p q =
      let w : (8 - end % 8) % 8 ≡ fill = ap (λ i. (8 - i % 8) % 8) here ∙ sym (fill_width (entry_position n total)) in
      let split : rest ≡ gap ++ (take fill behind ++ drop fill behind) =
      sym (take-append-drop (total * entry_width n) rest) ∙ ap (λ l. gap ++ l) (sym (take-append-drop fill behind)) in
      let b : bits_of mid ≡ (digits chain_count_width total ++ gap) ++ (take fill behind ++ drop fill behind) =
      p.bits ∙ (ap (λ l. digits chain_count_width total ++ l) split ∙ sym (append_assoc (digits chain_count_width total) gap
      (take fill behind ++ drop fill behind))) in
      let l : length (digits chain_count_width total ++ gap) ≡ end =
      length-append (digits chain_count_width total) gap ∙ (ap₂ (λ i j. i + j) (length_digits chain_count_width total) gap_length ∙ sym here) in
      let f : length (take fill behind) ≡ length (digits ((8 - end % 8) % 8) 0) =
      filled ∙ (sym w ∙ sym (length_digits ((8 - end % 8) % 8) 0)) in
      record {
        same_length = q.same_length ∙ p.same_length;
        free = total;
        gap = gap;
        counted = omega arith;
        gap_length = gap_length;
        bits =
            appended_at (appended_field _ _ _ _ _ q) (digits chain_count_width total ++ gap) (take fill behind) (drop fill behind) b l f
            ∙ (append_assoc (digits chain_count_width total) gap (digits ((8 - end % 8) % 8) 0 ++ drop fill behind)
            ∙ ap₂ (λ i t. digits chain_count_width total ++ (gap ++ (digits i 0 ++ t))) w last_bits);
      }

-- AT THE END

zero_digits : (width : ℕ) → digits width 0 ≡ replicate width 0
zero_digits zero = refl
zero_digits (suc width) = ap₂ (λ d ds. d ∷ ds) (ap (λ q. q % 2) (zero-div (2 ^ width))) (zero_digits width)

entries_are_bits : (n : ℕ) (es : List Entry) → AreBits (concat_map (entry_bits n) es)
entries_are_bits n [] = tt
entries_are_bits n (e ∷ es) =
    bits_append (entry_bits n e) (concat_map (entry_bits n) es)
    (bits_append (digits offset_width e.offset) (letter_bits n e.a ++ letter_bits n e.b) (digits_are_bits offset_width e.offset)
    (bits_append (letter_bits n e.a) (letter_bits n e.b) (digits_are_bits (letter_width n) (e.a - 1)) (digits_are_bits (letter_width n) (e.b - 1))))
    (entries_are_bits n es)

bytes_take : (k : ℕ) (xs : List ℕ) → AreBytes xs → AreBytes (take k xs)
bytes_take zero xs h i = omega arith
bytes_take (suc k) [] h i = omega arith
bytes_take (suc k) (x ∷ xs) h zero = h 0
bytes_take (suc k) (x ∷ xs) h (suc i) = bytes_take k xs (λ j. h (suc j)) i

split_bits : (k : ℕ) (xs : List ℕ) → bits_of xs ≡ bits_of (take k xs) ++ bits_of (drop k xs)
split_bits k xs = ap bits_of (sym (take-append-drop k xs)) ∙ bits_of_append (take k xs) (drop k xs)

front_length : (k : ℕ) (xs : List ℕ) → k ≤ length xs → length (bits_of (take k xs)) ≡ 8 * k
front_length k xs h = length_bits (take k xs) ∙ ap (λ i. 8 * i) (length-take-le k xs h)

module _ (n total : ℕ) (area answer : List ℕ) (entries : List Entry) (h : Layout n total area entries [] answer) (all : length entries ≡ total)
    (room : chain_bytes n total ≤ length area) where
  image : List ℕ
  image = digits chain_count_width total ++ concat_map (entry_bits n) entries

  zeros : List ℕ
  zeros = digits (8 * chain_bytes n total - entry_position n total) 0

  image_length : length image ≡ entry_position n total
  unfolding image
  image_length =
      length-append (digits chain_count_width total) (concat_map (entry_bits n) entries)
      ∙ (ap₂ (λ i j. i + j) (length_digits chain_count_width total) (length_entries n entries) ∙ ap (λ k. chain_count_width + k * entry_width n) all)

  no_gap : h.gap ≡ []
  no_gap = empty_of h.gap (h.gap_length ∙ (ap (λ k. k * entry_width n) (none (length entries) h.free total all h.counted) ∙ zero-mul (entry_width n)))
    where
      none : (e f t : ℕ) → e ≡ t → e + (f + 0) ≡ t → f ≡ 0
      none e f t p q = omega arith

  all_bits : bits_of answer ≡ (image ++ zeros) ++ drop (8 * chain_bytes n total) (bits_of area)
  unfolding image zeros
  all_bits =
      h.bits
      ∙ (ap (λ g. digits chain_count_width total ++ (concat_map (entry_bits n) entries ++ (g ++ (zeros ++ drop (8 * chain_bytes n total) (bits_of area)))))
      no_gap
      ∙ (sym (append_assoc (digits chain_count_width total) (concat_map (entry_bits n) entries) (zeros ++ drop (8 * chain_bytes n total) (bits_of area)))
      ∙ sym (append_assoc image zeros (drop (8 * chain_bytes n total) (bits_of area)))))

  whole_length : length (image ++ zeros) ≡ 8 * chain_bytes n total
  unfolding zeros
  whole_length =
      length-append image zeros
      ∙ (ap₂ (λ i j. i + j) image_length (length_digits (8 * chain_bytes n total - entry_position n total) 0)
      ∙ part_whole (entry_position n total) (8 * chain_bytes n total) (image_end n total))

  fits : chain_bytes n total ≤ length answer
  fits = rw h.same_length room

  parts : bits_of (take (chain_bytes n total) answer) ++ bits_of (drop (chain_bytes n total) answer) ≡ (image ++ zeros)
      ++ drop (8 * chain_bytes n total) (bits_of area)
  parts = sym (split_bits (chain_bytes n total) answer) ∙ all_bits

  front : bits_of (take (chain_bytes n total) answer) ≡ image ++ zeros
  front =
      sym (take_at (bits_of (take (chain_bytes n total) answer)) (bits_of (drop (chain_bytes n total) answer)) (8 * chain_bytes n total)
      (front_length (chain_bytes n total) answer fits))
      ∙ (ap (take (8 * chain_bytes n total)) parts
      ∙ take_at (image ++ zeros) (drop (8 * chain_bytes n total) (bits_of area)) (8 * chain_bytes n total) whole_length)

  back : bits_of (drop (chain_bytes n total) answer) ≡ bits_of (drop (chain_bytes n total) area)
  back =
      sym (drop_at (bits_of (take (chain_bytes n total) answer)) (bits_of (drop (chain_bytes n total) answer)) (8 * chain_bytes n total)
      (front_length (chain_bytes n total) answer fits))
      ∙ (ap (drop (8 * chain_bytes n total)) parts
      ∙ (drop_at (image ++ zeros) (drop (8 * chain_bytes n total) (bits_of area)) (8 * chain_bytes n total) whole_length
      ∙ (ap (drop (8 * chain_bytes n total)) (split_bits (chain_bytes n total) area)
      ∙ drop_at (bits_of (take (chain_bytes n total) area)) (bits_of (drop (chain_bytes n total) area)) (8 * chain_bytes n total)
      (front_length (chain_bytes n total) area room))))

  zeros_fill : filling zeros ≡ true
  unfolding zeros
  zeros_fill =
      ap filling (zero_digits (8 * chain_bytes n total - entry_position n total))
      ∙ (ap (λ k. filling (replicate (8 * bytes_for k - k) 0)) (sym image_length) ∙ pack_filling image)

  image_is : pack image ≡ chain_image n entries
  unfolding image chain_image
  image_is = ap (λ k. pack (digits chain_count_width k ++ concat_map (entry_bits n) entries)) (sym all)

  first : AreBytes answer → take (chain_bytes n total) answer ≡ chain_image n entries
  unfolding image
  first ba =
      packed_of (take (chain_bytes n total) answer) image zeros (bytes_take (chain_bytes n total) answer ba)
      (bits_append (digits chain_count_width total) (concat_map (entry_bits n) entries) (digits_are_bits chain_count_width total)
      (entries_are_bits n entries)) front zeros_fill
      ∙ image_is

  pub image_long : AreBytes answer → length (chain_image n entries) ≡ chain_bytes n total
  image_long ba = sym (ap length (first ba)) ∙ length-take-le (chain_bytes n total) answer fits

  pub framed : AreBytes answer → AreBytes area → answer ≡ begins (chain_image n entries) area
  framed ba bb =
      let last : drop (chain_bytes n total) answer ≡ drop (chain_bytes n total) area =
      bits_injective (drop (chain_bytes n total) answer) (drop (chain_bytes n total) area) (bytes_drop (chain_bytes n total) answer ba)
      (bytes_drop (chain_bytes n total) area bb) back in
      sym (take-append-drop (chain_bytes n total) answer)
      ∙ (ap₂ (λ x y. x ++ y) (first ba) last ∙ ap (λ k. chain_image n entries ++ drop k area) (sym (image_long ba)))
