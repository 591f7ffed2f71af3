-- Bits put at a position, one field after another, and fields read back.
use mathlib.Core.Path.{◌≡◌, sym, ap, ap₂, ◌∙◌}
use mathlib.Core.List.{List, ◌++◌, append_assoc}
use Prim.Native.Nat.{ℕ, ◌+◌, ◌-◌, ◌*◌, ◌%◌, ◌^◌, ◌≤◌, ◌<◌}
use native.Mathlib.Nat.{mod-lt, mul-le-mul}
use native.Mathlib.Omega.{arith}
use lib.ListN.{length, take, drop, length-append}
use lib.Seq.{take_at, drop_at, drop-drop}
use lib.Pow.{pow_mono, pow_pos}
use Rattle.model.specs.Range.{EntryInRange}
use Rattle.model.specs.Bits.{bits_of, digits, number, letter_width}
use Rattle.model.specs.Equivalence.{Entry}
use Rattle.model.specs.Images.{entry_bits, letter_bits, entry_width, entry_position, offset_width, most_size, size_width}
use Rattle.bits.specs.Fields.{Inside, Written, Appended}
use Rattle.bits.proofs.Appending.{appended_field, appended_as}
use Rattle.bits.proofs.Digits.{length_digits, number_of_digits, digits_joined, digits_mod}
use Rattle.bits.proofs.Fields.{field_fits}
use Rattle.bits.proofs.Width.{width_small, letter_fits}
use Rattle.entries.specs.declared.entry.ChainEntry.{ChainEntry}
use Rattle.entries.specs.Entry.{EntryInside, Same}

-- POSITIONS

product_small : (index width : ℕ) → index < 65536 → width ≤ size_width → index * (offset_width + 2 * width) ≤ 65536 * (offset_width + 2 * size_width)
product_small index width h w = mul-le-mul {n₁ = index} {m₁ = offset_width + 2 * width} {n₂ = 65536} {m₂ = offset_width + 2 * size_width} (omega arith)
    (omega arith)

pub entry_small : (n index : ℕ) → index < 65536 → entry_position n index + entry_width n ≤ 2000000
entry_small n index h = omega (arith, product_small index (letter_width n) h (width_small n), width_small n)

pub length_entry : (n : ℕ) (e : Entry) → length (entry_bits n e) ≡ entry_width n
length_entry n e =
    length-append (digits offset_width e.offset) (letter_bits n e.a ++ letter_bits n e.b)
    ∙ omega (
      arith,
      length-append (letter_bits n e.a) (letter_bits n e.b),
      length_digits (letter_width n) (e.a - 1),
      length_digits (letter_width n) (e.b - 1),
    )

-- the three fields of an entry gathered in one, as code computes it
abbrev pub gathered : (offset x y span : ℕ) → ℕ
gathered offset x y span = (offset * span + x % span) * span + y % span

module _ (width offset x y span : ℕ) (narrow : width ≤ size_width) (span_is : span ≡ 2 ^ width) where
  gathered_digits : digits (offset_width + 2 * width) (gathered offset x y span) ≡ digits offset_width offset ++ (digits width x ++ digits width y)
  gathered_digits =
      let some : 0 < 2 ^ width = pow_pos width in
      let first = offset * 2 ^ width + x % 2 ^ width in
      let wide : offset_width + 2 * width ≡ offset_width + width + width = omega arith in
      ap₂ (λ n s. digits n ((offset * s + x % s) * s + y % s)) wide span_is
      ∙ (digits_joined (offset_width + width) width first (y % 2 ^ width) (mod-lt y some)
      ∙ (ap₂ (λ l r. l ++ r) (digits_joined offset_width width offset (x % 2 ^ width) (mod-lt x some)) (digits_mod width y)
      ∙ (ap (λ l. (digits offset_width offset ++ l) ++ digits width y) (digits_mod width x) ∙ append_assoc (digits offset_width offset) (digits width x)
      (digits width y))))

module _ {n index : ℕ} {before : List ℕ} (h : EntryInside n index before) {at width : ℕ} (ea : at ≡ entry_position n index) (ew : width ≡ letter_width n) where
  pub entry_placed : (e : Entry) (span : ℕ) → span ≡ 2 ^ width → (after : List ℕ)
      → Written before at (offset_width + 2 * width) (gathered e.offset (e.a - 1) (e.b - 1) span) after
      → Appended before (entry_position n index) (entry_bits n e) after
  entry_placed e span s after w =
      appended_as ea
      (gathered_digits width e.offset (e.a - 1) (e.b - 1) span (omega (arith, width_small n)) s
      ∙ ap (λ w. digits offset_width e.offset ++ (digits w (e.a - 1) ++ digits w (e.b - 1))) ew)
      (appended_field before at (offset_width + 2 * width) (gathered e.offset (e.a - 1) (e.b - 1) span) after w)

-- FIELDS READ

regroup : (a b c d : List ℕ) → (a ++ (b ++ c)) ++ d ≡ a ++ (b ++ (c ++ d))
regroup a b c d = simp append_assoc

field_at : (bits : List ℕ) (at : ℕ) (p f r : List ℕ) (k w : ℕ) → drop at bits ≡ p ++ (f ++ r) → length p ≡ k → length f ≡ w → take w (drop (at + k) bits) ≡ f
field_at bits at p f r k w e lp lf =
    ap (take w) (sym (drop-drop k at bits) ∙ (ap (drop k) e ∙ drop_at p (f ++ r) k lp)) ∙ take_at f r w lf

module _ {n index : ℕ} {answer : List ℕ} (h : EntryInside n index answer) {at width : ℕ} (ea : at ≡ entry_position n index) (ew : width ≡ letter_width n) where
  -- a letter's field, at most `after` bits behind the entry's first, is small
  letter_small : (after value : ℕ) → after + width ≤ entry_width n → value ≡ number 0 (take width (drop (at + after) (bits_of answer))) → value < most_size
  letter_small after value l e =
      let m : 2 ^ width ≤ 2 ^ 4 = pow_mono {j = 4} (omega (arith, width_small n)) in
      let i : Inside answer (at + after) width =
      record { narrow = omega (arith, width_small n); inside = omega (arith, h.inside); small = omega (arith, entry_small n index h.low) } in
      omega (arith, field_fits answer (at + after) width i width (omega arith))

  pub first_small : (value : ℕ) → value ≡ number 0 (take width (drop (at + offset_width) (bits_of answer))) → value < most_size
  first_small value e = letter_small offset_width value (omega arith) e

  pub second_small : (value : ℕ) → value ≡ number 0 (take width (drop (at + offset_width + width) (bits_of answer))) → value < most_size
  second_small value e =
      let place : at + offset_width + width ≡ at + (offset_width + width) = omega arith in
      letter_small (offset_width + width) value (omega arith) (rw place at e)

  module _ (e : Entry) (rest : List ℕ) (fit : EntryInRange n e) (there : drop (entry_position n index) (bits_of answer) ≡ entry_bits n e ++ rest) where
    bits_there : drop at (bits_of answer) ≡ digits offset_width e.offset ++ (digits width (e.a - 1) ++ (digits width (e.b - 1) ++ rest))
    bits_there =
        ap (λ i. drop i (bits_of answer)) ea
        ∙ (there
        ∙ (regroup (digits offset_width e.offset) (digits (letter_width n) (e.a - 1)) (digits (letter_width n) (e.b - 1)) rest
        ∙ ap (λ w. digits offset_width e.offset ++ (digits w (e.a - 1) ++ (digits w (e.b - 1) ++ rest))) (sym ew)))

    pub entry_read : (s : ChainEntry) (x y : ℕ) → s.offset ≡ number 0 (take offset_width (drop at (bits_of answer)))
        → x ≡ number 0 (take width (drop (at + offset_width) (bits_of answer)))
        → y ≡ number 0 (take width (drop (at + offset_width + width) (bits_of answer))) → s.a ≡ x + 1 → s.b ≡ y + 1 → Same e s
    entry_read s x y ec ex ey xa yb =
        let la : length (digits offset_width e.offset) ≡ offset_width = length_digits offset_width e.offset in
        let lb : length (digits width (e.a - 1)) ≡ width = length_digits width (e.a - 1) in
        let lc : length (digits width (e.b - 1)) ≡ width = length_digits width (e.b - 1) in
        let lab : length (digits offset_width e.offset ++ digits width (e.a - 1)) ≡ offset_width + width =
        length-append (digits offset_width e.offset) (digits width (e.a - 1)) ∙ ap₂ (λ i j. i + j) la lb in
        let fa : e.a - 1 < 2 ^ width = rw ew (letter_fits n e.a h.few fit.a_names.low fit.a_names.high) in
        let fb : e.b - 1 < 2 ^ width = rw ew (letter_fits n e.b h.few fit.b_names.low fit.b_names.high) in
        let c : s.offset ≡ e.offset =
        ec
        ∙ (ap (number 0) (ap (take offset_width) bits_there ∙ take_at (digits offset_width e.offset) (digits width (e.a - 1) ++ (digits width
        (e.b - 1) ++ rest)) offset_width la)
        ∙ number_of_digits offset_width e.offset (omega (arith, fit.offset_small))) in
        let a : x ≡ e.a - 1 =
        ex
        ∙ (ap (number 0)
        (field_at (bits_of answer) at (digits offset_width e.offset) (digits width (e.a - 1)) (digits width (e.b - 1) ++ rest) 15 width bits_there la lb)
        ∙ number_of_digits width (e.a - 1) fa) in
        let place : at + offset_width + width ≡ at + (offset_width + width) = omega arith in
        let b : y ≡ e.b - 1 =
        ey
        ∙ (ap (λ i. number 0 (take width (drop i (bits_of answer)))) place
        ∙ (ap (number 0)
        (field_at (bits_of answer) at (digits offset_width e.offset ++ digits width (e.a - 1)) (digits width (e.b - 1)) rest (offset_width + width) width
        (bits_there ∙ sym (append_assoc (digits offset_width e.offset) (digits width (e.a - 1)) (digits width (e.b - 1) ++ rest))) lab lc)
        ∙ number_of_digits width (e.b - 1) fb)) in
        record {
          offset = c;
          a = omega (arith, xa, a, fit.a_names.low);
          b = omega (arith, yb, b, fit.b_names.low);
        }
