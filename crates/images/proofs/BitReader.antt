-- The bits that a reader of an image holds: at a position, with one byte more, and without those of a field.
use mathlib.Core.Path.{◌≡◌, refl, sym, ap, ap₂, subst, ◌∙◌}
use mathlib.Core.List.{List, ◌++◌}
use Prim.Native.Nat.{ℕ, suc, ◌+◌, ◌-◌, ◌*◌, ◌/◌, ◌%◌, ◌^◌, ◌≤◌, ◌<◌}
use native.Mathlib.Omega.{arith}
use lib.Dec.{eqb}
use lib.ListN.{length, take, drop, get_or, take-append-drop, length-drop}
use lib.Seq.{take_at, drop_at, take-append-add, length-take-le}
use native.Mathlib.Nat.{one-mul, mod-lt, mod-eq_of_lt}
use lib.Pow.{high, low, mod-pow-add, pow-lt, pow_pos}
use Rattle.model.specs.Bits.{bits_of, digits, number, filling}
use Rattle.bits.proofs.Digits.{length_digits, number_append, number_after, number_digits}
use Rattle.bits.proofs.Bytes.{bits_split, length_bits_take}
use Rattle.images.specs.Fields.{from}
use Rattle.images.specs.BitReader.{left, Holds, Reads, TakenAt}
use Rattle.images.proofs.Reading.{EachBit, length_from, from_from, from_bits, drop_bits, field_small, filling_short}

-- two adjoining fields
pub take_two : {A : Type 0} (a b : ℕ) (xs : List A) → a ≤ length xs → take (a + b) xs ≡ take a xs ++ take b (drop a xs)
take_two a b xs h =
    ap (take (a + b)) (sym (take-append-drop a xs))
    ∙ (ap (λ n. take (n + b) (take a xs ++ drop a xs)) (sym (length-take-le a xs h)) ∙ take-append-add (take a xs) (drop a xs) b)

-- the bits of a byte
pub byte_bits : (image : List ℕ) (next : ℕ) → next < length image → take 8 (from image (8 * next)) ≡ digits 8 (get_or image next 0)
byte_bits image next h =
    ap (λ bits. take 8 (drop (8 * next) bits)) (bits_split image next h)
    ∙ (ap (take 8) (drop_at (bits_of (take next image)) (digits 8 (get_or image next 0) ++ bits_of (drop (suc next) image)) (8 * next)
    (length_bits_take image next (omega arith)))
    ∙ take_at (digits 8 (get_or image next 0)) (bits_of (drop (suc next) image)) 8 (length_digits 8 (get_or image next 0)))

-- a number of binary digits by the first and the last ones
module _ (bits : List ℕ) (each : EachBit bits) (a b : ℕ) (inside : a + b ≤ length bits) where
  parts : number 0 (take (a + b) bits) ≡ number 0 (take a bits) * 2 ^ b + number 0 (take b (drop a bits))
  parts =
      let l : length (take b (drop a bits)) ≡ b = length-take-le b (drop a bits) (omega (arith, length-drop a bits)) in
      ap (number 0) (take_two a b bits (omega arith))
      ∙ (number_append 0 (take a bits) (take b (drop a bits))
      ∙ (number_after (number 0 (take a bits)) (take b (drop a bits)) ∙ ap (λ n. number 0 (take a bits) * 2 ^ n + number 0 (take b (drop a bits))) l))

  last_small : number 0 (take b (drop a bits)) < 2 ^ b
  last_small = field_small (drop a bits) (drop_bits bits each a) b (omega (arith, length-drop a bits))

  pub first_part : number 0 (take (a + b) bits) / 2 ^ b ≡ number 0 (take a bits)
  first_part = ap (λ n. n / 2 ^ b) parts ∙ high (number 0 (take a bits)) b last_small

  pub last_part : number 0 (take (a + b) bits) % 2 ^ b ≡ number 0 (take b (drop a bits))
  last_part = ap (λ n. n % 2 ^ b) parts ∙ low (number 0 (take a bits)) b last_small

-- what `1 << n` is at 32 bits
pub span : (n : ℕ) → n < 32 → (1 * 2 ^ n) % 4294967296 ≡ 2 ^ n
span n h = ap (λ m. m % 4294967296) (one-mul (2 ^ n)) ∙ mod-eq_of_lt (pow-lt {i = n} {j = 32} h)

pub span_some : (n : ℕ) → n < 32 → 0 < (1 * 2 ^ n) % 4294967296
span_some n h = omega (arith, span n h, pow_pos n)

-- the last digits of a number, without the first and without the last of them
digits_first : (a b v : ℕ) → v / 2 ^ b % 2 ^ a ≡ v % 2 ^ (a + b) / 2 ^ b
digits_first a b v = sym (ap (λ n. n / 2 ^ b) (mod-pow-add v a b) ∙ high (v / 2 ^ b % 2 ^ a) b (mod-lt v (pow_pos b)))

digits_last : (a b v : ℕ) → v % 2 ^ b ≡ v % 2 ^ (a + b) % 2 ^ b
digits_last a b v = sym (ap (λ n. n % 2 ^ b) (mod-pow-add v a b) ∙ low (v / 2 ^ b % 2 ^ a) b (mod-lt v (pow_pos b)))

-- a byte put behind the last eight digits of a number, seen from its last `held` digits
byte_behind : (held bits byte : ℕ) → held ≤ 8 → byte < 256 → (bits % 256 * 256 + byte) % 2 ^ (held + 8) ≡ bits % 2 ^ held * 256 + byte
byte_behind held bits byte few small =
    let up : 8 - held + held ≡ 8 = omega arith in
    let same : bits % 256 % 2 ^ held ≡ bits % 2 ^ held = sym (digits_last (8 - held) held bits ∙ ap (λ n. bits % 2 ^ n % 2 ^ held) up) in
    mod-pow-add (bits % 256 * 256 + byte) held 8
    ∙ (ap₂ (λ m n. m % 2 ^ held * 2 ^ 8 + n) (high (bits % 256) 8 {lo = byte} small) (low (bits % 256) 8 {lo = byte} small) ∙ ap (λ n. n * 256 + byte) same)

-- one byte more
module _ (image : List ℕ) (next held bits : ℕ) (h : Holds image next held bits) where
  pub held_more : held ≤ 8 → next < length image → get_or image next 0 < 256 → Holds image (next + 1) (held + 8) (bits % 256 * 256 + get_or image next 0)
  held_more few some byte =
      let at = 8 * next - held in
      let here : at + held ≡ 8 * next = omega (arith, h.begun) in
      let last : number 0 (take 8 (from image (at + held))) ≡ get_or image next 0 =
      ap (λ n. number 0 (take 8 (from image n))) here
      ∙ (ap (number 0) (byte_bits image next some) ∙ (number_digits 0 8 (get_or image next 0) ∙ omega arith)) in
      let whole : number 0 (take (held + 8) (from image at)) ≡ number 0 (take held (from image at)) * 2 ^ 8 + number 0 (take 8 (from image (at + held))) =
      rw (← from_from image at held) (parts (from image at) (from_bits image at) held 8 (omega (arith, h.begun, length_from image at))) in
      record {
        read = omega arith;
        begun = omega (arith, h.begun);
        value =
            byte_behind held bits (get_or image next 0) few byte
            ∙ sym (ap (λ n. number 0 (take (held + 8) (from image n))) {x = 8 * (next + 1) - (held + 8)} {y = at} (omega (arith, h.begun))
            ∙ (whole ∙ omega (arith, h.value, last)));
      }

  -- without the first `width` bits
  module _ (width : ℕ) (enough : width ≤ held) where
    all : width + (held - width) ≡ held
    all = omega arith

    inside : width + (held - width) ≤ length (left image next held)
    inside = omega (arith, h.begun, h.read, length_from image (8 * next - held))

    value : bits % 2 ^ (width + (held - width)) ≡ number 0 (take (width + (held - width)) (from image (8 * next - held)))
    value = ap (λ n. bits % 2 ^ n) all ∙ (h.value ∙ ap (λ n. number 0 (take n (from image (8 * next - held)))) (sym all))

    pub split_first : bits / 2 ^ (held - width) % 2 ^ width ≡ number 0 (take width (from image (8 * next - held)))
    split_first =
        digits_first width (held - width) bits
        ∙ (ap (λ n. n / 2 ^ (held - width)) value ∙ first_part (left image next held) (from_bits image (8 * next - held)) width (held - width) inside)

    pub split_place : 8 * next - (held - width) ≡ 8 * next - held + width
    split_place = omega (arith, h.begun)

    pub split_last : Holds image next (held - width) bits
    split_last =
        record {
          read = h.read;
          begun = omega (arith, h.begun);
          value =
              digits_last width (held - width) bits
              ∙ (ap (λ n. n % 2 ^ (held - width)) value
              ∙ (last_part (left image next held) (from_bits image (8 * next - held)) width (held - width) inside
              ∙ (ap (λ bits. number 0 (take (held - width) bits)) (from_from image (8 * next - held) width)
              ∙ ap (λ n. number 0 (take (held - width) (from image n))) (sym split_place))));
        }

    -- so a field is taken
    pub split_taken : TakenAt (left image next held) width (bits / 2 ^ (held - width) % 2 ^ width) (left image next (held - width))
    split_taken =
        record {
          inside = omega (arith, h.begun, h.read, length_from image (8 * next - held));
          bits = from_bits image (8 * next - held);
          value_is = split_first;
          after_is = ap (from image) split_place ∙ sym (from_from image (8 * next - held) width);
        }

-- at a position: nothing is held at the beginning of a byte, else the byte's other bits
pub held_none : (image : List ℕ) (next : ℕ) → next ≤ length image → Holds image next 0 0
held_none image next h = record { read = h; begun = omega arith; value = refl }

pub held_byte : (image : List ℕ) (next : ℕ) → next < length image → get_or image next 0 < 256 → Holds image (next + 1) 8 (get_or image next 0)
held_byte image next h byte = subst (Holds image (next + 1) 8) {x = 0 + get_or image next 0} (omega arith)
    (held_more image next 0 0 (held_none image next (omega arith)) (omega arith) h byte)

-- a field that reaches into the next byte
module _ (image : List ℕ) (next held bits width : ℕ) (h : Reads image next held bits) (narrow : width ≤ 8) (short : held < width)
    (some : next < length image) (byte : get_or image next 0 < 256) where
  abbrev more : ℕ
  more = bits % 256 * 256 + get_or image next 0

  wide : Holds image (next + 1) (held + 8) more
  wide = held_more image next held bits h.holds (omega (arith, h.few)) some byte

  pub more_reads : Reads image (next + 1) (held + 8 - width) (bits % 256 * 256 + get_or image next 0)
  more_reads = record { holds = split_last image (next + 1) (held + 8) more wide width (omega arith); few = omega arith }

  pub more_taken : TakenAt (left image next held) width ((bits % 256 * 256 + get_or image next 0) / 2 ^ (held + 8 - width) % 2 ^ width)
      (left image (next + 1) (held + 8 - width))
  more_taken =
      let here : 8 * (next + 1) - (held + 8) ≡ 8 * next - held = omega (arith, h.holds.begun) in
      subst (λ at. TakenAt (from image at) width (more / 2 ^ (held + 8 - width) % 2 ^ width) (left image (next + 1) (held + 8 - width))) here
      (split_taken image (next + 1) (held + 8) more wide width (omega arith))

-- fewer than eight bits follow where every byte was read
pub end_read : (image : List ℕ) (next held bits : ℕ) → Reads image next held bits → length image ≤ next
    → eqb (bits % 2 ^ held) 0 ≡ filling (left image next held)
end_read image next held bits h all =
    ap (λ n. eqb n 0)
    (h.holds.value ∙ ap (λ n. number 0 (take n (left image next held))) {x = held} {y = 8 * length image - (8 * next - held)}
    (omega (arith, h.holds.read, h.holds.begun)))
    ∙ filling_short image (8 * next - held) (omega (arith, h.holds.read)) (omega (arith, h.few, h.holds.read, h.holds.begun))
