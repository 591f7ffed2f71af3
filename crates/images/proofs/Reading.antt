-- The next field and the end of an image, from what was read of its bits. Each gives the answer or the refusal of the model.
use mathlib.Core.Path.{◌≡◌, refl, sym, ap, subst, ◌∙◌}
use mathlib.Core.List.{List, [], ◌∷◌}
use mathlib.Core.Bool.{false, ◌&&◌}
use Prim.Native.Nat.{ℕ, zero, suc, ◌+◌, ◌-◌, ◌*◌, ◌^◌, ◌≤◌, ◌<◌}
use native.Mathlib.Omega.{arith}
use borrow.Author.Tests.{lt-ltb, le-ltb, ne_eqb}
use lib.Dec.{eqb}
use lib.ListN.{length, take, drop, get_or, length-drop}
use lib.Seq.{drop-drop, take_all, length-take-le}
use lib.Pow.{pow_pos}
use Rattle.model.specs.Outcome.{unplaced, answered, refused, unless}
use Rattle.model.specs.Bits.{bits_of, number, field, filling, all_zero}
use Rattle.bits.proofs.Digits.{AreBits, number_after, number_bound}
use Rattle.bits.proofs.Bytes.{length_bits, bits_are_bits}
use Rattle.bits.proofs.Fields.{bits_take, bits_drop}
use Rattle.images.specs.Fields.{FieldAt, from}

pub length_from : (image : List ℕ) (at : ℕ) → length (from image at) ≡ 8 * length image - at
length_from image at = length-drop at (bits_of image) ∙ ap (λ n. n - at) (length_bits image)

pub from_from : (image : List ℕ) (at more : ℕ) → drop more (from image at) ≡ from image (at + more)
from_from image at more = drop-drop more at (bits_of image)

-- each of the bits is 0 or 1
abbrev pub EachBit : List ℕ → Type 0
EachBit bits = (i : ℕ) → get_or bits i 0 < 2

each_bit : (bits : List ℕ) → AreBits bits → EachBit bits
each_bit [] h i = omega arith
each_bit (b ∷ bits) h zero = h.0
each_bit (b ∷ bits) h (suc i) = each_bit bits h.1 i

are_bits : (bits : List ℕ) → EachBit bits → AreBits bits
are_bits [] h = tt
are_bits (b ∷ bits) h = (h 0, are_bits bits (λ i. h (suc i)))

pub from_bits : (image : List ℕ) (at : ℕ) → EachBit (from image at)
from_bits image at = each_bit (from image at) (bits_drop at (bits_of image) (bits_are_bits image))

pub drop_bits : (bits : List ℕ) → EachBit bits → (n : ℕ) → EachBit (drop n bits)
drop_bits bits each n = each_bit (drop n bits) (bits_drop n bits (are_bits bits each))

-- a field of so many bits is a number of so many binary digits
pub field_small : (bits : List ℕ) → EachBit bits → (width : ℕ) → width ≤ length bits → number 0 (take width bits) < 2 ^ width
field_small bits each width inside =
    subst (λ n. number 0 (take width bits) < 2 ^ n) (length-take-le width bits inside)
    (number_bound (take width bits) (bits_take width bits (are_bits bits each)))

module _ (image : List ℕ) (at width : ℕ) where
  pub field_answered : at + width ≤ 8 * length image → (v : ℕ) → v ≡ number 0 (take width (from image at)) → FieldAt image at width v
  unfolding field
  field_answered inside v e =
      record {
        inside = inside;
        small = omega (arith, field_small (from image at) (from_bits image at) width (omega (arith, length_from image at)));
        read = λ early.
            ap (λ t. unless t early (record { value = number 0 (take width (from image at)); rest = drop width (from image at) }))
            (le-ltb (length (from image at)) width (omega (arith, length_from image at)))
            ∙ (ap (λ x. answered (record { value = x; rest = drop width (from image at) })) (sym e)
            ∙ ap (λ r. answered (record { value = v; rest = r })) (from_from image at width));
      }

  pub field_ends : at ≤ 8 * length image → 8 * length image < at + width → (early : ℕ) → field early width (from image at) ≡ refused early unplaced
  unfolding field
  field_ends inside short early =
      ap (λ t. unless t early (record { value = number 0 (take width (from image at)); rest = drop width (from image at) }))
      (lt-ltb (length (from image at)) width (omega (arith, length_from image at)))

-- bits are all zero where they write 0
pub all_zero_lem : (bits : List ℕ) → AreBits bits → eqb (number 0 bits) 0 ≡ all_zero bits
all_zero_lem [] h = refl
all_zero_lem (zero ∷ bits) h = all_zero_lem bits h.1
all_zero_lem (suc zero ∷ bits) h = ne_eqb (number 1 bits) 0 (λ e. omega (arith, number_after 1 bits, pow_pos (length bits)))
all_zero_lem (suc (suc b) ∷ bits) h = absurd (omega (arith, h.0))

pub filling_long : (image : List ℕ) (at : ℕ) → at + 8 ≤ 8 * length image → filling (from image at) ≡ false
filling_long image at h = ap (λ t. t && all_zero (from image at)) (le-ltb (length (from image at)) 8 (omega (arith, length_from image at)))

pub filling_short : (image : List ℕ) (at : ℕ) → at ≤ 8 * length image → 8 * length image < at + 8
    → eqb (number 0 (take (8 * length image - at) (from image at))) 0 ≡ filling (from image at)
filling_short image at h l =
    ap (λ bs. eqb (number 0 bs) 0) (take_all (8 * length image - at) (from image at) (omega (arith, length_from image at)))
    ∙ (all_zero_lem (from image at) (bits_drop at (bits_of image) (bits_are_bits image))
    ∙ sym (ap (λ t. t && all_zero (from image at)) (lt-ltb (length (from image at)) 8 (omega (arith, length_from image at)))))
