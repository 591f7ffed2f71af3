-- More of a field, a run at a time: the steps that `read_field` and `write_field` take.
use mathlib.Core.Path.{◌≡◌, sym, ap, ◌∙◌}
use mathlib.Core.List.{List, [], ◌∷◌, ◌++◌, append_assoc}
use Prim.Native.Nat.{ℕ, zero, suc, ◌+◌, ◌-◌, ◌*◌, ◌/◌, ◌%◌, ◌^◌, ◌≤◌, ◌<◌}
use native.Mathlib.Omega.{arith}
use native.Mathlib.Nat.{add_assoc}
use lib.ListN.{length, take, drop, length-append, length-drop, take-append-drop}
use lib.Seq.{take-append-add, length-take-le, drop-drop}
use lib.Pow.{pow_mono, shl_exact, shr-shr}
use Rattle.model.specs.Bits.{digits, number, bits_of}
use Rattle.bits.specs.Fields.{Inside, Written, most_width}
use Rattle.bits.proofs.Digits.{AreBits, length_digits, number_append, number_after, number_bound, digits_append}
use Rattle.bits.proofs.Bytes.{length_bits, bits_are_bits}
use Rattle.bits.proofs.Runs.{replaced}

-- parts of lists of bits
pub bits_take : (n : ℕ) (bs : List ℕ) → AreBits bs → AreBits (take n bs)
bits_take zero bs h = tt
bits_take (suc n) [] h = tt
bits_take (suc n) (b ∷ bs) h = (h.0, bits_take n bs h.1)

pub bits_drop : (n : ℕ) (bs : List ℕ) → AreBits bs → AreBits (drop n bs)
bits_drop zero bs h = h
bits_drop (suc n) [] h = tt
bits_drop (suc n) (b ∷ bs) h = bits_drop n bs h.1

module _ (bytes : List ℕ) (at width : ℕ) (inside : Inside bytes at width) where
  rest_long : (i : ℕ) → i ≤ width → width - i ≤ length (drop (at + i) (bits_of bytes))
  rest_long i h = omega (arith, length-drop (at + i) (bits_of bytes), length_bits bytes, inside.inside)

  -- a field of i bits is a number of i binary digits
  pub field_fits : (i : ℕ) → i ≤ width → number 0 (take i (drop at (bits_of bytes))) < 2 ^ i
  field_fits i h =
      let l : i ≤ length (drop at (bits_of bytes)) = omega (arith, length-drop at (bits_of bytes), length_bits bytes, inside.inside) in
      let b : number 0 (take i (drop at (bits_of bytes))) < 2 ^ length (take i (drop at (bits_of bytes))) =
      number_bound (take i (drop at (bits_of bytes))) (bits_take i (drop at (bits_of bytes)) (bits_drop at (bits_of bytes) (bits_are_bits bytes))) in
      let e : 2 ^ length (take i (drop at (bits_of bytes))) ≡ 2 ^ i = ap (λ n. 2 ^ n) (length-take-le i (drop at (bits_of bytes)) l) in
      omega arith

  -- a run more
  module _ (i c : ℕ) (more : i + c ≤ width) where
    field_more : number 0 (take (i + c) (drop at (bits_of bytes))) ≡ number 0 (take i (drop at (bits_of bytes))) * 2 ^ c + number 0
        (take c (drop (at + i) (bits_of bytes)))
    field_more =
        let bits = drop at (bits_of bytes) in
        let l : i ≤ length (drop at (bits_of bytes)) = omega (arith, length-drop at (bits_of bytes), length_bits bytes, inside.inside) in
        let two : take (i + c) (drop at (bits_of bytes)) ≡ take i (drop at (bits_of bytes)) ++ take c (drop (at + i) (bits_of bytes)) =
        ap (take (i + c)) (sym (take-append-drop i bits))
        ∙ (ap (λ n. take (n + c) (take i bits ++ drop i bits)) (sym (length-take-le i bits l))
        ∙ (take-append-add (take i bits) (drop i bits) c ∙ ap (λ rest. take i bits ++ take c rest) (drop-drop i at (bits_of bytes)))) in
        ap (number 0) two
        ∙ (number_append 0 (take i bits) (take c (drop (at + i) (bits_of bytes)))
        ∙ (number_after (number 0 (take i bits)) (take c (drop (at + i) (bits_of bytes)))
        ∙ ap (λ n. number 0 (take i bits) * 2 ^ n + number 0 (take c (drop (at + i) (bits_of bytes))))
        (length-take-le c (drop (at + i) (bits_of bytes)) (omega (arith, rest_long i (omega arith))))))

    -- what is computed on the way fits
    shift_exact : number 0 (take i (drop at (bits_of bytes))) * 2 ^ c % 65536 ≡ number 0 (take i (drop at (bits_of bytes))) * 2 ^ c
    shift_exact = shl_exact i c most_width (field_fits i (omega arith)) (omega (arith, inside.narrow))

    pub more_fits : number 0 (take (i + c) (drop at (bits_of bytes))) < 2 ^ 16
    more_fits =
        let m : 2 ^ (i + c) ≤ 2 ^ most_width = pow_mono {j = most_width} (omega (arith, inside.narrow)) in
        omega (arith, field_fits (i + c) more)

    -- .. as code computes it
    pub field_next : (value run : ℕ) → value ≡ number 0 (take i (drop at (bits_of bytes))) → run ≡ number 0 (take c (drop (at + i) (bits_of bytes)))
        → value * 2 ^ c % 65536 + run ≡ number 0 (take (i + c) (drop at (bits_of bytes)))
    field_next value run ev er = rw (ev, er) (ap (λ n. n + number 0 (take c (drop (at + i) (bits_of bytes)))) shift_exact ∙ sym field_more)

joined : (a b m r : List ℕ) → (a ++ b) ++ (m ++ r) ≡ a ++ ((b ++ m) ++ r)
joined a b m r = simp append_assoc

-- two adjoining runs are one
written_more : (xs ys zs : List ℕ) (at i k v : ℕ) → at + i + k ≤ 8 * length xs
    → Written xs at i (v / 2 ^ k) ys → Written ys (at + i) k v zs → Written xs at (i + k) v zs
written_more xs ys zs at i k v inside first next =
    let bits = bits_of xs in
    let rest = drop (at + i) bits in
    let front = take at bits ++ digits i (v / 2 ^ k) in
    let was : bits_of ys ≡ front ++ (take k rest ++ drop k rest) =
    first.bits ∙ (sym (append_assoc (take at bits) (digits i (v / 2 ^ k)) rest) ∙ ap (λ l. front ++ l) (sym (take-append-drop k rest))) in
    let lf : length front ≡ at + i =
    length-append (take at bits) (digits i (v / 2 ^ k)) ∙ omega (arith, length-take-le at bits (omega (arith, length_bits xs)), length_digits i (v / 2 ^ k)) in
    let lm : length (take k rest) ≡ k = length-take-le k rest (omega (arith, length-drop (at + i) bits, length_bits xs)) in
    record {
      same_length = next.same_length ∙ first.same_length;
      bits =
          next.bits
          ∙ (replaced front (take k rest) (drop k rest) (digits k v) (bits_of ys) (at + i) k was lf lm
          ∙ (joined (take at bits) (digits i (v / 2 ^ k)) (digits k v) (drop k rest)
          ∙ (ap (λ ds. take at bits ++ (ds ++ drop k rest)) (sym (digits_append i k v))
          ∙ ap (λ l. take at bits ++ (digits (i + k) v ++ l)) (drop-drop k (at + i) bits ∙ ap (λ n. drop n bits) (add_assoc at i k)))));
    }

-- a run more of a field whose first bits are written
module _ (xs ys zs : List ℕ) (at width value left count : ℕ) (inside : at + width ≤ 8 * length xs) (some : left ≤ width) (part : count ≤ left) where
  pub run_more : Written xs at (width - left) (value / 2 ^ left) ys → Written ys (at + (width - left)) count (value / 2 ^ (left - count)) zs
      → Written xs at (width - (left - count)) (value / 2 ^ (left - count)) zs
  run_more first next =
      let e : value / 2 ^ left ≡ value / 2 ^ (left - count) / 2 ^ count =
      ap (λ n. value / 2 ^ n) {x = left} {y = left - count + count} (omega arith) ∙ sym (shr-shr value (left - count) count) in
      let d : width - left + count ≡ width - (left - count) = omega arith in
      rw d at (written_more xs ys zs at (width - left) count (value / 2 ^ (left - count)) (omega arith) (rw e at first) next)
