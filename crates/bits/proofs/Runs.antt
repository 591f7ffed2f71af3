-- A run of bits within one byte: what `read_run` and `write_run` compute. Writing changes the run and no other bit.
use mathlib.Core.Path.{◌≡◌, sym, ap, ◌∙◌}
use mathlib.Core.List.{List, ◌++◌, append_assoc}
use Prim.Native.Nat.{ℕ, suc, ◌+◌, ◌-◌, ◌*◌, ◌/◌, ◌%◌, ◌^◌, ◌≤◌, ◌<◌}
use native.Mathlib.Omega.{arith}
use native.Mathlib.Nat.{mod-lt, zero-mul}
use lib.ListN.{length, take, drop, set, get_or, length-set, length-append}
use lib.Seq.{take_at, drop_at, drop-drop}
use lib.Pow.{pow_pos, pow-add, shl_exact, shr_lt, shr-shr, high}
use lib.Arith.{digits_lt}
use Rattle.model.specs.Bits.{digits, number, bits_of}
use Rattle.bits.specs.Fields.{Written}
use Rattle.bits.proofs.Digits.{length_digits, number_digits, digits_append, digits_low}
use Rattle.bits.proofs.Bytes.{length_bits_take, bits_split, bits_store}

-- the digits of a number before a run of c digits at p, those of the run, and those after it
run_split : (width p c x : ℕ) → p + c ≤ width
    → digits width x ≡ digits p (x / 2 ^ (width - p)) ++ (digits c (x / 2 ^ (width - p - c)) ++ digits (width - p - c) x)
run_split width p c x h =
    let after : digits (width - p) x ≡ digits c (x / 2 ^ (width - p - c)) ++ digits (width - p - c) x =
    ap (λ n. digits n x) {x = width - p} {y = c + (width - p - c)} (omega arith) ∙ digits_append c (width - p - c) x in
    ap (λ n. digits n x) {x = width} {y = p + (width - p)} (omega arith)
    ∙ (digits_append p (width - p) x ∙ ap (λ ds. digits p (x / 2 ^ (width - p)) ++ ds) after)

-- a number x with the last c digits of v as its run of c digits at p
module _ (width p c x v span weight : ℕ) (place : p + c ≤ width) (span_is : span ≡ 2 ^ c) (weight_is : weight ≡ 2 ^ (width - p - c)) where
  abbrev head : ℕ
  head = x / 2 ^ (width - p) * span + v % span

  abbrev whole : ℕ
  whole = head * weight + x % weight

  head_below : x < 2 ^ width → head < 2 ^ (p + c)
  head_below h =
      let all : 2 ^ (p + (width - p)) ≡ 2 ^ width = ap (λ n. 2 ^ n) {y = width} (omega arith) in
      let l : head < 2 ^ p * span = digits_lt (shr_lt p (width - p) (omega arith)) (mod-lt v (omega (arith, pow_pos c))) in
      omega (arith, ap (λ n. 2 ^ p * n) span_is ∙ sym (pow-add 2 p c))

  whole_below : x < 2 ^ width → whole < 2 ^ width
  whole_below h =
      let l : whole < 2 ^ (p + c) * weight = digits_lt (head_below h) (mod-lt x (omega (arith, pow_pos (width - p - c)))) in
      let e : 2 ^ (p + c) * weight ≡ 2 ^ width =
      ap (λ n. 2 ^ (p + c) * n) weight_is ∙ (sym (pow-add 2 (p + c) (width - p - c)) ∙ ap (λ n. 2 ^ n) {y = width} (omega arith)) in
      omega arith

  whole_digits : digits width whole ≡ digits p (x / 2 ^ (width - p)) ++ (digits c v ++ digits (width - p - c) x)
  whole_digits =
      let s = width - p - c in
      let u = x / 2 ^ (width - p) in
      let j = u * 2 ^ c + v % 2 ^ c in
      let y = j * 2 ^ s + x % 2 ^ s in
      let y_is : whole ≡ y = rw (span_is, weight_is) in
      let last : y / 2 ^ s ≡ j = high j s (mod-lt x (pow_pos s)) in
      let first : y / 2 ^ (width - p) ≡ u =
      ap (λ n. y / 2 ^ n) {x = width - p} {y = s + c} (omega arith) ∙ (sym (shr-shr y s c) ∙ (ap (λ n. n / 2 ^ c) last ∙ high u c (mod-lt v (pow_pos c)))) in
      ap (digits width) y_is
      ∙ (run_split width p c y place
      ∙ (ap (λ n. digits p n ++ (digits c (y / 2 ^ s) ++ digits s y)) first
      ∙ (ap (λ ds. digits p u ++ (ds ++ digits s y)) (ap (digits c) last ∙ digits_low u c v)
      ∙ ap (λ ds. digits p u ++ (digits c v ++ ds)) (digits_low j s x))))

-- the part between a front and a back, replaced
pub replaced : (front mid back new bits : List ℕ) (at c : ℕ) → bits ≡ front ++ (mid ++ back) → length front ≡ at → length mid ≡ c
    → take at bits ++ (new ++ drop (at + c) bits) ≡ front ++ (new ++ back)
replaced front mid back new bits at c e lf lm =
    let t : take at bits ≡ front = ap (take at) e ∙ take_at front (mid ++ back) at lf in
    let d : drop at bits ≡ mid ++ back = ap (drop at) e ∙ drop_at front (mid ++ back) at lf in
    let r : drop (at + c) bits ≡ back = sym (drop-drop c at bits) ∙ (ap (drop c) d ∙ drop_at mid back c lm) in
    cc

regroup : (b p m t r : List ℕ) → b ++ ((p ++ (m ++ t)) ++ r) ≡ (b ++ p) ++ (m ++ (t ++ r))
regroup b p m t r = simp append_assoc

-- a shift of 1, as code has it at so many bits
pub shifted_one : (bits k : ℕ) → k < bits → (1 * 2 ^ k) % 2 ^ bits ≡ 2 ^ k
shifted_one bits k h = shl_exact {a = 1} 1 k bits (omega arith) (omega arith) ∙ omega arith

-- the run of c bits at a position of bytes, and the byte that is stored for it, as code computes it
module _ (xs : List ℕ) (at c v : ℕ) where
  abbrev span : ℕ
  span = (1 * 2 ^ c) % 4294967296

  abbrev weight : ℕ
  weight = (1 * 2 ^ (8 - at % 8 - c)) % 4294967296

  abbrev start : ℕ
  start = get_or xs (at / 8) 0 / 2 ^ (8 - at % 8) * span + v % span

  abbrev stored : ℕ
  stored = start * weight + get_or xs (at / 8) 0 % weight

  pub stored_fits : at % 8 + c ≤ 8 → get_or xs (at / 8) 0 < 2 ^ 8 → stored < 2 ^ 8
  stored_fits place byte =
      whole_below 8 (at % 8) c (get_or xs (at / 8) 0) v span weight place (shifted_one 32 c (omega arith)) (shifted_one 32 (8 - at % 8 - c) (omega arith)) byte

  -- the bits before the run, those of the run and those after it
  abbrev before : List ℕ
  before = bits_of (take (at / 8) xs) ++ digits (at % 8) (get_or xs (at / 8) 0 / 2 ^ (8 - at % 8))

  abbrev old : List ℕ
  old = digits c (get_or xs (at / 8) 0 / 2 ^ (8 - at % 8 - c))

  abbrev tail : List ℕ
  tail = digits (8 - at % 8 - c) (get_or xs (at / 8) 0)

  abbrev after : List ℕ
  after = bits_of (drop (suc (at / 8)) xs)

  before_length : at < 8 * length xs → length before ≡ at
  before_length inside =
      length-append (bits_of (take (at / 8) xs)) (digits (at % 8) (get_or xs (at / 8) 0 / 2 ^ (8 - at % 8)))
      ∙ omega (arith, length_bits_take xs (at / 8) (omega arith), length_digits (at % 8) (get_or xs (at / 8) 0 / 2 ^ (8 - at % 8)))

  run_among : at < 8 * length xs → at % 8 + c ≤ 8 → bits_of xs ≡ before ++ (old ++ (tail ++ after))
  run_among inside place =
      bits_split xs (at / 8) (omega arith)
      ∙ (ap (λ ds. bits_of (take (at / 8) xs) ++ (ds ++ after)) (run_split 8 (at % 8) c (get_or xs (at / 8) 0) place)
      ∙ regroup (bits_of (take (at / 8) xs)) (digits (at % 8) (get_or xs (at / 8) 0 / 2 ^ (8 - at % 8))) old tail after)

  pub run_read : at < 8 * length xs → at % 8 + c ≤ 8 → get_or xs (at / 8) 0 / 2 ^ (8 - at % 8 - c) % 2 ^ c ≡ number 0 (take c (drop at (bits_of xs)))
  run_read inside place =
      sym (ap (λ bs. number 0 (take c (drop at bs))) (run_among inside place)
      ∙ (ap (λ bs. number 0 (take c bs)) (drop_at before (old ++ (tail ++ after)) at (before_length inside))
      ∙ (ap (number 0) (take_at old (tail ++ after) c (length_digits c (get_or xs (at / 8) 0 / 2 ^ (8 - at % 8 - c))))
      ∙ (number_digits 0 c (get_or xs (at / 8) 0 / 2 ^ (8 - at % 8 - c)) ∙ omega (arith, zero-mul (2 ^ c))))))

  pub run_written : at < 8 * length xs → at % 8 + c ≤ 8 → Written xs at c v (set xs (at / 8) stored)
  run_written inside place =
      let q = at / 8 in
      let h : q < length xs = omega arith in
      let head = digits (at % 8) (get_or xs (at / 8) 0 / 2 ^ (8 - at % 8)) in
      let now : digits 8 stored ≡ head ++ (digits c v ++ tail) =
      whole_digits 8 (at % 8) c (get_or xs (at / 8) 0) v span weight place (shifted_one 32 c (omega arith)) (shifted_one 32 (8 - at % 8 - c) (omega arith)) in
      record {
        same_length = length-set xs q stored;
        bits =
            bits_store xs q stored h
            ∙ (ap (λ ds. bits_of (take (at / 8) xs) ++ (ds ++ after)) now
            ∙ (regroup (bits_of (take (at / 8) xs)) head (digits c v) tail after
            ∙ sym (replaced before old (tail ++ after) (digits c v) (bits_of xs) at c (run_among inside place) (before_length inside)
            (length_digits c (get_or xs (at / 8) 0 / 2 ^ (8 - at % 8 - c))))));
      }
