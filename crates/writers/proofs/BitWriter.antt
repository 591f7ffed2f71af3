-- Bits put one field after another: a field, none, more, and the whole image when the last byte is filled.
use mathlib.Core.Path.{◌≡◌, refl, sym, ap, subst, ◌∙◌}
use mathlib.Core.List.{List, [], ◌∷◌, ◌++◌, append_assoc, append-nil}
use Prim.Native.Nat.{ℕ, zero, suc, ◌+◌, ◌-◌, ◌*◌, ◌/◌, ◌%◌, ◌^◌, ◌≤◌, ◌<◌}
use native.Mathlib.Omega.{arith}
use native.Mathlib.Numerals.{add-one}
use mathlib.Core.Logic.{⊎_elim}
use borrow.Author.Tests.{lt-ltb}
use Rattle.std.proofs.Common.{MutBor, Ok, Err}
use lib.ListN.{length, take, drop, set, replicate, length-append, length-set, length-replicate, take-append-drop}
use lib.Seq.{drop-drop, length-take-le, take-suc-set, drop-set-lt}
use lib.Arith.{digits_lt}
use lib.Pow.{pow-add, pow_pos, shl_exact, shl_lt, shr_lt}
use native.Mathlib.Nat.{zero-div}
use Rattle.model.proofs.Booleans.{both}
use Rattle.model.proofs.Numbers.{below_or}
use Rattle.model.specs.Bits.{bits_of, digits, bytes_for, pack}
use Rattle.model.specs.Areas.{begins}
use Rattle.model.specs.Range.{AreBytes}
use Rattle.bits.proofs.Digits.{AreBits, length_digits, digits_append, digits_mod, digits_joined}
use Rattle.bits.proofs.Bytes.{bits_of_append, length_bits_take}
use Rattle.bits.proofs.Packing.{packed_of, length_packed, zeros_all_zero}
use Rattle.writers.specs.BitWriter.{laid, Begins, Puts, Closes}
use Rattle.model.specs.declared.answers.Refusal.{Refusal}
use Rattle.model.specs.declared.answers.Refusal.TheVariants.{AnswerShort}
use Rattle.writers.specs.Filling.{Fills}
use Rattle.writers.specs.declared.bit_writer.BitWriter.{BitWriter}

pub length_laid : (w : BitWriter) → length (laid w) ≡ 8 * w.next + w.held
length_laid w =
    length-append (bits_of (take w.next w.area.now)) (digits w.held w.bits)
    ∙ omega (arith, length_bits_take w.area.now w.next w.inside, length_digits w.held w.bits)

bits_of_one : (xs : List ℕ) (x : ℕ) → bits_of (xs ++ (x ∷ [])) ≡ bits_of xs ++ digits 8 x
bits_of_one xs x = bits_of_append xs (x ∷ []) ∙ ap (λ bs. bits_of xs ++ bs) (append-nil (digits 8 x))

bytes_take : (n : ℕ) (xs : List ℕ) → AreBytes xs → AreBytes (take n xs)
bytes_take zero xs h i = omega arith
bytes_take (suc n) [] h i = omega arith
bytes_take (suc n) (x ∷ xs) h zero = h 0
bytes_take (suc n) (x ∷ xs) h (suc i) = bytes_take n xs (λ i. h (suc i)) i

pub puts_none : (w : BitWriter) → Puts w [] w
puts_none w = record { same_area = refl; same_length = refl; forth = omega arith; rest = refl; bits = λ room. sym (append-nil (laid w)) }

further : (m n : ℕ) (xs ys : List ℕ) → m ≤ n → drop m xs ≡ drop m ys → drop n xs ≡ drop n ys
further m n xs ys h e =
    let s : m + (n - m) ≡ n = omega arith in
    sym (drop-drop (n - m) m xs ∙ ap (λ k. drop k xs) s) ∙ (ap (drop (n - m)) e ∙ (drop-drop (n - m) m ys ∙ ap (λ k. drop k ys) s))

pub puts_more : {v w x : BitWriter} {new more : List ℕ} → Puts v new w → Puts w more x → Puts v (new ++ more) x
puts_more {v} {w} {x} {new} {more} p q =
    record {
      same_area = q.same_area ∙ p.same_area;
      same_length = q.same_length ∙ p.same_length;
      forth = omega (arith, p.forth, q.forth);
      rest = q.rest ∙ further w.next x.next w.area.now v.area.now q.forth p.rest;
      bits =
          λ room.
          let n : length (new ++ more) ≡ length new + length more = length-append new more in
          let first : laid w ≡ laid v ++ new = p.bits (omega (arith, room, n)) in
          let l : length (laid w) ≡ length (laid v) + length new = ap length first ∙ length-append (laid v) new in
          q.bits (omega (arith, room, n, l, p.same_length)) ∙ (ap (λ bs. bs ++ more) first ∙ append_assoc (laid v) new more);
    }

-- A FIELD, as 32 bits gather it

module _ (w : BitWriter) (width value : ℕ) (narrow : width ≤ 8) (fits : value < 2 ^ width) where
  abbrev gathered : ℕ
  gathered = w.bits * 2 ^ width % 4294967296 + value

  gathered_is : gathered ≡ w.bits * 2 ^ width + value
  gathered_is = ap (λ n. n + value) (shl_exact w.held width 32 w.small (omega (arith, w.few)))

  pub gathered_small : gathered < 2 ^ (w.held + width)
  gathered_small = omega (arith, gathered_is, digits_lt w.small fits, pow-add 2 w.held width)

  joined : digits (w.held + width) gathered ≡ digits w.held w.bits ++ digits width value
  joined = ap (digits (w.held + width)) gathered_is ∙ digits_joined w.held width w.bits value fits

  pub put_held : {inside : w.next ≤ length w.area.now} {few : w.held + width < 8} {small : gathered < 2 ^ (w.held + width)}
      → Puts w (digits width value)
      (record { area = w.area; next = w.next; held = w.held + width; bits = gathered; inside = inside; few = few; small = small })
  put_held =
      record {
        same_area = refl;
        same_length = refl;
        forth = omega arith;
        rest = refl;
        bits =
            λ room.
            ap (λ bs. bits_of (take w.next w.area.now) ++ bs) joined
            ∙ sym (append_assoc (bits_of (take w.next w.area.now)) (digits w.held w.bits) (digits width value));
      }

  module _ (many : 8 ≤ w.held + width) where
    abbrev left : ℕ
    left = w.held + width - 8

    abbrev rest : ℕ
    rest = gathered % (1 * 2 ^ left % 4294967296)

    span : 1 * 2 ^ left % 4294967296 ≡ 2 ^ left
    span = shl_exact 1 left 32 (omega arith) (omega (arith, w.few)) ∙ omega arith

    pub byte_fits : gathered / 2 ^ left < 2 ^ 8
    byte_fits =
        let all : w.held + width ≡ 8 + left = omega arith in
        shr_lt 8 left (subst (λ n. gathered < 2 ^ n) all gathered_small)

    split : digits w.held w.bits ++ digits width value ≡ digits 8 (gathered / 2 ^ left) ++ digits left rest
    split =
        let all : w.held + width ≡ 8 + left = omega arith in
        sym joined
        ∙ (ap (λ n. digits n gathered) all
        ∙ (digits_append 8 left gathered
        ∙ ap (λ bs. digits 8 (gathered / 2 ^ left) ++ bs) (sym (digits_mod left gathered) ∙ ap (λ n. digits left (gathered % n)) (sym span))))

    pub put_full : {inside : w.next ≤ length w.area.now} {few : left < 8} {small : rest < 2 ^ left} → length w.area.now ≤ w.next
        → Puts w (digits width value) (record { area = w.area; next = w.next; held = left; bits = rest; inside = inside; few = few; small = small })
    put_full full =
        record {
          same_area = refl;
          same_length = refl;
          forth = omega arith;
          rest = refl;
          bits = λ room. absurd (omega (arith, room, length_laid w, length_digits width value, w.inside));
        }

    -- .. where `area` is the area after the byte
    pub put_byte : (area : MutBor (List ℕ)) → area.ghost_name ≡ w.area.ghost_name → area.now ≡ set w.area.now w.next (gathered / 2 ^ left)
        → w.next < length w.area.now → {inside : w.next + 1 ≤ length area.now} {few : left < 8} {small : rest < 2 ^ left}
        → Puts w (digits width value) (record { area = area; next = w.next + 1; held = left; bits = rest; inside = inside; few = few; small = small })
    put_byte area same now some =
        let byte = gathered / 2 ^ left in
        let l : length area.now ≡ length w.area.now = ap length now ∙ length-set w.area.now w.next byte in
        let taken : take (w.next + 1) area.now ≡ take w.next w.area.now ++ (gathered / 2 ^ left ∷ []) =
        ap (take (w.next + 1)) now
        ∙ (ap (λ n. take n (set w.area.now w.next (gathered / 2 ^ left))) (add-one w.next) ∙ take-suc-set w.area.now w.next (gathered / 2 ^ left) some) in
        record {
          same_area = same;
          same_length = l;
          forth = omega arith;
          rest = ap (drop (w.next + 1)) now ∙ drop-set-lt (w.next + 1) w.area.now w.next byte (omega arith);
          bits =
              λ room.
              ap (λ bytes. bits_of bytes ++ digits left rest) taken
              ∙ (ap (λ bs. bs ++ digits left rest) (bits_of_one (take w.next w.area.now) byte)
              ∙ (append_assoc (bits_of (take w.next w.area.now)) (digits 8 byte) (digits left rest)
              ∙ (ap (λ bs. bits_of (take w.next w.area.now) ++ bs) (sym split)
              ∙ sym (append_assoc (bits_of (take w.next w.area.now)) (digits w.held w.bits) (digits width value)))));
        }

-- THE LAST BYTE, as 32 bits shift it

module _ (w : BitWriter) where
  pub last_is : w.bits * 2 ^ (8 - w.held) % 4294967296 ≡ w.bits * 2 ^ (8 - w.held)
  last_is = shl_exact w.held (8 - w.held) 32 w.small (omega (arith, w.few))

  pub last_fits : w.bits * 2 ^ (8 - w.held) % 4294967296 < 2 ^ 8
  last_fits =
      let most : w.bits * 2 ^ (8 - w.held) < 2 ^ (w.held + (8 - w.held)) = shl_lt w.held (8 - w.held) w.small in
      let all : 2 ^ (w.held + (8 - w.held)) ≡ 2 ^ 8 = ap (λ n. 2 ^ n) {x = w.held + (8 - w.held)} {y = 8} (omega (arith, w.few)) in
      omega (arith, last_is)

-- THE WHOLE IMAGE

zeros : (n : ℕ) → digits n 0 ≡ replicate n 0
zeros zero = refl
zeros (suc n) = ap (λ b. b % 2 ∷ digits n 0) (zero-div (2 ^ n)) ∙ ap (λ l. 0 ∷ l) (zeros n)

-- an area whose first bytes have the bits and a filling, and which is as it was from there on
begun : (before after bits : List ℕ) (bytes filled : ℕ) → AreBytes after → AreBits bits → bytes ≤ length after → filled < 8
    → bits_of (take bytes after) ≡ bits ++ replicate filled 0 → drop bytes after ≡ drop bytes before → after ≡ begins (pack bits) before
begun before after bits bytes filled fits r inside few e d =
    let image : take bytes after ≡ pack bits =
    packed_of (take bytes after) bits (replicate filled 0) (bytes_take bytes after fits) r e
    (both (lt-ltb (length (replicate filled 0)) 8 (omega (arith, length-replicate {A = ℕ} filled 0))) (zeros_all_zero filled)) in
    let l : length (pack bits) ≡ bytes = ap length (sym image) ∙ length-take-le bytes after inside in
    sym (take-append-drop bytes after) ∙ (ap (λ bs. bs ++ drop bytes after) image ∙ ap (λ bs. pack bits ++ bs) (d ∙ ap (λ n. drop n before) (sym l)))

-- what was put from the beginning, and closed
module _ (before bits after : List ℕ) (v w w' : BitWriter) (r : AreBits bits) (b : Begins before v) (p : Puts v bits w) (c : Closes w w')
    (ends : after ≡ w'.area.now) (bytes : AreBytes after) (room : bytes_for (length bits) ≤ length before) where
  nothing : laid v ≡ []
  nothing = ap (λ n. bits_of (take n v.area.now) ++ digits v.held v.bits) b.first ∙ ap (λ n. digits n v.bits) b.none

  same_before : length v.area.now ≡ length before
  same_before = ap length b.area_is

  all : laid w ≡ bits
  all = p.bits (omega (arith, same_before, ap length nothing)) ∙ ap (λ bs. bs ++ bits) nothing

  count : length bits ≡ 8 * w.next + w.held
  count = ap length (sym all) ∙ length_laid w

  behind : drop w.next w.area.now ≡ drop w.next before
  behind = p.rest ∙ ap (drop w.next) b.area_is

  image_closed : after ≡ begins (pack bits) before
  image_closed =
      ⊎_elim
      (λ (none : w.held < 1).
      let z : w.held ≡ 0 = omega arith in
      let same : after ≡ w.area.now = ends ∙ c.none z in
      begun before after bits w.next 0 bytes r (omega (arith, ap length same, w.inside)) (omega arith)
      (ap (λ l. bits_of (take w.next l)) same
      ∙ (sym (append-nil (bits_of (take w.next w.area.now)))
      ∙ (ap (λ n. bits_of (take w.next w.area.now) ++ digits n w.bits) (sym z) ∙ (all ∙ sym (append-nil bits)))))
      (ap (drop w.next) same ∙ behind))
      (λ (some : 1 ≤ w.held).
      let inside : w.next < length w.area.now = omega (arith, count, p.same_length, same_before) in
      let byte = w.bits * 2 ^ (8 - w.held) in
      let same : after ≡ set w.area.now w.next (w.bits * 2 ^ (8 - w.held)) = ends ∙ c.filled (omega arith) inside in
      let eight : w.held + (8 - w.held) ≡ 8 = omega (arith, w.few) in
      let joined : digits 8 (w.bits * 2 ^ (8 - w.held)) ≡ digits w.held w.bits ++ replicate (8 - w.held) 0 =
      ap (λ n. digits n (w.bits * 2 ^ (8 - w.held))) (sym eight)
      ∙ (ap (digits (w.held + (8 - w.held))) {x = w.bits * 2 ^ (8 - w.held)} {y = w.bits * 2 ^ (8 - w.held) + 0} (omega arith)
      ∙ (digits_joined w.held (8 - w.held) w.bits 0 (pow_pos (8 - w.held)) ∙ ap (λ l. digits w.held w.bits ++ l) (zeros (8 - w.held)))) in
      begun before after bits (suc w.next) (8 - w.held) bytes r (omega (arith, ap length same, length-set w.area.now w.next byte)) (omega arith)
      (ap (λ l. bits_of (take (suc w.next) l)) same
      ∙ (ap bits_of (take-suc-set w.area.now w.next byte inside)
      ∙ (bits_of_one (take w.next w.area.now) byte
      ∙ (ap (λ l. bits_of (take w.next w.area.now) ++ l) joined
      ∙ (sym (append_assoc (bits_of (take w.next w.area.now)) (digits w.held w.bits) (replicate (8 - w.held) 0))
      ∙ ap (λ l. l ++ replicate (8 - w.held) 0) all)))))
      (ap (drop (suc w.next)) same
      ∙ (drop-set-lt (suc w.next) w.area.now w.next byte (omega arith) ∙ further w.next (suc w.next) w.area.now before (omega arith) behind)))
      (below_or w.held 1)

  pub fills_closed : (k : ℕ) → k ≡ bytes_for (length bits) → Fills before (pack bits) (Ok k) after
  fills_closed k e =
      let l : length (pack bits) ≡ bytes_for (length bits) = length_packed (bytes_for (length bits)) bits in
      (e ∙ sym l, omega arith, image_closed)

-- an area that is too short is left as it was
pub fills_short : (area bits : List ℕ) (r : Refusal) → r ≡ AnswerShort → length area < bytes_for (length bits) → Fills area (pack bits) (Err r) area
fills_short area bits r e h = (e, omega (arith, length_packed (bytes_for (length bits)) bits), refl)
