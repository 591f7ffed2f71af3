-- Bits put at a position, one part after another.
use mathlib.Core.Path.{◌≡◌, sym, ap, ap₂, ◌∙◌}
use mathlib.Core.List.{List, [], ◌∷◌, ◌++◌, append_assoc}
use Prim.Native.Nat.{ℕ, ◌+◌, ◌≤◌, ◌<◌}
use native.Mathlib.Omega.{arith}
use native.Mathlib.Numerals.{add-one}
use lib.ListN.{length, take, drop, set, length-append}
use lib.Seq.{take_at, drop_at, drop-drop, length-take-le, set_split}
use Rattle.model.specs.Bits.{bits_of, digits}
use Rattle.model.specs.Areas.{written}
use Rattle.bits.specs.Fields.{Written, Appended}
use Rattle.bits.proofs.Digits.{length_digits}

pub appended_field : (before : List ℕ) (at width v : ℕ) (after : List ℕ) → Written before at width v after → Appended before at (digits width v) after
appended_field before at width v after w =
    record {
      same_length = w.same_length;
      bits = w.bits ∙ ap (λ n. take at (bits_of before) ++ (digits width v ++ drop (at + n) (bits_of before))) (sym (length_digits width v));
    }

-- one byte written
pub wrote_byte : (old : List ℕ) (at v : ℕ) → at < length old → set old at v ≡ written old at (v ∷ [])
wrote_byte old at v h = set_split old at v h ∙ ap (λ n. take at old ++ (v ∷ drop n old)) (sym (add-one at))

pub written_more : (old : List ℕ) (at : ℕ) (xs ys : List ℕ) → at + length xs ≤ length old → written (written old at xs) (at + length xs) ys ≡ written old at
    (xs ++ ys)
written_more old at xs ys h =
    let front : length (take at old) ≡ at = length-take-le at old (omega arith) in
    let both : length (take at old ++ xs) ≡ at + length xs = length-append (take at old) xs ∙ ap (λ n. n + length xs) front in
    let m : written old at xs ≡ (take at old ++ xs) ++ drop (at + length xs) old = sym (append_assoc (take at old) xs (drop (at + length xs) old)) in
    let t : take (at + length xs) (written old at xs) ≡ take at old ++ xs =
    ap (take (at + length xs)) m ∙ take_at (take at old ++ xs) (drop (at + length xs) old) (at + length xs) both in
    let d : drop (at + length xs + length ys) (written old at xs) ≡ drop (at + length (xs ++ ys)) old =
    sym (drop-drop (length ys) (at + length xs) (written old at xs))
    ∙ (ap (λ l. drop (length ys) (drop (at + length xs) l)) m
    ∙ (ap (drop (length ys)) (drop_at (take at old ++ xs) (drop (at + length xs) old) (at + length xs) both)
    ∙ (drop-drop (length ys) (at + length xs) old
    ∙ ap (λ n. drop n old) {x = at + length xs + length ys} {y = at + length (xs ++ ys)} (omega (arith, length-append xs ys))))) in
    ap (λ l. l ++ (ys ++ drop (at + length xs + length ys) (written old at xs))) t
    ∙ (ap (λ l. (take at old ++ xs) ++ (ys ++ l)) d
    ∙ (append_assoc (take at old) xs (ys ++ drop (at + length (xs ++ ys)) old)
    ∙ ap (λ l. take at old ++ l) (sym (append_assoc xs ys (drop (at + length (xs ++ ys)) old)))))

-- at a position and with bits that are the same
pub appended_as : {before after : List ℕ} {at at' : ℕ} {bits bits' : List ℕ} → at ≡ at' → bits ≡ bits' → Appended before at bits after
    → Appended before at' bits' after
appended_as e f p = rw (← e, ← f) p

-- the bits of a place are told
pub appended_at : {before after : List ℕ} {at : ℕ} {bits : List ℕ} → Appended before at bits after → (p old s : List ℕ) → bits_of before ≡ p ++ (old ++ s)
    → length p ≡ at → length old ≡ length bits → bits_of after ≡ p ++ (bits ++ s)
appended_at {before} {after} {at} {bits} h p old s e f g =
    let front : take at (bits_of before) ≡ p = ap (take at) e ∙ take_at p (old ++ s) at f in
    let both : length (p ++ old) ≡ at + length bits = length-append p old ∙ ap₂ (λ i j. i + j) f g in
    let end : drop (at + length bits) (bits_of before) ≡ s =
    ap (drop (at + length bits)) (e ∙ sym (append_assoc p old s)) ∙ drop_at (p ++ old) s (at + length bits) both in
    h.bits ∙ ap₂ (λ l r. l ++ (bits ++ r)) front end
