-- A word is inverted in place: its letters are put into the other order, then each is turned.
use mathlib.Core.Path.{◌≡◌, refl, sym, ap, ap₂, ◌∙◌}
use mathlib.Core.List.{List, [], ◌∷◌, ◌++◌, map, reverse}
use Prim.Native.Nat.{ℕ, zero, suc, ◌+◌, ◌≤◌, ◌<◌}
use native.Mathlib.Omega.{arith}
use lib.ListN.{length, take, drop, get_or, length-append, length-drop, length-map, length-reverse}
use lib.Seq.{length-take-le, take_all, take_at, drop_at}
use borrow.Rule.Slice.PartMut.{put_mid}
use Rattle.std.proofs.lemmas.List.{drop_all}
use Rattle.model.proofs.Words.{map_reverse}
use Rattle.model.specs.Word.{Word, flip, inverse, letter}
use Rattle.engine.specs.Gap.{letters}
use Rattle.engine.specs.Words.{Inverted}

pub length_inverse : (w : Word) → length (inverse w) ≡ length w
length_inverse w = length-reverse (map flip w) ∙ length-map w flip

-- bytes that are those of others turned, as words
turned_all : (xs ys : List ℕ) → length xs ≡ length ys → ((k : ℕ) → k < length ys → letter (get_or xs k 0) ≡ flip (letter (get_or ys k 0)))
    → letters xs ≡ map flip (letters ys)
unfolding letters
turned_all [] [] n h = refl
turned_all [] (y ∷ ys) n h = absurd (omega arith)
turned_all (x ∷ xs) [] n h = absurd (omega arith)
turned_all (x ∷ xs) (y ∷ ys) n h =
    ap₂ (λ l w. l ∷ w) (h zero (omega arith)) (turned_all xs ys (omega arith) (λ k i. h (suc k) (omega arith)))

reversed : (xs : List ℕ) → map flip (letters (reverse xs)) ≡ inverse (letters xs)
unfolding letters
reversed xs = ap (map flip) (map_reverse letter xs) ∙ map_reverse flip (map letter xs)

-- `turned` has the bytes in the other order, each turned
pub inverted_whole : (before turned : List ℕ) → length turned ≡ length before
    → ((k : ℕ) → k < length before → letter (get_or turned k 0) ≡ flip (letter (get_or (reverse before) k 0))) → Inverted before (length before) turned
inverted_whole before turned n h =
    let e : length (reverse before) ≡ length before = length-reverse before in
    let all : (l : List ℕ) → length l ≡ length before → take (length before) l ≡ l = λ l m. take_all (length before) l (omega (arith, m)) in
    let none : (l : List ℕ) → length l ≡ length before → drop (length before) l ≡ [] = λ l m. drop_all (length before) l (omega (arith, m)) in
    record {
      same_length = n;
      inverted = ap letters (all turned n) ∙ (turned_all turned (reverse before) (n ∙ sym e) (λ k i. h k (omega arith))
          ∙ (reversed before ∙ ap (λ l. inverse (letters l)) (sym (all before refl))));
      rest = none turned n ∙ sym (none before refl);
    }

-- the word of `n` letters from a place on, inverted where it stands
pub inverted_part : (from n k : ℕ) (bytes part : List ℕ) → n ≡ k → from + n ≤ length bytes
    → Inverted (take k (drop from bytes)) (length (take k (drop from bytes))) part
    → Inverted (drop from bytes) n (drop from (put_mid from k bytes part))
inverted_part from n k bytes part e inside i =
    let xs = drop from bytes in
    let long : k ≤ length xs = omega (arith, length-drop from bytes) in
    let some : length (take k xs) ≡ n = length-take-le k xs long ∙ sym e in
    let many : length part ≡ n = i.same_length ∙ some in
    let after : drop from (put_mid from k bytes part) ≡ part ++ drop n xs =
    drop_at (take from bytes) _ from (length-take-le from bytes (omega arith)) ∙ ap (λ m. part ++ drop m xs) (sym e) in
    record {
      same_length = ap length after ∙ simp (length-append, length-drop) (omega arith);
      inverted = ap (λ l. letters (take n l)) after
          ∙ (ap letters (take_at part (drop n xs) n many)
          ∙ (ap letters (sym (take_all n part (omega arith)))
          ∙ (ap (λ m. letters (take m part)) (sym some)
          ∙ (i.inverted ∙ ap (λ l. inverse (letters l)) (take_all (length (take k xs)) (take k xs) (omega arith) ∙ ap (λ m. take m xs) (sym e))))));
      rest = ap (drop n) after ∙ drop_at part (drop n xs) n many;
    }
