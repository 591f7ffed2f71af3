-- Letters are written just before `right`, one at a time: what each turn of the two writing loops adds.
use mathlib.Core.Path.{◌≡◌, refl, sym, ap, ap₂, subst, ◌∙◌}
use mathlib.Core.List.{List, [], ◌∷◌, ◌++◌, append_assoc, map, map-append, reverse-append}
use Prim.Native.Nat.{ℕ, suc, ◌+◌, ◌-◌, ◌≤◌, ◌<◌}
use native.Mathlib.Omega.{arith}
use native.Mathlib.Numerals.{add-one}
use lib.ListN.{length, take, drop, set, get_or, length-set, length-drop}
use lib.Seq.{take-suc, drop-cons, take-set-le, drop-set-lt, get_or-set_same, take-take, get_or-take, get_or-drop, length-take-le, drop-length}
use Rattle.model.specs.Word.{Word, flip, inverse, letter}
use Rattle.engine.specs.Gap.{letters}
use Rattle.engine.specs.Turn.{Pushed}
use Rattle.engine.proofs.Letters.{letters_cons}

pub pushed_none : (bytes : List ℕ) (right : ℕ) → Pushed [] bytes right 0 bytes
pushed_none bytes right =
    let e : right - 0 ≡ right = omega arith in
    record { same_length = refl; before = refl; pushed = ap (λ i. letters (drop i bytes)) e }

pub pushed_as : {w w' : Word} {bytes after : List ℕ} {right i j : ℕ} → w ≡ w' → i ≡ j → Pushed w bytes right i after → Pushed w' bytes right j after
pushed_as e f p = rw (← e, ← f) p

module _ (bytes after : List ℕ) (right i v : ℕ) (w : Word) (p : Pushed w bytes right i after) (some : i < right) (inside : right ≤ length bytes) where
  abbrev at : ℕ
  at = right - 1 - i

  step_back : right - i ≡ suc at
  step_back = omega arith

  fits : at < length after
  fits = omega (arith, p.same_length)

  below : take at (set after at v) ≡ take at bytes
  below =
      take-set-le at after at v (omega arith)
      ∙ (sym (take-take at (suc at) after (omega arith))
      ∙ (ap (take at) (ap (λ j. take j after) (sym step_back) ∙ (p.before ∙ ap (λ j. take j bytes) step_back))
      ∙ take-take at (suc at) bytes (omega arith)))

  above : drop at (set after at v) ≡ v ∷ drop (suc at) after
  above =
      drop-cons (set after at v) at 0 (simp length-set fits)
      ∙ (ap (λ x. x ∷ drop (suc at) (set after at v)) (get_or-set_same after at v 0 fits)
      ∙ ap (λ l. v ∷ l) (drop-set-lt (suc at) after at v (omega arith)))

  -- one letter more
  pub pushed_more : Pushed (letter v ∷ w) bytes right (i + 1) (set after at v)
  pushed_more =
      let e : right - (i + 1) ≡ at = omega arith in
      record {
        same_length = simp length-set p.same_length;
        before = ap (λ j. take j (set after at v)) e ∙ (below ∙ ap (λ j. take j bytes) (sym e));
        pushed =
            ap (λ j. letters (drop j (set after at v))) e
            ∙ (ap letters above
            ∙ (letters_cons v (drop (suc at) after)
            ∙ ap (λ l. letter v ∷ l) (ap (λ j. letters (drop j after)) (sym step_back) ∙ p.pushed)));
      }

-- the inverse of a word with one letter more
pub inverse_more : (z : List ℕ) (i : ℕ) → i < length z → flip (letter (get_or z i 0)) ∷ inverse (letters (take i z)) ≡ inverse (letters (take (i + 1) z))
unfolding letters
inverse_more z i h =
    let e : take (i + 1) z ≡ take i z ++ (get_or z i 0 ∷ []) = ap (λ j. take j z) (add-one i) ∙ take-suc z i 0 h in
    sym (ap (λ l. inverse (map letter l)) e
    ∙ (ap inverse (map-append letter (take i z) (get_or z i 0 ∷ []))
    ∙ (ap mathlib.Core.List.reverse (map-append flip (map letter (take i z)) (letter (get_or z i 0) ∷ []))
    ∙ reverse-append (map flip (map letter (take i z))) (flip (letter (get_or z i 0)) ∷ []))))

-- the end of a word of `count` letters with one letter more
pub word_more : (z : List ℕ) (count i : ℕ) → length z ≡ count → i < count
    → letter (get_or z (count - 1 - i) 0) ∷ letters (drop (count - i) z) ≡ letters (drop (count - (i + 1)) z)
word_more z count i n h =
    let e : count - i ≡ suc (count - 1 - i) = omega arith in
    let f : count - 1 - i ≡ count - (i + 1) = omega arith in
    ap (λ j. letter (get_or z (count - 1 - i) 0) ∷ letters (drop j z)) e
    ∙ (sym (letters_cons (get_or z (count - 1 - i) 0) (drop (suc (count - 1 - i)) z))
    ∙ (ap letters (sym (drop-cons z (count - 1 - i) 0 (omega arith))) ∙ ap (λ j. letters (drop j z)) f))

-- how many letters are written, and where the next one goes, when j of n are left
left_of : (n j : ℕ) → j ≤ n → n - (n - j) ≡ j
left_of n j h = omega arith

one_more : (n j : ℕ) → 1 ≤ j → j ≤ n → n - j + 1 ≡ n - (j - 1)
one_more n j some h = omega arith

last_left : (n j : ℕ) → 1 ≤ j → j ≤ n → n - 1 - (n - j) ≡ j - 1
last_left n j some h = omega arith

-- a word in the cells: so many bytes from a place on
module _ (cells : List ℕ) (from count : ℕ) (inside : from + count ≤ length cells) where
  pub length_word : length (take count (drop from cells)) ≡ count
  length_word = length-take-le count (drop from cells) (simp length-drop (omega arith))

  pub word_letter : (i : ℕ) → i < count → get_or (take count (drop from cells)) i 0 ≡ get_or cells (from + i) 0
  word_letter i h = get_or-take count (drop from cells) i 0 h ∙ get_or-drop from cells i 0

  module _ (bytes : List ℕ) (right : ℕ) (room : right ≤ length bytes) (enough : count ≤ right) where
    -- a turn of the loop that writes the word from its end
    pub word_turn : (after : List ℕ) (i : ℕ) → i < count → Pushed (letters (drop (count - i) (take count (drop from cells)))) bytes right i after
        → Pushed (letters (drop (count - (i + 1)) (take count (drop from cells)))) bytes right (i + 1)
        (set after (right - 1 - i) (get_or cells (from + (count - 1 - i)) 0))
    word_turn after i h p =
        let e : letter (get_or cells (from + (count - 1 - i)) 0) ≡ letter (get_or (take count (drop from cells)) (count - 1 - i) 0) =
        ap letter (sym (word_letter (count - 1 - i) (omega arith))) in
        pushed_as
        (ap (λ l. l ∷ letters (drop (count - i) (take count (drop from cells)))) e ∙ word_more (take count (drop from cells)) count i length_word h)
        refl
        (pushed_more bytes after right i (get_or cells (from + (count - 1 - i)) 0) _ p (omega arith) room)

    pub word_none : Pushed (letters (drop (count - 0) (take count (drop from cells)))) bytes right 0 bytes
    unfolding letters
    word_none =
        let e : count - 0 ≡ length (take count (drop from cells)) = omega (arith, length_word) in
        pushed_as (sym (ap (λ j. letters (drop j (take count (drop from cells)))) e ∙ ap letters (drop-length (take count (drop from cells))))) refl
        (pushed_none bytes right)

    -- the same, told by how many letters are left
    pub word_down : (after : List ℕ) (j next : ℕ) → 1 ≤ j → j ≤ count → next + (count - j) ≡ right
        → Pushed (letters (drop j (take count (drop from cells)))) bytes right (count - j) after
        → Pushed (letters (drop (j - 1) (take count (drop from cells)))) bytes right (count - (j - 1)) (set after (next - 1) (get_or cells (from + (j - 1)) 0))
    word_down after j next some most e p =
        let place : right - 1 - (count - j) ≡ next - 1 = omega arith in
        let left : count - (count - j + 1) ≡ j - 1 = ap (λ k. count - k) (one_more count j some most) ∙ left_of count (j - 1) (omega arith) in
        let turned =
        word_turn after (count - j) (omega arith) (pushed_as (sym (ap (λ k. letters (drop k (take count (drop from cells)))) (left_of count j most))) refl p) in
        subst (Pushed (letters (drop (j - 1) (take count (drop from cells)))) bytes right (count - (j - 1)))
        (ap₂ (λ p k. set after p (get_or cells (from + k) 0)) place (last_left count j some most))
        (pushed_as (ap (λ k. letters (drop k (take count (drop from cells)))) left) (one_more count j some most) turned)

    -- a turn of the loop that writes its inverse
    pub inverse_turn : (after : List ℕ) (i v : ℕ) → i < count → letter v ≡ flip (letter (get_or cells (from + i) 0))
        → Pushed (inverse (letters (take i (drop from cells)))) bytes right i after
        → Pushed (inverse (letters (take (i + 1) (drop from cells)))) bytes right (i + 1) (set after (right - 1 - i) v)
    inverse_turn after i v h e p =
        let f : letter v ≡ flip (letter (get_or (drop from cells) i 0)) = e ∙ ap (λ x. flip (letter x)) (sym (get_or-drop from cells i 0)) in
        pushed_as
        (ap (λ l. l ∷ inverse (letters (take i (drop from cells)))) f ∙ inverse_more (drop from cells) i (simp length-drop (omega arith)))
        refl
        (pushed_more bytes after right i v _ p (omega arith) room)

    pub inverse_none : Pushed (inverse (letters (take 0 (drop from cells)))) bytes right 0 bytes
    unfolding letters
    inverse_none = pushed_none bytes right

-- what stands before the place where letters were pushed
pub pushed_kept : {w : Word} {bytes after : List ℕ} {right count : ℕ} → Pushed w bytes right count after → (k : ℕ) → k ≤ right - count
    → take k after ≡ take k bytes
pushed_kept {bytes} {after} {right} {count} p k h =
    sym (take-take k (right - count) after h) ∙ (ap (take k) p.before ∙ take-take k (right - count) bytes h)

-- a word that was pushed before another one is one word with it
pub pushed_both : {u v : Word} {bytes mid after : List ℕ} {right middle m n : ℕ} → middle ≡ right - n → Pushed v bytes right n mid
    → Pushed u mid middle m after → Pushed (u ++ v) bytes right (m + n) after
pushed_both {u} {v} {bytes} {mid} {after} {right} {middle} {m} {n} em p q =
    let place : right - (m + n) ≡ middle - m = omega arith in
    let below : middle - m ≤ right - n = omega arith in
    record {
      same_length = q.same_length ∙ p.same_length;
      before = rw place (q.before ∙ pushed_kept p (middle - m) below);
      pushed = rw (place, append_assoc) (q.pushed ∙ ap (λ w. u ++ w) (ap (λ i. letters (drop i mid)) em ∙ p.pushed));
    }
