-- Two programs of any signs at the workspace's end.
use mathlib.Core.Path.{◌≡◌, sym, ap, subst, ◌∙◌}
use mathlib.Core.List.{List, [], ◌++◌, append_assoc, append-nil}
use Prim.Native.Nat.{ℕ, ◌+◌, ◌≤◌}
use native.Mathlib.Omega.{arith}
use lib.ListN.{length, take, drop, length-append, length-map, length-drop, take-append-drop}
use lib.Seq.{take_at, drop_at, drop-length, length-take-le}
use Rattle.model.specs.Word.{Word, byte, inverse}
use Rattle.model.specs.Presentation.{Presentation}
use Rattle.model.specs.Plain.{plain_program}
use Rattle.model.specs.Range.{LetterInRange, Lettered, ProgramInRange}
use Rattle.theory.proofs.Letters.{all_append, inverse_lettered}
use Rattle.model.specs.Areas.{written}
use Rattle.model.specs.Images.{most_size}
use Rattle.engine.specs.Gap.{letters, word_at, Searched}
use Rattle.engine.specs.Words.{Inverted}
use Rattle.engine.proofs.Letters.{letters_append}
use Rattle.cells.specs.Stands.{Serves, Of}
use Rattle.loading.proofs.Programs.{byte_letters}

-- an area in which a word was inverted behind a place is as long as it was
pub whole_length : (before : List ℕ) (kept count : ℕ) (part after : List ℕ) → kept ≤ length before → after ≡ take kept before ++ part
    → Inverted (drop kept before) count part → length after ≡ length before
whole_length before kept count part after inside put i =
    ap length put ∙ (length-append (take kept before) part
    ∙ omega (arith, length-take-le kept before inside, i.same_length, length-drop kept before, inside))

-- the inverse of w stands from `right` on, then v, up to the end
module _ (size : ℕ) (few : size ≤ most_size) (w v : Word) (pw : ProgramInRange size w) (pv : ProgramInRange size v) (start turned : List ℕ) (right m n : ℕ)
    (wm : length w ≡ m) (vn : length v ≡ n)
    (fit : right + (m + n) ≡ length start) (part : List ℕ) (i : Inverted (drop right (written start right (plain_program w))) m part)
    (t : turned ≡ take right (written start right (plain_program w)) ++ part) where
  plain_long : (x : Word) → length (plain_program x) ≡ length x
  plain_long x = length-map x byte

  front_long : length (take right start) ≡ right
  front_long = length-take-le right start (omega (arith, fit))

  behind : drop right (written start right (plain_program w)) ≡ plain_program w ++ drop (right + length (plain_program w)) start
  behind = drop_at (take right start) (plain_program w ++ drop (right + length (plain_program w)) start) right front_long

  kept_front : take right (written start right (plain_program w)) ≡ take right start
  kept_front = take_at (take right start) (plain_program w ++ drop (right + length (plain_program w)) start) right front_long

  turned_is : turned ≡ take right start ++ part
  turned_is = t ∙ ap (λ l. l ++ part) kept_front

  part_long : length part ≡ m + n
  part_long = i.same_length ∙ ap length behind ∙ length-append (plain_program w) (drop (right + length (plain_program w)) start)
      ∙ omega (arith, plain_long w, wm, length-drop (right + length (plain_program w)) start, fit)

  pub turned_long : length turned ≡ length start
  turned_long = ap length turned_is ∙ length-append (take right start) part ∙ omega (arith, front_long, part_long, fit)

  inverted_word : letters (take m part) ≡ inverse w
  inverted_word =
      i.inverted ∙ ap inverse
      (ap (λ l. letters (take m l)) behind ∙ ap letters (take_at (plain_program w) (drop (right + length (plain_program w)) start) m (plain_long w ∙ wm))
      ∙ byte_letters size few w pw.letters)

  -- the bytes from `right` on, once the second program stands behind
  both_bytes : drop right (written turned (right + m) (plain_program v)) ≡ take m part ++ plain_program v
  both_bytes =
      ap (drop right) (append_shape)
      ∙ drop_at (take right start) (take m part ++ plain_program v) right front_long
    where
      first_part : take (right + m) turned ≡ take right start ++ take m part
      first_part =
          ap (take (right + m)) (turned_is ∙ ap (λ l. take right start ++ l) (sym (take-append-drop m part))
          ∙ sym (append_assoc (take right start) (take m part) (drop m part)))
          ∙ take_at (take right start ++ take m part) (drop m part) (right + m)
          (length-append (take right start) (take m part) ∙ omega (arith, front_long, length-take-le m part (omega (arith, part_long))))

      nothing_behind : drop (right + m + length (plain_program v)) turned ≡ []
      nothing_behind = ap (λ k. drop k turned) {x = right + m + length (plain_program v)} {y = length turned}
          (omega (arith, plain_long v, vn, turned_long, fit))
          ∙ drop-length turned

      append_shape : written turned (right + m) (plain_program v) ≡ take right start ++ (take m part ++ plain_program v)
      append_shape =
          ap (λ l. l ++ (plain_program v ++ drop (right + m + length (plain_program v)) turned)) first_part
          ∙ ap (λ l. (take right start ++ take m part) ++ (plain_program v ++ l)) nothing_behind
          ∙ ap (λ l. (take right start ++ take m part) ++ l) (append-nil (plain_program v))
          ∙ append_assoc (take right start) (take m part) (plain_program v)

  pub both_letters : letters (drop right (written turned (right + m) (plain_program v))) ≡ inverse w ++ v
  both_letters =
      ap letters both_bytes ∙ letters_append (take m part) (plain_program v) ∙ ap (λ x. x ++ letters (plain_program v)) inverted_word
      ∙ ap (λ x. inverse w ++ x) (byte_letters size few v pv.letters)

-- the word that is reversed, with the gap at the workspace's start
module _ (cells : List ℕ) (size : ℕ) (T : Presentation) (o : Of cells size T) (w v : Word) (pw : ProgramInRange size w) (pv : ProgramInRange size v)
    (bytes : List ℕ) (right : ℕ) (inside : right ≤ length bytes)
    (is : letters (drop right bytes) ≡ inverse w ++ v) where
  pub word_is : word_at bytes 0 right ≡ inverse w ++ v
  unfolding word_at
  word_is = is

  pub word_searched : Searched bytes 0 right
  word_searched = record { ordered = omega arith; inside = omega (arith, inside); none_before = λ p s a b e. omega arith }

  pub word_served : Serves cells (word_at bytes 0 right) T
  word_served = record {
    stands = o.stands;
    lettered = rw word_is (subst (λ n. Lettered n (inverse w ++ v)) (sym o.sized)
        (all_append (LetterInRange size) (inverse w) v (inverse_lettered size w pw.letters) pv.letters));
  }
