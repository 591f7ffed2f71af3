-- Two listed words copied to the room behind the listed ones, and reversed there.
use mathlib.Core.Path.{◌≡◌, refl, sym, ap, subst, ◌∙◌}
use mathlib.Core.List.{List, [], ◌∷◌, ◌++◌, append-nil}
use Prim.Native.Nat.{ℕ, zero, suc, ◌+◌, ◌-◌, ◌≤◌}
use native.Mathlib.Omega.{arith}
use lib.ListN.{length, take, drop, length-append, length-drop, drop_of_length-le}
use lib.Seq.{take-take, take-append-le, take_at, drop_at, drop-drop, length-take-le}
use Rattle.areas.proofs.Parts.{part_back}
use borrow.Rule.Slice.PartMut.{put_mid}
use Rattle.model.specs.Areas.{begins}
use Rattle.model.specs.Word.{Positive, positive, negative, inverse}
use Rattle.model.specs.Presentation.{Presentation}
use Rattle.model.specs.declared.answers.Ending.{Ending as EndingAnswer}
use Rattle.cells.specs.Stands.{Serves}
use Rattle.engine.specs.Gap.{letters, word_at, Searched}
use Rattle.engine.specs.Run.{Reverses}
use Rattle.engine.specs.Words.{Inverted}
use Rattle.engine.proofs.Loads.{loaded, load_searched, load_serves}
use Rattle.engine.proofs.Lettering.{letters_positive}
use Rattle.swaps.proofs.Putting.{word_length}
use Rattle.sets.specs.declared.words.Span.{Span}
use Rattle.sets.specs.Words.{spanned}
use Rattle.sets.specs.Room.{Fit, Loaded, AtEnds}

-- a part of the first bytes
pub part_of_front : (xs : List ℕ) (from count k : ℕ) → from + count ≤ k → take count (drop from (take k xs)) ≡ take count (drop from xs)
part_of_front xs zero count k h = take-take count k xs (omega arith)
part_of_front xs (suc from) count zero h = absurd (omega arith)
part_of_front [] (suc from) count (suc k) h = refl
part_of_front (x ∷ xs) (suc from) count (suc k) h = part_of_front xs from count k (omega arith)

module _ (listing room mid part after : List ℕ) (u v : Span) (f : Fit listing room u v) (to_start : mid ≡ begins (spanned u listing) room)
    (to_end : part ≡ begins (spanned v listing) (take (length mid - (length mid - v.letters)) (drop (length mid - v.letters) mid)))
    (is : after ≡ put_mid (length mid - v.letters) (length mid - (length mid - v.letters)) mid part) where
  abbrev first : List ℕ
  first = spanned u listing

  abbrev second : List ℕ
  second = spanned v listing

  abbrev end : ℕ
  end = length mid - v.letters

  first_length : length first ≡ u.letters
  first_length = word_length listing u.at u.letters f.u_before

  second_length : length second ≡ v.letters
  second_length = word_length listing v.at v.letters f.v_before

  mid_length : length mid ≡ length room
  mid_length =
      ap length to_start ∙ (length-append first (drop (length first) room) ∙ omega (arith, length-drop (length first) room, first_length, f.fit))

  inside : end ≤ length mid
  inside = omega arith

  part_is : part ≡ second
  part_is =
      let rest = take (length mid - end) (drop end mid) in
      to_end
      ∙ (ap (λ l. second ++ l) (drop_of_length-le rest {i = length second}
      (omega (arith, second_length, length-take-le (length mid - end) (drop end mid) (omega (arith, length-drop end mid)), mid_length, f.fit)))
      ∙ append-nil second)

  whole : after ≡ take end mid ++ second
  whole = is ∙ (part_back end mid part inside ∙ ap (λ l. take end mid ++ l) part_is)

  pub pair_loaded : Loaded listing room u v after
  pair_loaded =
      let front : length (take end mid) ≡ end = length-take-le end mid inside in
      let long : length after ≡ length mid = ap length whole ∙ (length-append (take end mid) second ∙ omega (arith, front, second_length, mid_length, f.fit)) in
      let place : length after - v.letters ≡ length mid - v.letters = omega (arith, long) in
      record {
        same_length = long ∙ mid_length;
        start =
            ap (take u.letters) whole
            ∙ (take-append-le u.letters (take end mid) second (omega (arith, front, mid_length, f.fit))
            ∙ (take-take u.letters end mid (omega (arith, mid_length, f.fit))
            ∙ (ap (take u.letters) to_start ∙ take_at first (drop (length first) room) u.letters first_length)));
        end = ap (λ k. drop k after) place ∙ (ap (drop end) whole ∙ drop_at (take end mid) second end front);
      }

-- the word at the room's start inverted: both are loaded
module _ (cells room mid : List ℕ) (left right : ℕ) (T : Presentation) (u v : Positive) (s : AtEnds cells room left right T u v)
    (i : Inverted room left mid) where
  left_word : letters (take left mid) ≡ negative u
  left_word = i.inverted ∙ ap inverse (ap letters s.u_is ∙ letters_positive T.size s.stands.few u s.u_named)

  right_word : letters (drop (length mid - right) mid) ≡ positive v
  right_word =
      let k : length mid - right ≡ left + (length room - right - left) = omega (arith, i.same_length, s.fit) in
      let j : left + (length room - right - left) ≡ length room - right = omega (arith, s.fit) in
      let e : drop (length mid - right) mid ≡ v =
      ap (λ n. drop n mid) k
      ∙ (sym (drop-drop (length room - right - left) left mid)
      ∙ (ap (drop (length room - right - left)) i.rest
      ∙ (drop-drop (length room - right - left) left room ∙ (ap (λ n. drop n room) j ∙ s.v_is)))) in
      ap letters e ∙ letters_positive T.size s.stands.few v s.v_named

  ordered : left ≤ length mid - right
  ordered = omega (arith, i.same_length, s.fit)

  pub pair_searched : Searched mid left (length mid - right)
  pair_searched = load_searched mid left (length mid - right) u v ordered (omega arith) left_word right_word

  pub pair_serves : Serves cells (word_at mid left (length mid - right)) T
  pair_serves =
      load_serves mid left (length mid - right) u v ordered (omega arith) left_word right_word s.stands s.u_named s.v_named

  pub pair_reverses : (budget : ℕ) (after : List ℕ) (r : EndingAnswer) → Reverses T (word_at mid left (length mid - right)) budget after r
      → Reverses T (negative u ++ positive v) budget after r
  pair_reverses budget after r p =
      subst (λ w. Reverses T w budget after r) (loaded mid left (length mid - right) u v ordered (omega arith) left_word right_word) p
