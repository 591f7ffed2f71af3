-- A program that was accepted, unpacked at the workspace's end: the word that is reversed.
use mathlib.Core.Path.{◌≡◌, sym, ap, ap₂, subst, ◌∙◌}
use mathlib.Core.List.{List, [], ◌∷◌, ◌++◌, map, append-nil}
use Prim.Native.Nat.{ℕ, ◌+◌, ◌-◌, ◌≤◌, ◌<◌}
use native.Mathlib.Omega.{arith}
use lib.ListN.{length, take, drop, length-append, length-take, length-drop, length-map}
use lib.Seq.{drop_at, length-take-le, drop-length}
use Rattle.model.specs.Word.{forward, back, Word, byte}
use Rattle.model.specs.Presentation.{Presentation}
use Rattle.model.specs.Reversing.{reversing, stopped, no_room}
use Rattle.model.specs.Plain.{plain_program}
use Rattle.model.specs.declared.answers.Ending.TheVariants.{Stopped}
use Rattle.model.specs.declared.answers.Stop.TheVariants.{Room}
use Rattle.model.proofs.Reversal.{reversing_long}
use Rattle.model.specs.Range.{All, LetterInRange, ProgramInRange, Lettered}
use Rattle.model.specs.Areas.{written}
use Rattle.model.specs.Images.{most_size}
use Rattle.engine.specs.Gap.{letters, word_at, Searched}
use Rattle.cells.specs.Stands.{Serves, Of}
use Rattle.engine.specs.Run.{Reverses}
use Rattle.engine.proofs.Letters.{letter_forward, letter_back, letters_cons, letters_nil}
use Rattle.cells.proofs.Rules.{of_few}

-- the bytes of letters that a table can have are those letters
pub byte_letters : (n : ℕ) → n ≤ most_size → (w : Word) → All (LetterInRange n) w → letters (map byte w) ≡ w
byte_letters n h [] p = letters_nil
byte_letters n h (forward a ∷ w) p =
    letters_cons a (map byte w) ∙ ap₂ (λ l v. l ∷ v) (letter_forward a (omega (arith, p.0.high))) (byte_letters n h w p.1)
byte_letters n h (back a ∷ w) p =
    let e : 128 + a - 128 ≡ a = omega arith in
    letters_cons (128 + a) (map byte w) ∙ ap₂ (λ l v. l ∷ v) (letter_back (128 + a) (omega arith) ∙ ap back e) (byte_letters n h w p.1)

-- at the end of an area
pub written_end : (area bytes : List ℕ) (at : ℕ) → at + length bytes ≡ length area → drop at (written area at bytes) ≡ bytes
written_end area bytes at e =
    drop_at (take at area) (bytes ++ drop (at + length bytes) area) at (length-take-le at area (omega arith))
    ∙ (ap (λ i. bytes ++ drop i area) e ∙ (ap (λ l. bytes ++ l) (drop-length area) ∙ append-nil bytes))

module _ (cells : List ℕ) (size : ℕ) (T : Presentation) (o : Of cells size T) (w : Word) (p : ProgramInRange size w)
    (area : List ℕ) (right : ℕ) (fit : right + length w ≡ length area) where
  abbrev pub ready : List ℕ
  ready = written area right (plain_program w)

  few : size ≤ most_size
  few = of_few o

  pub word_loaded : word_at ready 0 right ≡ w
  unfolding word_at
  word_loaded =
      ap letters (written_end area (map byte w) right (ap (λ k. right + k) (length-map w byte) ∙ fit)) ∙ byte_letters size few w p.letters

  ready_length : length ready ≡ length area
  ready_length =
      simp (length-append, length-take, length-drop, length-map) (omega (arith, fit))

  pub word_searched : Searched ready 0 right
  word_searched =
      record {
        ordered = omega arith;
        inside = omega (arith, ready_length, fit);
        none_before = λ p s a b e. omega arith;
      }

  pub word_served : Serves cells (word_at ready 0 right) T
  word_served =
      record {
        stands = o.stands;
        lettered = rw word_loaded (subst (λ n. Lettered n w) (sym o.sized) p.letters);
      }

-- a program longer than the workspace
pub too_long : (T : Presentation) (w : Word) (budget : ℕ) (area : List ℕ) → length area < length w → Reverses T w budget area (Stopped Room)
too_long T w budget area h =
    let e : reversing T budget (length area) w ≡ stopped no_room = reversing_long T budget (length area) w h in
    record { answer = sym (ap Rattle.model.specs.Stated.ending_answer e); holds = rw e tt; named = rw e tt }
