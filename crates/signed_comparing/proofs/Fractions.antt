-- N and D as a finished reversing leaves them.
use mathlib.Core.Path.{◌≡◌, refl, sym, ap, subst, ◌∙◌}
use mathlib.Core.List.{List, ◌++◌}
use Prim.Native.Nat.{ℕ, ◌+◌, ◌-◌}
use native.Mathlib.Omega.{arith}
use lib.ListN.{length, take, drop, length-append, length-drop}
use lib.Seq.{take_at, drop_at, take-add, length-take-le}
use Rattle.model.specs.Word.{Word, Positive, positive, negative, inverse}
use Rattle.model.specs.Presentation.{Presentation}
use Rattle.model.specs.Range.{LetterInRange, Lettered}
use Rattle.theory.proofs.Letters.{all_first, all_second, lettered_positive, inverse_lettered}
use Rattle.engine.specs.Gap.{letters}
use Rattle.engine.specs.Words.{Inverted, Moved}
use Rattle.engine.proofs.Letters.{letters_append, letters_forward, length_letters}
use Rattle.engine.proofs.Lettering.{length_positive}
use Rattle.reversal.proofs.Fractions.{inverse_inverse}
use Rattle.sets.specs.Room.{AtEnds}
use Rattle.signed_comparing.specs.Weight.{Stand}
use Rattle.signed_comparing.specs.Fraction.{Left}

-- two words whose first parts are equally long, one after the other
split : (x y u v : Word) → x ++ y ≡ u ++ v → length x ≡ length u → (x ≡ u) × (y ≡ v)
split x y u v e h = (
  sym (take_at x y (length u) h) ∙ ap (take (length u)) e ∙ take_at u v (length u) refl,
  sym (drop_at x y (length u) h) ∙ ap (drop (length u)) e ∙ drop_at u v (length u) refl,
)

-- N stands first, and D behind it once its inverse was inverted
module _ (cells before : List ℕ) (numerator denominator : ℕ) (T : Presentation) (n d : Positive) (l : Left cells before numerator denominator T n d)
    (part after : List ℕ) (i : Inverted (drop numerator before) denominator part) (put : after ≡ take numerator before ++ part) where
  front_long : length (take numerator before) ≡ numerator
  front_long = length-take-le numerator before (omega (arith, l.inside))

  both : letters (take numerator before) ++ letters (take denominator (drop numerator before)) ≡ positive n ++ negative d
  both = sym (letters_append (take numerator before) (take denominator (drop numerator before))) ∙ ap letters (sym (take-add numerator denominator before))
      ∙ l.word

  parts : (letters (take numerator before) ≡ positive n) × (letters (take denominator (drop numerator before)) ≡ negative d)
  parts = split (letters (take numerator before)) (letters (take denominator (drop numerator before))) (positive n) (negative d) both
      (length_letters (take numerator before) ∙ front_long ∙ sym (length_positive n ∙ l.n_long))

  first_bytes : take numerator before ≡ n
  first_bytes = letters_forward (take numerator before) n parts.0

  part_long : length part ≡ length before - numerator
  part_long = i.same_length ∙ length-drop numerator before

  second_bytes : take denominator part ≡ d
  second_bytes = letters_forward (take denominator part) d (i.inverted ∙ ap inverse parts.1 ∙ inverse_inverse (positive d))

  pub after_long : length after ≡ length before
  after_long = ap length put ∙ length-append (take numerator before) part ∙ omega (arith, front_long, part_long, l.inside)

  behind : drop numerator after ≡ part
  behind = ap (drop numerator) put ∙ drop_at (take numerator before) part numerator front_long

  first_after : take numerator after ≡ n
  first_after = ap (take numerator) put ∙ take_at (take numerator before) part numerator front_long ∙ first_bytes

  second_after : take denominator (drop numerator after) ≡ d
  second_after = ap (take denominator) behind ∙ second_bytes

  n_lettered : Lettered T.size (positive n)
  n_lettered = all_first (LetterInRange T.size) (positive n) (negative d) l.named

  d_lettered : Lettered T.size (positive d)
  d_lettered = subst (Lettered T.size) (inverse_inverse (positive d))
      (inverse_lettered T.size (negative d) (all_second (LetterInRange T.size) (positive n) (negative d) l.named))

  pub two_words : Stand cells after numerator (numerator + denominator) T n d
  two_words = record {
    stands = l.stands;
    ordered = omega arith;
    inside = omega (arith, l.inside, after_long);
    u_is = first_after;
    v_is = ap (λ k. take k (drop numerator after)) {x = numerator + denominator - numerator} {y = denominator} (omega arith) ∙ second_after;
    u_named = lettered_positive T.size n n_lettered;
    v_named = lettered_positive T.size d d_lettered;
  }

  -- D moved to the workspace's end
  module _ (moved : List ℕ) (m : Moved after numerator denominator moved) where
    pub at_ends : AtEnds cells moved numerator denominator T n d
    at_ends = record {
      stands = l.stands;
      fit = omega (arith, l.inside, after_long, m.same_length);
      u_is = m.kept ∙ first_after;
      v_is = letters_forward (drop (length moved - denominator) moved) d (m.moved ∙ ap letters second_after ∙ positive_letters);
      u_named = n_lettered;
      v_named = d_lettered;
    }
      where
        positive_letters : letters d ≡ positive d
        positive_letters = ap letters (sym second_bytes) ∙ i.inverted ∙ ap inverse parts.1 ∙ inverse_inverse (positive d)
