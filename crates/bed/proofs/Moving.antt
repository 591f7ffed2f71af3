-- The first bed, a move by its byte, and the moves of a program one after the other.
use mathlib.Core.Path.{◌≡◌, refl, sym, ap, subst, ◌∙◌}
use mathlib.Core.List.{List, [], ◌∷◌}
use Prim.Native.Nat.{ℕ, zero, suc, ◌+◌, ◌-◌, ◌≤◌, ◌<◌}
use native.Mathlib.Omega.{arith}
use lib.ListN.{length, take, get_or, replicate, length-replicate}
use lib.Seq.{take-suc, length-take-le}
use lib.IntN.{ℤ, pos}
use Rattle.model.specs.Word.{forward, Word, byte}
use Rattle.model.specs.Range.{LetterInRange, Lettered}
use Rattle.model.specs.Enumeration.{range, pairs}
use Rattle.model.specs.Outcome.{answered}
use Rattle.model.specs.Images.{read_program, most_size}
use Rattle.model.specs.Bed.{Sound, first_bed, laid}
use Rattle.model.proofs.Positions.{pairs_many, pairs_few}
use Rattle.model.proofs.Beds.{range_length, first_sound, laid_sound, laid_append}
use Rattle.images.proofs.RoundTrip.{program_in_range}
use Rattle.model.specs.Plain.{most_letters}
use Rattle.bed.specs.declared.moves.Bed.{Bed as BedStruct}
use Rattle.bed.specs.Shown.{Shows, Shown, Moves, MovedBy}

-- THE FIRST BED

range_front : (from k m : ℕ) → k ≤ m → take k (range from m) ≡ range from k
range_front from zero m h = refl
range_front from (suc k) zero h = absurd (omega arith)
range_front from (suc k) (suc m) h = ap (λ l. from ∷ l) (range_front (suc from) k m (omega arith))

copies_front : (z : ℤ) (k m : ℕ) → k ≤ m → take k (replicate m z) ≡ replicate k z
copies_front z zero m h = refl
copies_front z (suc k) zero h = absurd (omega arith)
copies_front z (suc k) (suc m) h = ap (λ l. z ∷ l) (copies_front z k m (omega arith))

pub first_shows : (n : ℕ) → n ≤ most_size → Shows (record { places = n + 1; bobbins = range 1 17; totals = replicate 136 (pos 0) }) (first_bed n)
first_shows n h =
    record {
      places = omega (arith, range_length 1 (suc n));
      bobbins = ap (λ k. take k (range 1 17)) (range_length 1 (suc n)) ∙ range_front 1 (suc n) 17 (omega arith);
      totals =
          ap (λ k. take k (replicate 136 (pos 0))) (length-replicate (length (pairs (suc n))) (pos 0))
          ∙ copies_front (pos 0) (length (pairs (suc n))) 136 (omega (arith, pairs_many (suc n), pairs_few (suc n) (omega arith)));
    }

-- THE MOVES OF A PROGRAM

letter_of : (n : ℕ) (w : Word) (i : ℕ) → i < length w → Lettered n w → LetterInRange n (get_or w i (forward 0))
letter_of n [] i h l = absurd (omega arith)
letter_of n (x ∷ w) zero h l = l.0
letter_of n (x ∷ w) (suc i) h l = letter_of n w i (omega arith) l.1

module _ (program : List ℕ) (size : ℕ) (few : size ≤ most_size) (w : Word) (read : read_program size program ≡ answered w) (i : ℕ) (h : i < length w) where
  short : length w ≤ most_letters
  short = omega (arith, (program_in_range size few program w read).short)

  done : length (take i w) ≡ i
  done = length-take-le i w (omega arith)

  module _ (v : BedStruct) (shows : Shows v (laid (take i w) (first_bed size))) where
    sound : Sound (suc size) (length (take i w) + 0) (laid (take i w) (first_bed size))
    sound = laid_sound (suc size) 0 (take i w) (first_bed size) (first_sound size)

    all : v.places ≡ suc size
    all = shows.places ∙ sound.places

    so_far : Shown v (laid (take i w) (first_bed size))
    so_far =
        record {
          shows = shows;
          c = length (take i w) + 0;
          sound = subst (λ m. Sound m (length (take i w) + 0) (laid (take i w) (first_bed size))) (sym all) sound;
          few = omega (arith, done, short);
          small = omega (arith, all);
        }

    named : LetterInRange (v.places - 1) (get_or w i (forward 0))
    named = subst (λ n. LetterInRange n (get_or w i (forward 0))) {x = size} {y = v.places - 1} (omega (arith, all))
        (letter_of size w i h (program_in_range size few program w read).letters)

    pub next_moves : (x : ℕ) → x ≡ byte (get_or w i (forward 0)) → Moves v x
    next_moves x e = record { bed = laid (take i w) (first_bed size); shown = so_far; letter = get_or w i (forward 0); byte_is = sym e; named = named }

    pub next_shows : (x : ℕ) → x ≡ byte (get_or w i (forward 0)) → (r : BedStruct) → MovedBy v x r → Shows r (laid (take (i + 1) w) (first_bed size))
    next_shows x e r m =
        subst (Shows r)
        (sym
        (ap (λ k. laid (take k w) (first_bed size)) {x = i + 1} {y = suc i} (omega arith)
        ∙ (ap (λ u. laid u (first_bed size)) (take-suc w i (forward 0) h) ∙ laid_append (take i w) (get_or w i (forward 0) ∷ []) (first_bed size))))
        (m (get_or w i (forward 0)) (sym e) named (laid (take i w) (first_bed size)) so_far)
