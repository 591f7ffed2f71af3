-- The bytes of a bed in the answer area, and the outcome that they are.
use mathlib.Core.Path.{◌≡◌, sym, ap, ap₂, subst, ◌∙◌}
use mathlib.Core.List.{List, ◌++◌}
use Prim.Native.Nat.{ℕ, suc, ◌+◌, ◌*◌, ◌≤◌, ◌<◌}
use native.Mathlib.Omega.{arith}
use native.Mathlib.Nat.{mul-le-mul_left}
use lib.ListN.{length, take, length-append}
use Rattle.model.specs.declared.answers.Refusal.{Refusal}
use Rattle.model.specs.declared.answers.Refusal.TheVariants.{AnswerShort}
use Rattle.std.proofs.Common.{Ok, Err}
use Rattle.model.specs.Word.{Word}
use Rattle.model.specs.Enumeration.{concat_map, pairs}
use Rattle.model.specs.Outcome.{Outcome, answered, mapped}
use Rattle.model.specs.Services.{fitted}
use Rattle.model.specs.Areas.{begins, output_after}
use Rattle.model.specs.Stated.{refusal}
use Rattle.model.specs.Bed.{Bed, Sound, laid, first_bed, bed_after, total_bytes, bed_bytes}
use Rattle.model.proofs.Fitted.{short_area, long_area}
use Rattle.model.proofs.Positions.{pairs_many, pairs_square}
use Rattle.model.proofs.Beds.{first_sound, laid_sound}
use Rattle.bed.specs.declared.moves.Bed.{Bed as BedStruct}
use Rattle.bed.specs.Shown.{Shows, BedWritten, Made, Answers}
use Rattle.bed.proofs.TwoBytes.{bytes_length}

-- THE AREA

-- what a struct holds of a bed, written out
pub bed_written : (v : BedStruct) (count : ℕ) (old after : List ℕ) → count ≡ length (pairs v.places)
    → after ≡ begins (take v.places v.bobbins ++ concat_map total_bytes (take count v.totals)) old → BedWritten v old after
bed_written v count old after many e B s m =
    e
    ∙ ap (λ bytes. begins bytes old)
    (ap₂ (λ bs ts. bs ++ concat_map total_bytes ts) (ap (λ n. take n v.bobbins) s.places ∙ s.bobbins)
    (ap (λ n. take n v.totals) (many ∙ sym m) ∙ s.totals))

-- SQUARES

-- m places fit where m times m do
pub fits_once : (m k : ℕ) → 1 ≤ m → m * m ≤ k → m ≤ k
fits_once m k low h = omega (arith, mul-le-mul_left m low)

-- THE OUTCOME

-- a bed after moves has a place more than there are letters
pub laid_places : (v : BedStruct) (size : ℕ) (w : Word) → Shows v (laid w (first_bed size)) → v.places ≡ size + 1
laid_places v size w s = omega (arith, s.places, (laid_sound (suc size) 0 w (first_bed size) (first_sound size)).places)

pub bed_length : (m c : ℕ) (B : Bed) → Sound m c B → length (bed_bytes B) ≡ m * m
bed_length m c B s =
    length-append B.bobbins (concat_map total_bytes B.totals)
    ∙ omega (arith, s.places, bytes_length B.totals, s.many, pairs_many m, pairs_square m)

module _ (outcome : Outcome (List ℕ)) (before : List ℕ) where
  pub refused_answers : (r : Refusal) → outcome ≡ refusal r → Answers outcome before before (Err r)
  refused_answers r e = record { result = ap (mapped length) (sym e); area = ap (λ o. output_after (λ b. b) o before) (sym e) }

  pub written_answers : (bytes after : List ℕ) (k : ℕ) → outcome ≡ answered bytes → length bytes ≡ k → after ≡ begins bytes before
      → Answers outcome before after (Ok k)
  written_answers bytes after k e n w =
      record { result = ap answered (sym n) ∙ ap (mapped length) (sym e); area = w ∙ ap (λ o. output_after (λ b. b) o before) (sym e) }

module _ (size moves : ℕ) (w : Word) (before : List ℕ) where
  sound : (places : ℕ) → size + 1 ≡ places → Sound places (length (take moves w) + 0) (bed_after size moves w)
  sound places e = subst (λ m. Sound m (length (take moves w) + 0) (bed_after size moves w)) {x = suc size} {y = places} (omega arith)
      (laid_sound (suc size) 0 (take moves w) (first_bed size) (first_sound size))

  module _ (places : ℕ) (e : size + 1 ≡ places) where
    long : length (bed_bytes (bed_after size moves w)) ≡ places * places
    long = bed_length places (length (take moves w) + 0) (bed_after size moves w) (sound places e)

    pub bed_short : length before < places * places → Answers (fitted (length before) (bed_bytes (bed_after size moves w))) before before (Err AnswerShort)
    bed_short h =
        refused_answers (fitted (length before) (bed_bytes (bed_after size moves w))) before AnswerShort
        (short_area (length before) (bed_bytes (bed_after size moves w)) (omega (arith, long)))

    pub bed_answers : places * places ≤ length before → (count made : ℕ) → length w ≡ count → Made count moves made
        → (v : BedStruct) → Shows v (laid (take made w) (first_bed size)) → (after : List ℕ) → BedWritten v before after
        → Answers (fitted (length before) (bed_bytes (bed_after size moves w))) before after (Ok (places * places))
    bed_answers h count made n t v s after b =
        let k = sound places e in
        let shown = subst (λ u. Shows v (laid u (first_bed size))) (t.first w n) s in
        written_answers (fitted (length before) (bed_bytes (bed_after size moves w))) before (bed_bytes (bed_after size moves w)) after (places * places)
        (long_area (length before) (bed_bytes (bed_after size moves w)) (omega (arith, long))) long
        (b (bed_after size moves w) shown (k.many ∙ ap (λ m. length (pairs m)) (sym k.places ∙ sym shown.places)))
