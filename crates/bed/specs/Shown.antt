-- What the struct of src/moves.rt holds of a bed of the model, and what is written of it.
use Rattle.std.specs.Prelude.{List, ◌≡◌, ℕ, ◌-◌, ◌≤◌, ◌<◌, length, take, ℤ}
use Rattle.std.specs.declared.result.Result.{Result}
use Rattle.model.specs.declared.answers.Refusal.{Refusal}
use Rattle.model.specs.Word.{Letter, Word, byte}
use Rattle.model.specs.Range.{LetterInRange}
use Rattle.model.specs.Enumeration.{pairs}
use Rattle.model.specs.Outcome.{Outcome, answered, mapped}
use Rattle.model.specs.Images.{read_program}
use Rattle.model.specs.Services.{fitted}
use Rattle.model.specs.Areas.{begins, output_after}
use Rattle.model.specs.Stated.{packed_as}
use Rattle.model.specs.Bed.{Bed, Sound, crossed, moved, bed_after, bed_bytes}
use Rattle.model.specs.Plain.{most_letters}
use Rattle.bed.specs.declared.moves.Bed.{Bed as BedStruct}

-- it has the bed's places, and its first bobbins and totals are those of the bed
pub record Shows (v : BedStruct) (B : Bed) : Type 0 where
  pub places : v.places ≡ length B.bobbins
  pub bobbins : take (length B.bobbins) v.bobbins ≡ B.bobbins
  pub totals : take (length B.totals) v.totals ≡ B.totals

-- a bed to which one move more can be added
pub record Shown (v : BedStruct) (B : Bed) : Type 0 where
  pub shows : Shows v B
  pub c : ℕ
  pub sound : Sound v.places c B
  pub few : c < most_letters
  pub small : v.places ≤ 17

pub record Crosses (v : BedStruct) (i : ℕ) : Type 0 where
  pub bed : Bed
  pub shown : Shown v bed
  pub low : 1 ≤ i
  pub high : i < v.places

abbrev pub CrossedBy : BedStruct → ℕ → ℤ → BedStruct → Type 0
CrossedBy v i d r = (B : Bed) → Shown v B → Shows r (crossed (i - 1) d B)

pub record Moves (v : BedStruct) (x : ℕ) : Type 0 where
  pub bed : Bed
  pub shown : Shown v bed
  pub letter : Letter
  pub byte_is : byte letter ≡ x
  pub named : LetterInRange (v.places - 1) letter

abbrev pub MovedBy : BedStruct → ℕ → BedStruct → Type 0
MovedBy v x r = (letter : Letter) → byte letter ≡ x → LetterInRange (v.places - 1) letter → (B : Bed) → Shown v B → Shows r (moved letter B)

-- the area begins with the bytes of the bed that the struct shows
abbrev pub BedWritten : BedStruct → List ℕ → List ℕ → Type 0
BedWritten v before after = (B : Bed) → Shows v B → length B.totals ≡ length (pairs v.places) → after ≡ begins (bed_bytes B) before

-- the first `made` letters of a word of so many are its first `moves`, or all where it has no more
pub record Made (count moves made : ℕ) : Type 0 where
  pub few : made ≤ count
  pub first : (w : Word) → length w ≡ count → take made w ≡ take moves w

-- the result and the answer area that an outcome states
pub record Answers (outcome : Outcome (List ℕ)) (before after : List ℕ) (r : Result ℕ Refusal) : Type 0 where
  pub result : packed_as r ≡ mapped length outcome
  pub area : after ≡ output_after (λ b. b) outcome before

-- .. of an accepted program
abbrev pub ProgramAnswered : List ℕ → ℕ → ℕ → List ℕ → List ℕ → Result ℕ Refusal → Type 0
ProgramAnswered program size moves before after r =
    (w : Word) → read_program size program ≡ answered w → Answers (fitted (length before) (bed_bytes (bed_after size moves w))) before after r
