-- The letters of an accepted program, one by one. What the forward test and the unpacking of a program make of them.
use mathlib.Core.Path.{◌≡◌, refl, sym, ap, subst, ◌∙◌}
use mathlib.Core.List.{List, ◌++◌, append_assoc}
use Prim.Native.Nat.{ℕ, ◌^◌, ◌+◌, ◌*◌, ◌/◌, ◌%◌, ◌≤◌, ◌<◌}
use native.Mathlib.Omega.{arith}
use native.Mathlib.Numerals.{add-one}
use native.Mathlib.Nat.{mul-le-mul_left, add-mul, one-mul}
use lib.ListN.{length, take, drop, set, get_or, length-map, get_or-map}
use lib.Seq.{paste, paste-suc, take_all}
use Rattle.model.specs.Word.{forward, Word, byte}
use Rattle.model.specs.Outcome.{unplaced, answered, refused}
use Rattle.model.specs.Bits.{letter_width}
use Rattle.model.specs.Images.{signed_field, read_program, count_width, most_size, size_width}
use Rattle.model.specs.Plain.{plain_program}
use Rattle.bits.proofs.Width.{width_small}
use Rattle.std.specs.Prelude.{Ok, Err}
use Rattle.std.specs.Result.{IsOk}
use Rattle.std.specs.declared.result.Result.{Result}
use Rattle.images.specs.Fields.{from, fault_code}
use Rattle.images.specs.Programs.{SignedAt, SignedDone, Accepted, HasLetter}
use Rattle.std.specs.Prelude.{Some, None}
use Rattle.std.specs.Option.{IsSome}
use Rattle.std.specs.declared.option.Option.{Option}
use Rattle.images.specs.BitReader.{TakenAt, TakenDone}
use Rattle.images.specs.Widths.{WidthOf}
use Rattle.images.proofs.Reading.{from_from}
use Rattle.images.proofs.Signed.{signed_short, sign_small, number_small, signed_taken, signed_known}
use Rattle.images.specs.declared.fields.FieldFault.{FieldFault}
use Rattle.images.specs.declared.programs.SignedLetter.{SignedLetter}
use Rattle.model.specs.Areas.{written}
use Rattle.model.proofs.Impossible.{same_answer}
use Rattle.images.proofs.RoundTrip.{program_in_range}
use Rattle.images.proofs.Placed.{letter_placed, letter_inside}

pub near : (i width : ℕ) → i < 2 ^ count_width → width ≤ size_width → i * (1 + width) ≤ 2 ^ count_width * (1 + size_width)
near i width h l =
    let l : 1 + width ≤ 5 = omega arith in
    let m : i * (1 + width) ≤ i * 5 = mul-le-mul_left i l in
    omega arith

module _ (image : List ℕ) (size width i : ℕ) (p : HasLetter image size width i) where
  pub index_small : i < 2 ^ count_width
  index_small = omega (arith, p.inside, (program_in_range size p.few image p.word p.read).short)

  stands : (w : Word) → read_program size image ≡ answered w
      → signed_field size (from image (count_width + i * (1 + width))) ≡ answered
      (record { value = get_or w i (forward 0); rest = from image (count_width + i * (1 + width) + (1 + width)) })
  stands w e =
      let l : i < length w = subst (λ w. i < length w) (same_answer p.word w (sym p.read ∙ e)) p.inside in
      subst (λ k. signed_field size (from image (count_width + i * (1 + k))) ≡ answered
      (record { value = get_or w i (forward 0); rest = from image (count_width + i * (1 + k) + (1 + k)) }))
      (sym p.width_is) (letter_placed size p.few image w e i l (forward 0))

  pub ends_inside : count_width + i * (1 + width) + (1 + width) ≤ 8 * length image
  ends_inside =
      subst (λ k. count_width + i * (1 + k) + (1 + k) ≤ 8 * length image) (sym p.width_is)
      (letter_inside size p.few image p.word p.read i p.inside)

  pub letter_answer : (sign number : ℕ) (next : List ℕ) → SignedAt (from image (count_width + i * (1 + width))) size sign number next
      → (w : Word) → read_program size image ≡ answered w → sign * 128 + number ≡ byte (get_or w i (forward 0))
  letter_answer sign number next s w e =
      sym s.written ∙ ap (λ r. byte r.value)
      (same_answer _ (record { value = get_or w i (forward 0); rest = from image (count_width + i * (1 + width) + (1 + width)) }) (sym s.read ∙ stands w e))

  pub letter_stands : (n : ℕ) → signed_field size (from image (count_width + i * (1 + width))) ≡ refused n unplaced → ⊥
  letter_stands n e =
      let a = stands p.word p.read in
      let z : ◌≡◌ {A = ℕ} 0 1 = cc in omega arith

  -- so that reading there gives a letter
  pub letter_there : (r : Result SignedLetter FieldFault) (next : List ℕ) → SignedDone (from image (count_width + i * (1 + width))) size r next → IsOk r
  letter_there (Ok x) next s = refl
  letter_there (Err f) next s = absurd (letter_stands (fault_code 4 5 f) s.0)

  -- .. and a field taken there has its sign and its number
  wide : WidthOf size width
  wide = record { few = p.few; narrow = p.narrow; width_is = p.width_is }

  pub field_there : (o : Option ℕ) (next : List ℕ) → TakenDone (from image (count_width + i * (1 + width))) (1 + width) o next → IsSome o
  field_there (Some v) next t = refl
  field_there None next short = absurd (letter_stands 4 (signed_short size width wide (from image (count_width + i * (1 + width))) short.0))

  module _ (v : ℕ) (next : List ℕ) (t : TakenAt (from image (count_width + i * (1 + width))) (1 + width) v next) where
    pub sign_below : v / 2 ^ width < 2
    sign_below = sign_small size width wide (from image (count_width + i * (1 + width))) v next t

    pub number_below : v % 2 ^ width < most_size
    number_below = number_small size width wide (from image (count_width + i * (1 + width))) v next t

    pub field_answer : (w : Word) → read_program size image ≡ answered w → v / 2 ^ width * 128 + v % 2 ^ width + 1 ≡ byte (get_or w i (forward 0))
    field_answer w e =
        omega (
          arith,
          letter_answer (v / 2 ^ width) (v % 2 ^ width + 1) next
              (signed_taken size width wide (from image (count_width + i * (1 + width))) v next t
              (signed_known size width wide (from image (count_width + i * (1 + width))) v next t (letter_stands 5))) w e,
        )

-- the bits behind a letter are those of the next
pub next_letter_bits : (image : List ℕ) (width i : ℕ) (v : ℕ) (next : List ℕ) → TakenAt (from image (count_width + i * (1 + width))) (1 + width) v next
    → next ≡ from image (count_width + (i + 1) * (1 + width))
next_letter_bits image width i v next t =
    t.after_is
    ∙ (from_from image (count_width + i * (1 + width)) (1 + width) ∙ ap (from image) (omega (arith, add-mul i 1 (1 + width), one-mul (1 + width))))

-- the letter numbered i of an accepted program
pub has_letter : (image : List ℕ) (size count width i : ℕ) → Accepted image size count → width ≡ letter_width size → i < count → HasLetter image size width i
has_letter image size count width i a e h =
    record {
      some = a.some;
      few = a.few;
      narrow = subst (λ n. n ≤ size_width) (sym e) (width_small size);
      width_is = e;
      word = a.program.word;
      read = a.program.read;
      inside = omega (arith, a.program.count_is);
    }

pub count_small : (image : List ℕ) (size count : ℕ) → Accepted image size count → count < 2 ^ count_width
count_small image size count a =
    omega (arith, a.program.count_is, (program_in_range size a.few image a.program.word a.program.read).short)

pub count_of : (image : List ℕ) (size count : ℕ) → Accepted image size count → (w : Word) → read_program size image ≡ answered w → length w ≡ count
count_of image size count a w e = ap length (same_answer w a.program.word (sym e ∙ a.program.read)) ∙ a.program.count_is

-- UNPACKING

pub unpack_more : (area : List ℕ) (at : ℕ) (w : Word) (i : ℕ) → at + length w ≤ length area → i < length w
    → set (paste area at (plain_program w) i) (at + i) (byte (get_or w i (forward 0))) ≡ paste area at (plain_program w) (i + 1)
unpack_more area at w i inside h =
    ap (set (paste area at (plain_program w) i) (at + i)) (sym (get_or-map byte w i (forward 0)))
    ∙ (paste-suc area at (plain_program w) i 0 (omega arith) (omega (arith, length-map w byte)) ∙ ap (paste area at (plain_program w)) (sym (add-one i)))

pub unpack_all : (area : List ℕ) (at : ℕ) (w : Word) (i : ℕ) → length w ≡ i → paste area at (plain_program w) i ≡ written area at (plain_program w)
unpack_all area at w i l =
    let n : length (plain_program w) ≡ i = length-map w byte ∙ l in
    ap (λ bytes. take at area ++ bytes ++ drop (at + i) area) (take_all i (plain_program w) (omega arith))
    ∙ (append_assoc (take at area) (plain_program w) (drop (at + i) area)
    ∙ ap (λ k. take at area ++ (plain_program w ++ drop (at + k) area)) (sym n))
