-- Where the letters of a program and the entries of a chain stand in an image that was accepted. Each has the same width, so its number gives
-- its place.
use mathlib.Core.Path.{◌≡◌, sym, ap, ◌∙◌}
use mathlib.Core.List.{List}
use mathlib.Core.Bool.{Bool, true, false, cond}
use Prim.Native.Nat.{ℕ, suc, ◌+◌, ◌-◌, ◌*◌, ◌≤◌, ◌<◌}
use native.Mathlib.Omega.{arith}
use lib.ListN.{length, drop, get_or, length-append}
use lib.Seq.{drop_at, drop-drop}
use Rattle.model.specs.Word.{Letter, forward, back, Word}
use Rattle.model.specs.Equivalence.{Entry}
use Rattle.model.specs.Outcome.{unplaced, Outcome, answered, refused, ◌>>=◌}
use Rattle.model.specs.Bits.{Read, field, finish, filling, bits_of, letter_width}
use Rattle.model.specs.Images.{several, signed_field, signed_bits, read_program, entry_width, entry_position, entry_field, entry_bits, read_chain, count_width}
use Rattle.model.specs.Images.{most_size}
use Rattle.model.proofs.Impossible.{answer_of, same_answer}
use Rattle.model.specs.Images.{chain_count_width}
use Rattle.bits.proofs.Digits.{AreBits, length_digits}
use Rattle.bits.proofs.Bytes.{bits_are_bits}
use Rattle.bits.proofs.Fields.{bits_drop}
use Rattle.entries.proofs.Placing.{length_entry}
use Rattle.images.specs.Fields.{from}
use Rattle.images.proofs.Several.{several_length, value_at}
use Rattle.images.proofs.Codec.{Codec, field_codec}
use Rattle.images.proofs.Inverse.{signed_codec, entry_codec}
use Rattle.images.proofs.Reading.{length_from}

-- a reader whose values all have the same size goes on by that size
steady : {A : Type 0} {reader : List ℕ → Outcome (Read A)} {write : A → List ℕ} {Range : A → Type 0} → Codec AreBits reader write Range
    → (size : ℕ) → ((x : A) → length (write x) ≡ size) → (image : List ℕ) (at : ℕ) (r : Read A) → reader (from image at) ≡ answered r
    → r.rest ≡ from image (at + size)
steady {write = write} c size l image at r e =
    let s = c.stood_there (from image at) (bits_drop at (bits_of image) (bits_are_bits image)) r e in
    sym (ap (drop size) s ∙ drop_at (write r.value) r.rest size (l r.value)) ∙ drop-drop size at (bits_of image)

-- there are bits enough
enough : {A : Type 0} {reader : List ℕ → Outcome (Read A)} {write : A → List ℕ} {Range : A → Type 0} → Codec AreBits reader write Range
    → (size : ℕ) → ((x : A) → length (write x) ≡ size) → (image : List ℕ) (at : ℕ) (r : Read A) → reader (from image at) ≡ answered r
    → size ≤ 8 * length image - at
enough {write = write} c size l image at r e =
    let s = c.stood_there (from image at) (bits_drop at (bits_of image) (bits_are_bits image)) r e in
    omega (arith, length_from image at, ap length s, length-append (write r.value) r.rest, l r.value)

-- a count of `width` bits, then as many values of one size
module _ {A : Type 0} (width tail early size : ℕ) (reader : List ℕ → Outcome (Read A)) (write : A → List ℕ) (Range : A → Type 0)
    (one : Codec AreBits reader write Range) (sized : (x : A) → length (write x) ≡ size) (image : List ℕ) (xs : List A) where
  body : Read ℕ → Outcome (List A)
  body k = several reader k.value k.rest >>= finish tail

  finished : (t : Bool) (v : List A) → cond t (answered v) (refused tail unplaced) ≡ answered xs → v ≡ xs
  finished true v e = same_answer v xs e
  finished false v e = absurd (let z : ◌≡◌ {A = ℕ} 0 1 = cc in omega arith)

  module _ (read : (field early width (bits_of image) >>= λ k. several reader k.value k.rest >>= finish tail) ≡ answered xs) where
    letters : (r : Read (List A)) × (several reader (length r.value) (from image width) ≡ answered r) × (r.value ≡ xs)
    unfolding body finish
    letters =
        let k = answer_of (field early width (bits_of image)) body xs read in
        let r = answer_of (several reader k.0.value k.0.rest) (finish tail) xs k.2 in
        let rest : k.0.rest ≡ from image width = steady (field_codec early width) width (length_digits width) image 0 k.0 k.1
        ∙ ap (from image) {x = 0 + width} {y = width} (omega arith) in
        let n : length r.0.value ≡ k.0.value = several_length reader k.0.value k.0.rest r.0 r.1 in (
          r.0,
          ap (λ m. several reader m (from image width)) n ∙ (ap (several reader k.0.value) (sym rest) ∙ r.1),
          finished (filling r.0.rest) r.0.value r.2,
        )

    -- the count lies inside the image
    pub counted : width ≤ 8 * length image
    unfolding body
    counted =
        let k = answer_of (field early width (bits_of image)) body xs read in
        omega (arith, enough (field_codec early width) width (length_digits width) image 0 k.0 k.1)

    pub placed : (i : ℕ) → i < length xs → (d : A)
        → reader (from image (width + i * size)) ≡ answered (record { value = get_or xs i d; rest = from image (width + i * size + size) })
    placed i h d =
        let p = letters in
        let n : length p.0.value ≡ length xs = ap length p.2 in
        value_at reader (bits_of image) size (steady one size sized image) (length p.0.value) width p.0 p.1 i (omega arith) d
        ∙ ap (λ v. answered (record { value = get_or v i d; rest = from image (width + i * size + size) })) p.2

    pub placed_inside : (i : ℕ) → i < length xs → (d : A) → size ≤ 8 * length image - (width + i * size)
    placed_inside i h d = enough one size sized image (width + i * size) (record { value = get_or xs i d; rest = from image (width + i * size + size) })
        (placed i h d)

pub length_signed : (n : ℕ) (x : Letter) → length (signed_bits n x) ≡ 1 + letter_width n
length_signed n (forward a) = ap suc (length_digits (letter_width n) (a - 1)) ∙ omega arith
length_signed n (back a) = ap suc (length_digits (letter_width n) (a - 1)) ∙ omega arith

module _ (n : ℕ) (few : n ≤ most_size) (image : List ℕ) where
  pub letter_placed : (w : Word) → read_program n image ≡ answered w → (i : ℕ) → i < length w → (d : Letter)
      → signed_field n (from image (count_width + i * (1 + letter_width n))) ≡ answered
      (record { value = get_or w i d; rest = from image (count_width + i * (1 + letter_width n) + (1 + letter_width n)) })
  unfolding read_program
  letter_placed w e i h d = placed count_width 6 4 (1 + letter_width n) (signed_field n) (signed_bits n) _ (signed_codec n few) (length_signed n) image w e i h
      d

  pub letter_inside : (w : Word) → read_program n image ≡ answered w → (i : ℕ) → i < length w
      → count_width + i * (1 + letter_width n) + (1 + letter_width n) ≤ 8 * length image
  unfolding read_program
  letter_inside w e i h = omega (
    arith,
    placed_inside count_width 6 4 (1 + letter_width n) (signed_field n) (signed_bits n) _ (signed_codec n few) (length_signed n) image w e i h
        (forward 0),
  )

  pub count_inside : (w : Word) → read_program n image ≡ answered w → count_width ≤ 8 * length image
  unfolding read_program
  count_inside w e = counted count_width 6 4 (1 + letter_width n) (signed_field n) (signed_bits n) _ (signed_codec n few) (length_signed n) image w e

  pub entry_placed : (es : List Entry) → read_chain n image ≡ answered es → (i : ℕ) → i < length es → (d : Entry)
      → entry_field n (from image (entry_position n i)) ≡ answered (record { value = get_or es i d; rest = from image (entry_position n i + entry_width n) })
  unfolding read_chain
  entry_placed es e i h d = placed chain_count_width 6 4 (entry_width n) (entry_field n) (entry_bits n) _ (entry_codec n few) (length_entry n) image es e i h d

  pub entry_inside : (es : List Entry) → read_chain n image ≡ answered es → (i : ℕ) → i < length es → entry_position n i + entry_width n ≤ 8 * length image
  unfolding read_chain
  entry_inside es e i h = omega (
    arith,
    placed_inside chain_count_width 6 4 (entry_width n) (entry_field n) (entry_bits n) _ (entry_codec n few) (length_entry n) image es e i h
        (record { offset = 0; a = 0; b = 0 }),
  )
