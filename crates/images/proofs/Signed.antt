-- A program's next letter: its sign, then its number. The byte that the code makes of them is the letter's.
use mathlib.Core.Path.{◌≡◌, refl, sym, ap, subst, ◌∙◌}
use mathlib.Core.Logic.{⊎_elim}
use mathlib.Core.List.{List}
use Prim.Native.Nat.{ℕ, zero, suc, ◌+◌, ◌*◌, ◌/◌, ◌%◌, ◌^◌, ◌≤◌, ◌<◌}
use native.Mathlib.Omega.{arith}
use lib.ListN.{length, take, drop, length-drop}
use lib.Seq.{drop-drop}
use lib.Pow.{pow_mono}
use borrow.Author.Tests.{lt-leb, le-leb, le-ltb}
use lib.Dec.{leb}
use Rattle.model.specs.Word.{Letter, byte}
use Rattle.model.specs.Outcome.{unplaced, Outcome, answered, refused, ◌>>=◌, unless}
use Rattle.model.specs.Bits.{Read, field, number, letter_width}
use Rattle.model.specs.Images.{letter_field, signed_field, signed, most_size}
use Rattle.model.specs.Range.{LetterInRange}
use Rattle.model.proofs.Numbers.{below_or}
use Rattle.images.specs.BitReader.{TakenAt}
use Rattle.images.specs.Widths.{WidthOf}
use Rattle.images.specs.Programs.{SignedAt}
use Rattle.images.proofs.Reading.{drop_bits, field_small}
use Rattle.images.proofs.Numbers.{field_taken, field_short}
use Rattle.images.proofs.BitReader.{first_part, last_part}

module _ (size : ℕ) (bits : List ℕ) where
  after_number : ℕ → Outcome (Read ℕ) → Outcome (Read Letter)
  after_number sign o = o >>= λ a. answered (record { value = signed sign a.value; rest = a.rest })

  after_sign : Outcome (Read ℕ) → Outcome (Read Letter)
  unfolding after_number
  after_sign o = o >>= λ s. after_number s.value (letter_field 4 5 size s.rest)

  sign_short : field 4 1 bits ≡ refused 4 unplaced → signed_field size bits ≡ refused 4 unplaced
  unfolding after_sign after_number
  sign_short e = ap after_sign e

  -- the number behind the sign
  module _ (sign : ℕ) (rest : List ℕ) (s : field 4 1 bits ≡ answered (record { value = sign; rest = rest })) where
    number_next : signed_field size bits ≡ after_number sign (letter_field 4 5 size rest)
    unfolding after_sign after_number
    number_next = ap after_sign s

    letter_of : Outcome (Read ℕ) → Outcome (Read Letter)
    unfolding after_number
    letter_of o = after_number sign (o >>= λ r. unless (leb size r.value) 5 (record { value = r.value + 1; rest = r.rest }))

    number_short : field 4 (letter_width size) rest ≡ refused 4 unplaced → signed_field size bits ≡ refused 4 unplaced
    unfolding letter_of after_number
    number_short e = number_next ∙ ap letter_of e

    module _ (n : ℕ) (after : List ℕ) (e : field 4 (letter_width size) rest ≡ answered (record { value = n; rest = after })) where
      letter_wrong : size ≤ n → signed_field size bits ≡ refused 5 unplaced
      unfolding letter_of after_number
      letter_wrong h =
          number_next
          ∙ (ap letter_of e ∙ ap (λ t. after_number sign (unless t 5 (record { value = n + 1; rest = after }))) (le-leb size n h))

      letter_read : n < size → signed_field size bits ≡ answered (record { value = signed sign (n + 1); rest = after })
      unfolding letter_of after_number
      letter_read h =
          number_next
          ∙ (ap letter_of e ∙ ap (λ t. after_number sign (unless t 5 (record { value = n + 1; rest = after }))) (lt-leb size n h))

-- the letter of a sign and a number
sign_letter : (sign number size : ℕ) → sign < 2 → 1 ≤ number → number ≤ size
    → LetterInRange size (signed sign number) × (byte (signed sign number) ≡ sign * 128 + number)
sign_letter zero number size h low high = (record { low = low; high = high }, omega arith)
sign_letter (suc zero) number size h low high = (record { low = low; high = high }, omega arith)
sign_letter (suc (suc sign)) number size h low high = absurd (omega arith)

-- the sign and the number of a letter, taken as one field
module _ (size width : ℕ) (of : WidthOf size width) (before : List ℕ) where
  -- the sign, where there is a bit
  sign_there : 1 ≤ length before → field 4 1 before ≡ answered (record { value = number 0 (take 1 before); rest = drop 1 before })
  unfolding field
  sign_there h = ap (λ t. unless t 4 (record { value = number 0 (take 1 before); rest = drop 1 before })) (le-ltb (length before) 1 h)

  pub signed_short : length before < 1 + width → signed_field size before ≡ refused 4 unplaced
  signed_short short =
      ⊎_elim
      (λ (none : length before < 1). sign_short size before (field_short 4 1 before none))
      (λ (some : 1 ≤ length before).
      number_short size before (number 0 (take 1 before)) (drop 1 before) (sign_there some)
      (subst (λ w. field 4 w (drop 1 before) ≡ refused 4 unplaced) of.width_is
      (field_short 4 width (drop 1 before) (omega (arith, length-drop 1 before)))))
      (below_or (length before) 1)

  module _ (v : ℕ) (after : List ℕ) (t : TakenAt before (1 + width) v after) where
    sign_read : field 4 1 before ≡ answered (record { value = v / 2 ^ width; rest = drop 1 before })
    sign_read =
        field_taken 4 1 before (v / 2 ^ width) (drop 1 before)
        (record {
          inside = omega (arith, t.inside);
          bits = t.bits;
          value_is = ap (λ n. n / 2 ^ width) t.value_is ∙ first_part before t.bits 1 width t.inside;
          after_is = refl;
        })

    number_is : v % 2 ^ width ≡ number 0 (take width (drop 1 before))
    number_is = ap (λ n. n % 2 ^ width) t.value_is ∙ last_part before t.bits 1 width t.inside

    number_inside : width ≤ length (drop 1 before)
    number_inside = omega (arith, t.inside, length-drop 1 before)

    number_read : field 4 (letter_width size) (drop 1 before) ≡ answered (record { value = v % 2 ^ width; rest = after })
    number_read =
        subst (λ w. field 4 w (drop 1 before) ≡ answered (record { value = v % 2 ^ width; rest = after })) of.width_is
        (field_taken 4 width (drop 1 before) (v % 2 ^ width) after
        (record {
          inside = number_inside;
          bits = drop_bits before t.bits 1;
          value_is = number_is;
          after_is = t.after_is ∙ (ap (λ n. drop n before) {x = 1 + width} {y = 1 + width} refl ∙ sym (drop-drop width 1 before));
        }))

    pub sign_small : v / 2 ^ width < 2
    sign_small = omega (
      arith,
      ap (λ n. n / 2 ^ width) t.value_is ∙ first_part before t.bits 1 width t.inside,
      field_small before t.bits 1 (omega (arith, t.inside)),
    )

    pub number_small : v % 2 ^ width < most_size
    number_small =
        let most : 2 ^ width ≤ 2 ^ 4 = pow_mono {i = width} {j = 4} of.narrow in
        omega (arith, number_is, field_small (drop 1 before) (drop_bits before t.bits 1) width number_inside)

    pub signed_wrong : size ≤ v % 2 ^ width → signed_field size before ≡ refused 5 unplaced
    signed_wrong h = letter_wrong size before (v / 2 ^ width) (drop 1 before) sign_read (v % 2 ^ width) after number_read h

    pub signed_taken : v % 2 ^ width < size → SignedAt before size (v / 2 ^ width) (v % 2 ^ width + 1) after
    signed_taken h =
        let l = sign_letter (v / 2 ^ width) (v % 2 ^ width + 1) size sign_small (omega arith) (omega arith) in
        record {
          letter = signed (v / 2 ^ width) (v % 2 ^ width + 1);
          named = l.0;
          written = l.1;
          read = letter_read size before (v / 2 ^ width) (drop 1 before) sign_read (v % 2 ^ width) after number_read h;
          sign_small = omega (arith, sign_small);
          number_small = omega (arith, number_small);
        }

    -- where no field of a wrong letter can stand
    pub signed_known : (signed_field size before ≡ refused 5 unplaced → ⊥) → v % 2 ^ width < size
    signed_known never = ⊎_elim (λ (below : v % 2 ^ width < size). below) (λ (above : size ≤ v % 2 ^ width). absurd (never (signed_wrong above)))
        (below_or (v % 2 ^ width) size)
