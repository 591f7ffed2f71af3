-- A table image is read in its form as the model reads it. Two readings agree where they refuse alike, or answer alike and leave the same input.
use mathlib.Core.Path.{◌≡◌, refl, sym, ap, subst, ◌∙◌}
use mathlib.Core.List.{List}
use mathlib.Core.Bool.{Bool, true, false, ◌||◌, cond}
use Prim.Native.Nat.{ℕ, zero, suc, ◌+◌, ◌-◌, ◌^◌, ◌≤◌, ◌<◌}
use native.Mathlib.Omega.{arith}
use borrow.Author.Tests.{le-ltb, lt-leb}
use lib.Dec.{ltb, leb, eqb}
use Rattle.model.specs.Presentation.{undefined}
use Rattle.model.specs.Outcome.{Outcome, answered, refused, ◌>>=◌, unless}
use Rattle.model.specs.Bits.{Read, bits_of, field, letter_width}
use Rattle.model.specs.Images.{weight_width, several, rows_of, letter_field, word_field, defined_field, pair_field, read_table, word_lengths, length_width}
use Rattle.model.specs.Images.{most_size}
use Rattle.model.specs.Images.{size_width}
use Rattle.bits.proofs.Digits.{AreBits}
use Rattle.bits.proofs.Bytes.{bits_are_bits}
use Rattle.images.specs.Forms.{image_form, number_in, weight_in, letter_in, word_in, words_in, pair_in, rows_in, parts_in, table_in}
use Rattle.images.specs.declared.forms.Kind.TheVariants.{Image}
use Rattle.images.proofs.Codec.{field_codec, input_rest, bits_suffix}

-- the first reads the bits that the second's input is turned into; `Input` says what that input is made of
module _ (turned : List ℕ → List ℕ) (Input : List ℕ → Type 0) where
  abbrev pub Agree : {A : Type 0} → Outcome (Read A) → Outcome (Read A) → Type 0
  Agree o (answered r) = (o ≡ answered (record { value = r.value; rest = turned r.rest })) × Input r.rest
  Agree o (refused n place) = o ≡ refused n place

  pub then_agree : {A B : Type 0} (o p : Outcome (Read A)) (f g : Read A → Outcome (Read B)) → Agree o p
      → ((v : A) (rest : List ℕ) → Input rest → Agree (f (record { value = v; rest = turned rest })) (g (record { value = v; rest = rest })))
      → Agree (o >>= f) (p >>= g)
  then_agree o (answered r) f g h k = subst (λ o. Agree (o >>= f) (g r)) (sym h.0) (k r.value r.rest h.1)
  then_agree o (refused n place) f g h k = ap (λ o. o >>= f) h

  pub ends_agree : {A B : Type 0} (o p : Outcome (Read A)) (f g : Read A → Outcome B) → Agree o p
      → ((v : A) (rest : List ℕ) → Input rest → f (record { value = v; rest = turned rest }) ≡ g (record { value = v; rest = rest })) → (o >>= f) ≡ (p >>= g)
  ends_agree o (answered r) f g h k = ap (λ o. o >>= f) h.0 ∙ k r.value r.rest h.1
  ends_agree o (refused n place) f g h k = ap (λ o. o >>= f) h

  module _ {A : Type 0} (first second : List ℕ → Outcome (Read A)) (one : (input : List ℕ) → Input input → Agree (first (turned input)) (second input)) where
    pub several_agree : (k : ℕ) (input : List ℕ) → Input input → Agree (several first k (turned input)) (several second k input)
    several_agree zero input h = (refl, h)
    several_agree (suc k) input h =
        then_agree (first (turned input)) (second input) _ _ (one input h)
        (λ v rest i. then_agree (several first k (turned rest)) (several second k rest) _ _ (several_agree k rest i) (λ vs rest i. (refl, i)))

    pub rows_agree : (k : ℕ) (input : List ℕ) → Input input → Agree (rows_of first k (turned input)) (rows_of second k input)
    rows_agree zero input h = (refl, h)
    rows_agree (suc k) input h =
        then_agree (several first k (turned input)) (several second k input) _ _ (several_agree k input h)
        (λ v rest i. then_agree (rows_of first k (turned rest)) (rows_of second k rest) _ _ (rows_agree k rest i) (λ vs rest i. (refl, i)))

-- A TABLE IMAGE

abbrev same : List ℕ → List ℕ
same bits = bits

abbrev AgreeBits : {A : Type 0} → Outcome (Read A) → Outcome (Read A) → Type 0
AgreeBits o p = Agree same AreBits o p

module _ (width : ℕ) (bits : List ℕ) (b : AreBits bits) where
  field_agrees : AgreeBits (field 1 width bits) (field 1 width bits)
  field_agrees = go (field 1 width bits) refl
    where
      go : (o : Outcome (Read ℕ)) → field 1 width bits ≡ o → AgreeBits (field 1 width bits) o
      go (answered r) e = (e, input_rest AreBits bits_suffix (field_codec 1 width) bits b r e)
      go (refused n place) e = e

  -- where every number of a field is one that it may say
  all_said : (many : ℕ) → 2 ^ width ≤ many → AgreeBits (number_in width 0 many bits) (field 1 width bits)
  all_said many enough = go (field 1 width bits) refl field_agrees
    where
      go : (o : Outcome (Read ℕ)) → field 1 width bits ≡ o → AgreeBits (field 1 width bits) o
          → AgreeBits (o >>= λ r. unless (ltb r.value 0 || leb many (r.value - 0)) 2 (record { value = r.value - 0; rest = r.rest })) o
      go (answered r) e h =
          let small : r.value < 2 ^ width = (field_codec 1 width).in_range bits b r e in
          let less : r.value - 0 ≡ r.value = omega arith in (
            ap (λ t. unless (t || leb many (r.value - 0)) 2 (record { value = r.value - 0; rest = r.rest })) (le-ltb r.value 0 (omega arith))
                ∙ (ap (λ t. unless t 2 (record { value = r.value - 0; rest = r.rest })) (lt-leb many (r.value - 0) (omega arith))
                ∙ ap (λ n. answered (record { value = n; rest = r.rest })) less),
            h.1,
          )
      go (refused n place) e h = refl

abbrev said : ℕ → List ℕ → Read ℕ
said n rest = record { value = n; rest = rest }

-- a letter from its number
abbrev following : Read ℕ → Outcome (Read ℕ)
following r = answered (said (r.value + 1) r.rest)

module _ (size : ℕ) where
  letter_agrees : (bits : List ℕ) → AreBits bits → AgreeBits (letter_in (image_form size) size bits) (letter_field 1 2 size bits)
  letter_agrees bits b = go (field 1 (letter_width size) bits) (field_agrees (letter_width size) bits b)
    where
      pick : (t : Bool) (n : ℕ) (rest : List ℕ) → AreBits rest → AgreeBits (unless t 2 (said n rest) >>= following) (unless t 2 (said (n + 1) rest))
      pick true n rest h = refl
      pick false n rest h = (refl, h)

      go : (o : Outcome (Read ℕ)) → AgreeBits (field 1 (letter_width size) bits) o
          → AgreeBits ((o >>= λ r. unless (ltb r.value 0 || leb size (r.value - 0)) 2 (said (r.value - 0) r.rest)) >>= following)
          (o >>= λ r. unless (leb size r.value) 2 (said (r.value + 1) r.rest))
      go (answered r) h =
          let v = r.value in
          let less : v ≡ v - 0 = omega arith in
          subst (λ t. AgreeBits (unless (t || leb size (v - 0)) 2 (said (v - 0) r.rest) >>= following) (unless (leb size v) 2 (said (v + 1) r.rest)))
          (sym (le-ltb v 0 (omega arith)))
          (subst (λ n. AgreeBits (unless (leb size n) 2 (said n r.rest) >>= following) (unless (leb size v) 2 (said (v + 1) r.rest))) less
          (pick (leb size v) v r.rest h.1))
      go (refused n place) h = refl

  word_agrees : (bits : List ℕ) → AreBits bits → AgreeBits (word_in (image_form size) size bits) (word_field size bits)
  word_agrees bits b =
      then_agree same AreBits (number_in length_width 0 word_lengths bits) (field 1 length_width bits) _ _
      (all_said length_width bits b word_lengths (omega arith))
      (λ k rest h. several_agree same AreBits (letter_in (image_form size) size) (letter_field 1 2 size) letter_agrees k rest h)

  words_agree : (bits : List ℕ) → AreBits bits → AgreeBits (words_in (image_form size) size bits) (defined_field size bits)
  words_agree bits b =
      then_agree same AreBits (word_in (image_form size) size bits) (word_field size bits) _ _ (word_agrees bits b)
      (λ x rest h. then_agree same AreBits (word_in (image_form size) size rest) (word_field size rest) _ _ (word_agrees rest h) (λ y rest h. (refl, h)))

  pair_agrees : (bits : List ℕ) → AreBits bits → AgreeBits (pair_in (image_form size) size bits) (pair_field size bits)
  pair_agrees bits b = go (field 1 1 bits) (field_agrees 1 bits b)
    where
      pick : (t : Bool) (rest : List ℕ) → AreBits rest
          → AgreeBits (cond t (answered (record { value = undefined; rest = rest })) (words_in (image_form size) size rest))
          (cond t (answered (record { value = undefined; rest = rest })) (defined_field size rest))
      pick true rest h = (refl, h)
      pick false rest h = words_agree rest h

      go : (o : Outcome (Read ℕ)) → AgreeBits (field 1 1 bits) o
          → AgreeBits (o >>= λ m. cond (eqb m.value 0) (answered (record { value = undefined; rest = m.rest }))
          (words_in (image_form size) size m.rest))
          (o >>= λ m. cond (eqb m.value 0) (answered (record { value = undefined; rest = m.rest })) (defined_field size m.rest))
      go (answered r) h = pick (eqb r.value 0) r.rest h.1
      go (refused n place) h = refl

pub image_read : (image : List ℕ) → table_in Image image ≡ read_table image
unfolding table_in parts_in rows_in read_table
image_read image =
    ends_agree same AreBits (number_in size_width 0 most_size (bits_of image)) (field 1 size_width (bits_of image)) _ _
    (all_said size_width (bits_of image) (bits_are_bits image) most_size (omega arith))
    (λ n rest h. ends_agree same AreBits (several (weight_in (image_form (n + 1))) (n + 1) rest) (several (field 1 weight_width) (n + 1) rest) _ _
    (several_agree same AreBits (weight_in (image_form (n + 1))) (field 1 weight_width) (λ bits b. all_said weight_width bits b 8 (omega arith)) (n + 1) rest h)
    (λ ws rest h. ends_agree same AreBits (rows_of (pair_in (image_form (n + 1)) (n + 1)) (n + 1) rest) (rows_of (pair_field (n + 1)) (n + 1) rest) _ _
    (rows_agree same AreBits (pair_in (image_form (n + 1)) (n + 1)) (pair_field (n + 1)) (pair_agrees (n + 1)) (n + 1) rest h) (λ rs rest h. refl)))
