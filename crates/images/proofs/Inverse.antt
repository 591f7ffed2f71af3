-- The codecs of the fields of images: letters, signed letters, words, pairs and entries. The round trips are made of these.
use mathlib.Core.Path.{◌≡◌, refl, sym, ap, subst, ◌∙◌}
use mathlib.Core.List.{List, ◌∷◌, ◌++◌, append_assoc}
use mathlib.Core.Bool.{cond}
use Prim.Native.Nat.{ℕ, zero, suc, ◌+◌, ◌-◌, ◌^◌, ◌≤◌, ◌<◌}
use native.Mathlib.Omega.{arith}
use borrow.Author.Tests.{lt-leb, leb-false}
use lib.Dec.{leb, eqb}
use lib.ListN.{length}
use Rattle.model.specs.Word.{Letter, forward, back, Positive}
use Rattle.model.specs.Presentation.{Complement, undefined, complement}
use Rattle.model.specs.Equivalence.{Entry}
use Rattle.model.specs.Enumeration.{concat_map}
use Rattle.model.specs.Outcome.{Outcome, answered, ◌>>=◌, unless}
use Rattle.model.specs.Bits.{Read, field, digits, letter_width}
use Rattle.model.specs.Images.{several, letter_field, letter_bits, word_field, word_bits, pair_field, pair_bits, defined_field, signed, signed_field}
use Rattle.model.specs.Images.{signed_bits}
use Rattle.model.specs.Images.{entry_field, entry_bits, offset_width}
use Rattle.bits.proofs.Digits.{AreBits}
use Rattle.bits.proofs.Width.{letter_fits}
use Rattle.model.specs.Range.{All, InRange, LetterInRange, WordInRange, PairInRange, EntryInRange}
use Rattle.model.proofs.Impossible.{answer_of, same_answer, not_refused}
use Rattle.model.specs.Images.{most_size}
use Rattle.images.proofs.Codec.{Codec, then, field_codec, several_codec, input_rest, bits_suffix}

-- a count, then as many of one kind
module _ {A : Type 0} (early width : ℕ) (reader : List ℕ → Outcome (Read A)) (write : A → List ℕ) (Range : A → Type 0) (one : Codec AreBits reader write Range)
  where
    abbrev pub counted : List ℕ → Outcome (Read (List A))
    counted input = field early width input >>= λ k. several reader k.value k.rest

    abbrev pub counted_bits : List A → List ℕ
    counted_bits xs = digits width (length xs) ++ concat_map write xs

    abbrev pub CountedRange : List A → Type 0
    CountedRange xs = (length xs < 2 ^ width) × All Range xs

    many : (k : ℕ) → Codec AreBits (several reader k) (concat_map write) (λ xs. (length xs ≡ k) × All Range xs)
    many k = several_codec AreBits bits_suffix reader write Range one k

    pub counted_codec : Codec AreBits counted counted_bits CountedRange
    counted_codec =
        record {
          reads_back = λ xs h rest.
              ap counted (append_assoc (digits width (length xs)) (concat_map write xs) rest)
              ∙ then (field early width (digits width (length xs) ++ (concat_map write xs ++ rest))) _
              (record { value = length xs; rest = concat_map write xs ++ rest }) _
              ((field_codec early width).reads_back (length xs) h.0 (concat_map write xs ++ rest))
              ((many (length xs)).reads_back xs (refl, h.1) rest);
          stood_there = λ input i r e.
              let f = answer_of (field early width input) (λ k. several reader k.value k.rest) r e in
              let j = input_rest AreBits bits_suffix (field_codec early width) input i f.0 f.1 in
              let c = (many f.0.value).in_range f.0.rest j r f.2 in
              (field_codec early width).stood_there input i f.0 f.1
              ∙ (ap (λ l. digits width f.0.value ++ l) ((many f.0.value).stood_there f.0.rest j r f.2)
              ∙ (ap (λ n. digits width n ++ (concat_map write r.value ++ r.rest)) (sym c.0)
              ∙ sym (append_assoc (digits width (length r.value)) (concat_map write r.value) r.rest)));
          in_range = λ input i r e.
              let f = answer_of (field early width input) (λ k. several reader k.value k.rest) r e in
              let j = input_rest AreBits bits_suffix (field_codec early width) input i f.0 f.1 in
              let c = (many f.0.value).in_range f.0.rest j r f.2 in
              (subst (λ n. n < 2 ^ width) (sym c.0) ((field_codec early width).in_range input i f.0 f.1), c.1);
        }

module _ (n : ℕ) (few : n ≤ most_size) where
  module _ (early wrong : ℕ) where
    named : Read ℕ → Outcome (Read ℕ)
    named r = unless (leb n r.value) wrong (record { value = r.value + 1; rest = r.rest })

    letter_parts : (input : List ℕ) → AreBits input → (r : Read ℕ) → letter_field early wrong n input ≡ answered r
        → (input ≡ letter_bits n r.value ++ r.rest) × InRange n r.value
    unfolding named
    letter_parts input i r e =
        let f = answer_of (field early (letter_width n) input) named r e in
        let p = not_refused (leb n f.0.value) wrong (record { value = f.0.value + 1; rest = f.0.rest }) r f.2 in
        let below : f.0.value < n = leb-false n f.0.value p.0 in
        let back : f.0.value + 1 - 1 ≡ f.0.value = omega arith in
        subst (λ r. (input ≡ letter_bits n r.value ++ r.rest) × InRange n r.value) p.1 (
          (field_codec early (letter_width n)).stood_there input i f.0 f.1 ∙ ap (λ v. digits (letter_width n) v ++ f.0.rest) (sym back),
          record { low = omega arith; high = omega arith },
        )

    pub letter_codec : Codec AreBits (letter_field early wrong n) (letter_bits n) (InRange n)
    letter_codec =
        record {
          reads_back = λ a h rest.
              let below : a - 1 < n = omega (arith, h.low, h.high) in
              let up : a - 1 + 1 ≡ a = omega (arith, h.low) in
              then (field early (letter_width n) (digits (letter_width n) (a - 1) ++ rest)) _ (record { value = a - 1; rest = rest }) _
              ((field_codec early (letter_width n)).reads_back (a - 1) (letter_fits n a few h.low h.high) rest)
              (ap (λ t. unless t wrong (record { value = a - 1 + 1; rest = rest })) (lt-leb n (a - 1) below)
              ∙ ap (λ v. answered (record { value = v; rest = rest })) up);
          stood_there = λ input i r e. (letter_parts input i r e).0;
          in_range = λ input i r e. (letter_parts input i r e).1;
        }

  -- a sign and a letter
  sign_bits : (v a : ℕ) → v < 2 → digits 1 v ++ letter_bits n a ≡ signed_bits n (signed v a)
  sign_bits zero a h = refl
  sign_bits (suc zero) a h = refl
  sign_bits (suc (suc v)) a h = absurd (omega arith)

  sign_range : (v a : ℕ) → v < 2 → InRange n a → LetterInRange n (signed v a)
  sign_range zero a h g = g
  sign_range (suc zero) a h g = g
  sign_range (suc (suc v)) a h g = absurd (omega arith)

  signed_of : Read ℕ → Outcome (Read Letter)
  signed_of s = letter_field 4 5 n s.rest >>= λ a. answered (record { value = signed s.value a.value; rest = a.rest })

  signed_back : (v a : ℕ) → v < 2 → InRange n a → (rest : List ℕ)
      → signed_field n (digits 1 v ++ (letter_bits n a ++ rest)) ≡ answered (record { value = signed v a; rest = rest })
  signed_back v a h g rest =
      then (field 4 1 (digits 1 v ++ (letter_bits n a ++ rest))) _ (record { value = v; rest = letter_bits n a ++ rest }) _
      ((field_codec 4 1).reads_back v h (letter_bits n a ++ rest))
      (then (letter_field 4 5 n (letter_bits n a ++ rest)) (λ a. answered (record { value = signed v a.value; rest = a.rest }))
      (record { value = a; rest = rest }) _
      ((letter_codec 4 5).reads_back a g rest) refl)

  signed_reads : (x : Letter) → LetterInRange n x → (rest : List ℕ) → signed_field n (signed_bits n x ++ rest) ≡ answered (record { value = x; rest = rest })
  signed_reads (forward a) g rest = signed_back 0 a (omega arith) g rest
  signed_reads (back a) g rest = signed_back 1 a (omega arith) g rest

  signed_parts : (input : List ℕ) → AreBits input → (r : Read Letter) → signed_field n input ≡ answered r
      → (input ≡ signed_bits n r.value ++ r.rest) × LetterInRange n r.value
  unfolding signed_of
  signed_parts input i r e =
      let s = answer_of (field 4 1 input) signed_of r e in
      let a = answer_of (letter_field 4 5 n s.0.rest) (λ a. answered (record { value = signed s.0.value a.value; rest = a.rest })) r s.2 in
      let j = input_rest AreBits bits_suffix (field_codec 4 1) input i s.0 s.1 in
      let h : s.0.value < 2 = (field_codec 4 1).in_range input i s.0 s.1 in
      subst (λ r. (input ≡ signed_bits n r.value ++ r.rest) × LetterInRange n r.value)
      (same_answer (record { value = signed s.0.value a.0.value; rest = a.0.rest }) r a.2) (
        (field_codec 4 1).stood_there input i s.0 s.1
            ∙ (ap (λ l. digits 1 s.0.value ++ l) ((letter_codec 4 5).stood_there s.0.rest j a.0 a.1)
            ∙ (sym (append_assoc (digits 1 s.0.value) (letter_bits n a.0.value) a.0.rest)
            ∙ ap (λ l. l ++ a.0.rest) (sign_bits s.0.value a.0.value h))),
        sign_range s.0.value a.0.value h ((letter_codec 4 5).in_range s.0.rest j a.0 a.1),
      )

  pub signed_codec : Codec AreBits (signed_field n) (signed_bits n) (LetterInRange n)
  signed_codec =
      record {
        reads_back = signed_reads;
        stood_there = λ input i r e. (signed_parts input i r e).0;
        in_range = λ input i r e. (signed_parts input i r e).1;
      }

  -- a word: its length, then its letters
  pub word_codec : Codec AreBits (word_field n) (word_bits n) (WordInRange n)
  word_codec =
      let c = counted_codec 1 4 (letter_field 1 2 n) (letter_bits n) (InRange n) (letter_codec 1 2) in
      record {
        reads_back = λ x h rest. c.reads_back x (h.short, h.letters) rest;
        stood_there = λ input i r e. c.stood_there input i r e;
        in_range = λ input i r e. record { short = (c.in_range input i r e).0; letters = (c.in_range input i r e).1 };
      }

  second_word : Read Positive → Outcome (Read Complement)
  second_word x = word_field n x.rest >>= λ y. answered (record { value = complement x.value y.value; rest = y.rest })

  -- the two words of a pair
  both_reads : (x y : Positive) → WordInRange n x → WordInRange n y → (rest : List ℕ)
      → defined_field n ((word_bits n x ++ word_bits n y) ++ rest) ≡ answered (record { value = complement x y; rest = rest })
  both_reads x y hx hy rest =
      ap (defined_field n) (append_assoc (word_bits n x) (word_bits n y) rest)
      ∙ then (word_field n (word_bits n x ++ (word_bits n y ++ rest))) _ (record { value = x; rest = word_bits n y ++ rest }) _
      (word_codec.reads_back x hx (word_bits n y ++ rest))
      (then (word_field n (word_bits n y ++ rest)) (λ y. answered (record { value = complement x y.value; rest = y.rest }))
      (record { value = y; rest = rest }) _
      (word_codec.reads_back y hy rest) refl)

  both_parts : (input : List ℕ) → AreBits input → (r : Read Complement) → defined_field n input ≡ answered r
      → (1 ∷ input ≡ pair_bits n r.value ++ r.rest) × PairInRange n r.value
  unfolding second_word
  both_parts input i r e =
      let x = answer_of (word_field n input) second_word r e in
      let j = input_rest AreBits bits_suffix word_codec input i x.0 x.1 in
      let y = answer_of (word_field n x.0.rest) (λ y. answered (record { value = complement x.0.value y.value; rest = y.rest })) r x.2 in
      subst (λ r. (1 ∷ input ≡ pair_bits n r.value ++ r.rest) × PairInRange n r.value)
      (same_answer (record { value = complement x.0.value y.0.value; rest = y.0.rest }) r y.2) (
        ap (λ l. 1 ∷ l)
            (word_codec.stood_there input i x.0 x.1
            ∙ (ap (λ l. word_bits n x.0.value ++ l) (word_codec.stood_there x.0.rest j y.0 y.1)
            ∙ sym (append_assoc (word_bits n x.0.value) (word_bits n y.0.value) y.0.rest))),
        (word_codec.in_range input i x.0 x.1, word_codec.in_range x.0.rest j y.0 y.1),
      )

  pair_of : Read ℕ → Outcome (Read Complement)
  pair_of bit = cond (eqb bit.value 0) (answered (record { value = undefined; rest = bit.rest })) (defined_field n bit.rest)

  pair_reads : (c : Complement) → PairInRange n c → (rest : List ℕ) → pair_field n (pair_bits n c ++ rest) ≡ answered (record { value = c; rest = rest })
  pair_reads undefined h rest = then (field 1 1 (0 ∷ rest)) _ (record { value = 0; rest = rest }) _ ((field_codec 1 1).reads_back 0 (omega arith) rest) refl
  pair_reads (complement x y) h rest =
      then (field 1 1 (1 ∷ ((word_bits n x ++ word_bits n y) ++ rest))) _ (record { value = 1; rest = (word_bits n x ++ word_bits n y) ++ rest }) _
      ((field_codec 1 1).reads_back 1 (omega arith) ((word_bits n x ++ word_bits n y) ++ rest)) (both_reads x y h.0 h.1 rest)

  -- a pair whose first bit v was read
  pair_of_parts : (v : ℕ) (rest : List ℕ) → v < 2 → AreBits rest → (r : Read Complement) → pair_of (record { value = v; rest = rest }) ≡ answered r
      → (digits 1 v ++ rest ≡ pair_bits n r.value ++ r.rest) × PairInRange n r.value
  unfolding pair_of
  pair_of_parts zero rest h i r e =
      subst (λ r. (0 ∷ rest ≡ pair_bits n r.value ++ r.rest) × PairInRange n r.value) (same_answer (record { value = undefined; rest = rest }) r e)
      (refl, tt)
  pair_of_parts (suc zero) rest h i r e = both_parts rest i r e
  pair_of_parts (suc (suc v)) rest h i r e = absurd (omega arith)

  pair_parts : (input : List ℕ) → AreBits input → (r : Read Complement) → pair_field n input ≡ answered r
      → (input ≡ pair_bits n r.value ++ r.rest) × PairInRange n r.value
  unfolding pair_of
  pair_parts input i r e =
      let s = answer_of (field 1 1 input) pair_of r e in
      let j = input_rest AreBits bits_suffix (field_codec 1 1) input i s.0 s.1 in
      let p = pair_of_parts s.0.value s.0.rest ((field_codec 1 1).in_range input i s.0 s.1) j r s.2 in
      ((field_codec 1 1).stood_there input i s.0 s.1 ∙ p.0, p.1)

  pub pair_codec : Codec AreBits (pair_field n) (pair_bits n) (PairInRange n)
  pair_codec =
      record {
        reads_back = pair_reads;
        stood_there = λ input i r e. (pair_parts input i r e).0;
        in_range = λ input i r e. (pair_parts input i r e).1;
      }

  -- a chain's entry
  second_letter : ℕ → Read ℕ → Outcome (Read Entry)
  second_letter at a = letter_field 4 5 n a.rest >>= λ b. answered (record { value = record { offset = at; a = a.value; b = b.value }; rest = b.rest })

  letters_of : Read ℕ → Outcome (Read Entry)
  unfolding second_letter
  letters_of at = letter_field 4 5 n at.rest >>= second_letter at.value

  entry_reads : (e : Entry) → EntryInRange n e → (rest : List ℕ) → entry_field n (entry_bits n e ++ rest) ≡ answered (record { value = e; rest = rest })
  entry_reads e h rest =
      ap (entry_field n) (append_assoc (digits offset_width e.offset) (letter_bits n e.a ++ letter_bits n e.b) rest
      ∙ ap (λ l. digits offset_width e.offset ++ l) (append_assoc (letter_bits n e.a) (letter_bits n e.b) rest))
      ∙ then (field 4 offset_width (digits offset_width e.offset ++ (letter_bits n e.a ++ (letter_bits n e.b ++ rest)))) _
      (record { value = e.offset; rest = letter_bits n e.a ++ (letter_bits n e.b ++ rest) }) _
      ((field_codec 4 offset_width).reads_back e.offset h.offset_small (letter_bits n e.a ++ (letter_bits n e.b ++ rest)))
      (then (letter_field 4 5 n (letter_bits n e.a ++ (letter_bits n e.b ++ rest))) _ (record { value = e.a; rest = letter_bits n e.b ++ rest }) _
      ((letter_codec 4 5).reads_back e.a h.a_names (letter_bits n e.b ++ rest))
      (then (letter_field 4 5 n (letter_bits n e.b ++ rest))
      (λ b. answered (record { value = record { offset = e.offset; a = e.a; b = b.value }; rest = b.rest })) (record { value = e.b; rest = rest }) _
      ((letter_codec 4 5).reads_back e.b h.b_names rest) refl))

  entry_parts : (input : List ℕ) → AreBits input → (r : Read Entry) → entry_field n input ≡ answered r
      → (input ≡ entry_bits n r.value ++ r.rest) × EntryInRange n r.value
  unfolding letters_of second_letter
  entry_parts input i r e =
      let s = answer_of (field 4 offset_width input) letters_of r e in
      let j = input_rest AreBits bits_suffix (field_codec 4 offset_width) input i s.0 s.1 in
      let a = answer_of (letter_field 4 5 n s.0.rest) (second_letter s.0.value) r s.2 in
      let k = input_rest AreBits bits_suffix (letter_codec 4 5) s.0.rest j a.0 a.1 in
      let b = answer_of (letter_field 4 5 n a.0.rest)
      (λ b. answered (record { value = record { offset = s.0.value; a = a.0.value; b = b.value }; rest = b.rest })) r a.2 in
      subst (λ r. (input ≡ entry_bits n r.value ++ r.rest) × EntryInRange n r.value)
      (same_answer (record { value = record { offset = s.0.value; a = a.0.value; b = b.0.value }; rest = b.0.rest }) r b.2) (
        (field_codec 4 offset_width).stood_there input i s.0 s.1
            ∙ (ap (λ l. digits offset_width s.0.value ++ l)
            ((letter_codec 4 5).stood_there s.0.rest j a.0 a.1
            ∙ (ap (λ l. letter_bits n a.0.value ++ l) ((letter_codec 4 5).stood_there a.0.rest k b.0 b.1)
            ∙ sym (append_assoc (letter_bits n a.0.value) (letter_bits n b.0.value) b.0.rest)))
            ∙ sym (append_assoc (digits offset_width s.0.value) (letter_bits n a.0.value ++ letter_bits n b.0.value) b.0.rest)),
        record {
          offset_small = (field_codec 4 offset_width).in_range input i s.0 s.1;
          a_names = (letter_codec 4 5).in_range s.0.rest j a.0 a.1;
          b_names = (letter_codec 4 5).in_range a.0.rest k b.0 b.1;
        },
      )

  pub entry_codec : Codec AreBits (entry_field n) (entry_bits n) (EntryInRange n)
  entry_codec =
      record {
        reads_back = entry_reads;
        stood_there = λ input i r e. (entry_parts input i r e).0;
        in_range = λ input i r e. (entry_parts input i r e).1;
      }
