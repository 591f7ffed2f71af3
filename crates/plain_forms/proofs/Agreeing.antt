-- A table in plain form is read, as the bits of its bytes, as the model reads its bytes.
use mathlib.Core.Path.{◌≡◌, refl, sym, ap, subst, ◌∙◌}
use mathlib.Core.List.{List, [], ◌∷◌}
use mathlib.Core.Bool.{Bool, true, false, ◌||◌, ◌&&◌, cond}
use Prim.Native.Nat.{ℕ, zero, suc, ◌+◌, ◌-◌}
use native.Mathlib.Omega.{arith}
use borrow.Author.Tests.{lt-ltb, le-ltb}
use lib.Dec.{ltb, leb, eqb, leb-suc-suc}
use lib.ListN.{length, length-append}
use Rattle.model.specs.Presentation.{Presentation, undefined, complement}
use Rattle.model.specs.Word.{Positive}
use Rattle.model.specs.Outcome.{unplaced, Outcome, answered, refused, ◌>>=◌, unless}
use Rattle.model.specs.Bits.{Read, bits_of, digits, field, all_zero, finish}
use Rattle.model.specs.Images.{several, rows_of, word_lengths, most_size}
use Rattle.model.specs.Plain.{open_byte, most_weight, next_byte, plain_letter, plain_weight, plain_letters, plain_defined, plain_pair_at, read_plain_table}
use Rattle.model.specs.Range.{AreBytes}
use Rattle.images.specs.Forms.{plain_form, number_in, weight_in, letter_in, word_in, words_in, pair_in, rows_in, parts_in, table_in}
use Rattle.images.specs.declared.forms.Kind.TheVariants.{Plain}
use Rattle.images.proofs.Codec.{field_codec}
use Rattle.images.proofs.Agreeing.{Agree, then_agree, ends_agree, several_agree, rows_agree}

abbrev AgreeBytes : {A : Type 0} → Outcome (Read A) → Outcome (Read A) → Type 0
AgreeBytes o p = Agree bits_of AreBytes o p

abbrev said : {A : Type 0} → A → List ℕ → Read A
said v rest = record { value = v; rest = rest }

rest_bytes : (x : ℕ) (xs : List ℕ) → AreBytes (x ∷ xs) → AreBytes xs
rest_bytes x xs h i = h (suc i)

-- the field of a byte says the byte
byte_read : (x : ℕ) (xs : List ℕ) → AreBytes (x ∷ xs) → field 1 8 (bits_of (x ∷ xs)) ≡ answered (said x (bits_of xs))
byte_read x xs h = (field_codec 1 8).reads_back x (h 0) (bits_of xs)

-- A NUMBER, said by a byte of 1 to `many`

-- whether a byte says none
abbrev none : ℕ → ℕ → Bool
none many x = ltb x 1 || ltb many x

within : (many x : ℕ) → (ltb x 1 || leb many (x - 1)) ≡ none many x
within many zero = refl
within many (suc x) = ap (λ t. ltb (suc x) 1 || t) (ap (leb many) {x = suc x - 1} {y = x} (omega arith) ∙ sym (leb-suc-suc many x))

number_read : (many x : ℕ) (xs : List ℕ) → AreBytes (x ∷ xs) → number_in 8 1 many (bits_of (x ∷ xs)) ≡ unless (none many x) 2 (said (x - 1) (bits_of xs))
number_read many x xs h =
    ap (λ (o : Outcome (Read ℕ)). o >>= λ r. unless (ltb r.value 1 || leb many (r.value - 1)) 2 (said (r.value - 1) r.rest)) (byte_read x xs h)
    ∙ ap (λ t. unless t 2 (said (x - 1) (bits_of xs))) (within many x)

weight_agrees : (bytes : List ℕ) → AreBytes bytes → AgreeBytes (weight_in plain_form (bits_of bytes)) (plain_weight bytes)
unfolding field
weight_agrees [] h = refl
weight_agrees (x ∷ xs) h = subst (λ o. AgreeBytes o (plain_weight (x ∷ xs))) (sym (number_read most_weight x xs h)) (pick (none most_weight x))
  where
    pick : (t : Bool) → AgreeBytes (unless t 2 (said (x - 1) (bits_of xs))) (unless t 2 (said x xs) >>= λ r. answered (said (r.value - 1) r.rest))
    pick true = refl
    pick false = (refl, rest_bytes x xs h)

-- a letter from its number
abbrev following : Read ℕ → Outcome (Read ℕ)
following r = answered (said (r.value + 1) r.rest)

module _ (size : ℕ) where
  letter_agrees : (bytes : List ℕ) → AreBytes bytes → AgreeBytes (letter_in plain_form size (bits_of bytes)) (plain_letter size bytes)
  unfolding field
  letter_agrees [] h = refl
  letter_agrees (zero ∷ xs) h = ap (λ o. o >>= following) (number_read size zero xs h)
  letter_agrees (suc x ∷ xs) h =
      subst (λ o. AgreeBytes (o >>= following) (plain_letter size (suc x ∷ xs))) (sym (number_read size (suc x) xs h)) (pick (none size (suc x)))
    where
      pick : (t : Bool) → AgreeBytes (unless t 2 (said (suc x - 1) (bits_of xs)) >>= following) (unless t 2 (said (suc x) xs))
      pick true = refl
      pick false = (ap (λ n. answered (said n (bits_of xs))) {x = suc x - 1 + 1} {y = suc x} (omega arith), rest_bytes (suc x) xs h)

  -- a word behind its length byte
  abbrev letters : Read ℕ → Outcome (Read Positive)
  letters k = several (letter_in plain_form size) k.value k.rest

  word_agrees : (x : ℕ) (xs : List ℕ) → AreBytes (x ∷ xs) → AgreeBytes (word_in plain_form size (bits_of (x ∷ xs))) (plain_letters size x xs)
  word_agrees x xs h = subst (λ o. AgreeBytes o (plain_letters size x xs)) (sym read) (pick (leb word_lengths x))
    where
      read : word_in plain_form size (bits_of (x ∷ xs)) ≡ (unless (leb word_lengths x) 2 (said x (bits_of xs)) >>= letters)
      read =
          ap (λ (o : Outcome (Read ℕ)). (o >>= λ r. unless (ltb r.value 0 || leb word_lengths (r.value - 0)) 2 (said (r.value - 0) r.rest)) >>= letters)
          (byte_read x xs h)
          ∙ (ap (λ t. unless (t || leb word_lengths (x - 0)) 2 (said (x - 0) (bits_of xs)) >>= letters) (le-ltb x 0 (omega arith))
          ∙ ap (λ n. unless (leb word_lengths n) 2 (said n (bits_of xs)) >>= letters) {x = x - 0} {y = x} (omega arith))

      pick : (t : Bool) → AgreeBytes (unless t 2 (said x (bits_of xs)) >>= letters) (unless t 2 x >>= λ k. several (plain_letter size) k xs)
      pick true = refl
      pick false = several_agree bits_of AreBytes (letter_in plain_form size) (plain_letter size) letter_agrees x xs (rest_bytes x xs h)

  second_agrees : (first : Positive) (bytes : List ℕ) → AreBytes bytes
      → AgreeBytes (word_in plain_form size (bits_of bytes) >>= λ y. answered (said (complement first y.value) y.rest))
      (next_byte bytes >>= λ j. plain_letters size j.value j.rest >>= λ y. answered (said (complement first y.value) y.rest))
  unfolding field
  second_agrees first [] h = refl
  second_agrees first (x ∷ xs) h =
      then_agree bits_of AreBytes (word_in plain_form size (bits_of (x ∷ xs))) (plain_letters size x xs) _ _ (word_agrees x xs h) (λ y rest i. (refl, i))

  words_agree : (x : ℕ) (xs : List ℕ) → AreBytes (x ∷ xs) → AgreeBytes (words_in plain_form size (bits_of (x ∷ xs))) (plain_defined size x xs)
  words_agree x xs h = then_agree bits_of AreBytes (word_in plain_form size (bits_of (x ∷ xs))) (plain_letters size x xs) _ _ (word_agrees x xs h) second_agrees

  pair_agrees : (bytes : List ℕ) → AreBytes bytes → AgreeBytes (pair_in plain_form size (bits_of bytes)) (plain_pair_at size bytes)
  unfolding field
  pair_agrees [] h = refl
  pair_agrees (x ∷ xs) h = subst (λ o. AgreeBytes o (plain_pair_at size (x ∷ xs))) (sym read) (pick (eqb x open_byte))
    where
      bits : List ℕ
      bits = bits_of (x ∷ xs)

      read : pair_in plain_form size bits ≡ cond (eqb x open_byte) (answered (said undefined (bits_of xs))) (words_in plain_form size bits)
      read =
          ap (λ (o : Outcome (Read ℕ)). o >>= λ m. cond (eqb m.value open_byte) (answered (said undefined m.rest)) (words_in plain_form size bits))
          (byte_read x xs h)

      pick : (t : Bool) → AgreeBytes (cond t (answered (said undefined (bits_of xs))) (words_in plain_form size bits))
          (cond t (answered (said undefined xs)) (plain_defined size x xs))
      pick true = (refl, rest_bytes x xs h)
      pick false = words_agree x xs h

-- THE TABLE

-- bytes that are left are no filling
end_agrees : (T : Presentation) (rest : List ℕ) → finish 3 (said T (bits_of rest)) ≡ unless (ltb 0 (length rest)) 3 T
unfolding finish
end_agrees T [] = refl
end_agrees T (x ∷ xs) =
    ap (λ t. cond (t && all_zero (bits_of (x ∷ xs))) (answered T) (refused 3 unplaced))
    (le-ltb (length (bits_of (x ∷ xs))) 8 (omega (arith, length-append (digits 8 x) (bits_of xs))))
    ∙ ap (λ t. unless t 3 T) (sym (lt-ltb 0 (length (x ∷ xs)) (omega arith)))

-- the weights and the rows of a table of so many letters
abbrev parts : ℕ → List ℕ → Outcome Presentation
parts size bytes =
    several plain_weight size bytes >>= λ ws.
    rows_of (plain_pair_at size) size ws.rest >>= λ rs.
    unless (ltb 0 (length rs.rest)) 3 (record { size = size; excess = ws.value; rows = rs.value })

parts_agree : (size : ℕ) (bytes : List ℕ) → AreBytes bytes → parts_in plain_form size (bits_of bytes) ≡ parts size bytes
unfolding parts_in rows_in
parts_agree size bytes h =
    ends_agree bits_of AreBytes (several (weight_in plain_form) size (bits_of bytes)) (several plain_weight size bytes) _ _
    (several_agree bits_of AreBytes (weight_in plain_form) plain_weight weight_agrees size bytes h)
    (λ ws rest i. ends_agree bits_of AreBytes (rows_of (pair_in plain_form size) size (bits_of rest)) (rows_of (plain_pair_at size) size rest) _ _
    (rows_agree bits_of AreBytes (pair_in plain_form size) (plain_pair_at size) (pair_agrees size) size rest i)
    (λ rs rest j. end_agrees (record { size = size; excess = ws; rows = rs }) rest))

pub plain_read : (plain : List ℕ) → AreBytes plain → table_in Plain plain ≡ read_plain_table plain
unfolding table_in read_plain_table field
plain_read [] h = refl
plain_read (zero ∷ xs) h = ap (λ (o : Outcome (Read ℕ)). o >>= λ n. parts_in plain_form (n.value + 1) n.rest) (number_read most_size zero xs h)
plain_read (suc x ∷ xs) h =
    ap (λ (o : Outcome (Read ℕ)). o >>= λ n. parts_in plain_form (n.value + 1) n.rest) (number_read most_size (suc x) xs h) ∙ pick (none 16 (suc x))
  where
    pick : (t : Bool) → (unless t 2 (said (suc x - 1) (bits_of xs)) >>= λ n. parts_in plain_form (n.value + 1) n.rest) ≡
        (unless t 2 (said (suc x) xs) >>= λ n. parts n.value n.rest)
    pick true = refl
    pick false = ap (λ n. parts_in plain_form n (bits_of xs)) {x = suc x - 1 + 1} {y = suc x} (omega arith) ∙ parts_agree (suc x) xs (rest_bytes (suc x) xs h)
