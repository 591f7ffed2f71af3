-- The two forms of a table: every number fits its field, and the bits are those of the table's image and of its plain form.
use mathlib.Core.Path.{◌≡◌, refl, sym, ap, ap₂, ◌∙◌}
use mathlib.Core.List.{List, [], ◌∷◌, ◌++◌, append-nil, map}
use Prim.Native.Nat.{ℕ, zero, suc, ◌+◌, ◌-◌, ◌^◌, ◌≤◌, ◌<◌}
use native.Mathlib.Omega.{arith}
use lib.ListN.{length}
use Rattle.model.specs.Word.{Positive}
use Rattle.model.specs.Presentation.{Presentation, Complement, undefined, complement}
use Rattle.model.specs.Enumeration.{concat_map}
use Rattle.model.specs.Bits.{bits_of, digits, pack}
use Rattle.model.specs.Images.{weight_width, pair_bits, table_image, most_size, size_width}
use Rattle.model.specs.Plain.{plain_word, plain_pair, plain_table}
use Rattle.model.specs.Range.{All, AreBytes, InRange, WordInRange, PairInRange, Rows, TableInRange}
use Rattle.bits.proofs.Bytes.{bits_of_append, bits_are_bits}
use Rattle.bits.proofs.Packing.{packed_of}
use Rattle.images.specs.Forms.{image_form, plain_form}
use Rattle.writers.specs.Forms.{letter_as, pair_as, weight_as, table_as}

-- THE IMAGE

-- parts that are written alike
concat_same : {A : Type 0} (f g : A → List ℕ) → ((x : A) → f x ≡ g x) → (xs : List A) → concat_map f xs ≡ concat_map g xs
concat_same f g h [] = refl
concat_same f g h (x ∷ xs) = ap₂ (λ l r. l ++ r) (h x) (concat_same f g h xs)

pair_image : (size : ℕ) (pair : Complement) → pair_as (image_form size) pair ≡ pair_bits size pair
pair_image size undefined = refl
pair_image size (complement x y) = refl

pub image_bits : (T : Presentation) (size : ℕ) → T.size ≡ size → pack (table_as (image_form size) size T.excess T.rows) ≡ table_image T
unfolding table_image
image_bits T size e =
    ap pack
    (ap₂ (λ l r. digits size_width (size - 1) ++ (l ++ r))
    (concat_same (weight_as (image_form size)) (digits weight_width) (λ e. ap (digits weight_width) {x = e + 0} {y = e} (omega arith)) T.excess)
    (concat_same (concat_map (pair_as (image_form size))) (concat_map (pair_bits size))
    (concat_same (pair_as (image_form size)) (pair_bits size) (pair_image size))
    T.rows))
    ∙ ap (λ n. pack (digits size_width (n - 1) ++ (concat_map (digits weight_width) T.excess ++ concat_map (concat_map (pair_bits n)) T.rows))) (sym e)

-- THE PLAIN FORM

-- the bits of bytes that are written part after part
bits_of_concat : {A : Type 0} (f : A → List ℕ) (g : A → List ℕ) → ((x : A) → f x ≡ bits_of (g x)) → (xs : List A) → concat_map f xs ≡ bits_of (concat_map g xs)
bits_of_concat f g h [] = refl
bits_of_concat f g h (x ∷ xs) = ap₂ (λ l r. l ++ r) (h x) (bits_of_concat f g h xs) ∙ sym (bits_of_append (g x) (concat_map g xs))

letters_plain : (x : Positive) → concat_map (letter_as plain_form) x ≡ bits_of x
letters_plain [] = refl
letters_plain (a ∷ x) =
    let same : a - 0 ≡ a = omega arith in
    ap₂ (λ v l. digits 8 v ++ l) same (letters_plain x)

pair_plain : (pair : Complement) → pair_as plain_form pair ≡ bits_of (plain_pair pair)
pair_plain undefined = sym (append-nil (digits 8 255))
pair_plain (complement x y) =
    ap₂ (λ l r. (digits 8 (length x) ++ l) ++ (digits 8 (length y) ++ r)) (letters_plain x) (letters_plain y)
    ∙ sym (bits_of_append (plain_word x) (plain_word y))

weights_plain : (excess : List ℕ) → concat_map (weight_as plain_form) excess ≡ bits_of (map suc excess)
weights_plain [] = refl
weights_plain (e ∷ excess) =
    let same : e + 1 ≡ suc e = omega arith in
    ap₂ (λ v l. digits 8 v ++ l) same (weights_plain excess)

plain_bits : (T : Presentation) (size : ℕ) → T.size ≡ size → table_as plain_form size T.excess T.rows ≡ bits_of (plain_table T)
unfolding plain_table
plain_bits T size e =
    let rows = concat_map (concat_map plain_pair) T.rows in
    ap₂ (λ l r. digits 8 (size - 0) ++ (l ++ r)) (weights_plain T.excess)
    (bits_of_concat (concat_map (pair_as plain_form)) (concat_map plain_pair) (bits_of_concat (pair_as plain_form) plain_pair pair_plain) T.rows)
    ∙ (ap (λ l. digits 8 (size - 0) ++ l) (sym (bits_of_append (map suc T.excess) rows))
    ∙ ap (λ n. digits 8 n ++ bits_of (map suc T.excess ++ rows)) {x = size - 0} {y = T.size} (omega (arith, e)))

-- the numbers of a plain form are bytes
bytes_cons : (x : ℕ) (xs : List ℕ) → x < 256 → AreBytes xs → AreBytes (x ∷ xs)
bytes_cons x xs h r zero = h
bytes_cons x xs h r (suc i) = r i

bytes_append : (xs ys : List ℕ) → AreBytes xs → AreBytes ys → AreBytes (xs ++ ys)
bytes_append [] ys h r = r
bytes_append (x ∷ xs) ys h r = bytes_cons x (xs ++ ys) (h 0) (bytes_append xs ys (λ i. h (suc i)) r)

bytes_none : AreBytes []
bytes_none i = omega arith

bytes_concat : {A : Type 0} (P : A → Type 0) (f : A → List ℕ) → ((x : A) → P x → AreBytes (f x)) → (xs : List A) → All P xs → AreBytes (concat_map f xs)
bytes_concat P f h [] r = bytes_none
bytes_concat P f h (x ∷ xs) r = bytes_append (f x) (concat_map f xs) (h x r.0) (bytes_concat P f h xs r.1)

letters_bytes : (n : ℕ) → n ≤ most_size → (x : Positive) → All (InRange n) x → AreBytes x
letters_bytes n few [] r = bytes_none
letters_bytes n few (a ∷ x) r = bytes_cons a x (omega (arith, r.0.high)) (letters_bytes n few x r.1)

word_bytes : (n : ℕ) → n ≤ most_size → (x : Positive) → WordInRange n x → AreBytes (plain_word x)
word_bytes n few x r = bytes_cons (length x) x (omega (arith, r.short)) (letters_bytes n few x r.letters)

pair_bytes : (n : ℕ) → n ≤ most_size → (pair : Complement) → PairInRange n pair → AreBytes (plain_pair pair)
pair_bytes n few undefined r = bytes_cons 255 [] (omega arith) bytes_none
pair_bytes n few (complement x y) r = bytes_append (plain_word x) (plain_word y) (word_bytes n few x r.0) (word_bytes n few y r.1)

rows_bytes : (n : ℕ) → n ≤ most_size → (k : ℕ) (rows : List (List Complement)) → Rows (PairInRange n) k rows
    → AreBytes (concat_map (concat_map plain_pair) rows)
rows_bytes n few zero [] r = bytes_none
rows_bytes n few zero (row ∷ rows) r = absurd r
rows_bytes n few (suc k) [] r = absurd r
rows_bytes n few (suc k) (row ∷ rows) r =
    bytes_append (concat_map plain_pair row) (concat_map (concat_map plain_pair) rows) (bytes_concat (PairInRange n) plain_pair (pair_bytes n few) row r.1)
    (rows_bytes n few k rows r.2)

weights_bytes : (excess : List ℕ) → All (λ w. w < 2 ^ weight_width) excess → AreBytes (map suc excess)
weights_bytes [] r = bytes_none
weights_bytes (e ∷ excess) r = bytes_cons (suc e) (map suc excess) (omega (arith, r.0)) (weights_bytes excess r.1)

plain_bytes : (T : Presentation) → TableInRange T → AreBytes (plain_table T)
unfolding plain_table
plain_bytes T r =
    bytes_cons T.size (map suc T.excess ++ concat_map (concat_map plain_pair) T.rows) (omega (arith, r.few))
    (bytes_append (map suc T.excess) (concat_map (concat_map plain_pair) T.rows) (weights_bytes T.excess r.light)
    (rows_bytes T.size r.few T.size T.rows r.pairs))

pub plain_packed : (T : Presentation) (size : ℕ) → T.size ≡ size → TableInRange T → pack (table_as plain_form size T.excess T.rows) ≡ plain_table T
plain_packed T size e r =
    ap pack (plain_bits T size e)
    ∙ sym (packed_of (plain_table T) (bits_of (plain_table T)) [] (plain_bytes T r) (bits_are_bits (plain_table T)) (sym (append-nil (bits_of (plain_table T))))
    refl)
