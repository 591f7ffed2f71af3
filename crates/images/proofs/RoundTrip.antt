-- Every table, program and chain in range is read back from its image; and every image that is accepted is the image of what was read, so
-- two different images never mean the same.
use mathlib.Core.Path.{◌≡◌, refl, sym, ap, subst, ◌∙◌}
use mathlib.Core.List.{List, [], ◌∷◌, ◌++◌, append_assoc}
use mathlib.Core.Bool.{Bool, true, false, cond}
use Prim.Native.Nat.{ℕ, ◌+◌, ◌-◌, ◌*◌, ◌^◌, ◌≤◌, ◌<◌}
use native.Mathlib.Omega.{arith}
use lib.ListN.{length, replicate}
use Rattle.model.specs.Word.{Letter, forward, back, Word, Positive}
use Rattle.model.specs.Presentation.{Presentation, Complement, undefined, complement}
use Rattle.model.specs.Equivalence.{Entry}
use Rattle.model.specs.Enumeration.{concat_map}
use Rattle.model.specs.Outcome.{unplaced, Outcome, answered, refused, ◌>>=◌}
use Rattle.model.specs.Bits.{Read, field, finish, filling, digits, bits_of, bytes_for, pack, letter_width}
use Rattle.model.specs.Images.{weight_width, several, rows_of, letter_bits, word_bits, pair_field, pair_bits, signed_field, signed_bits, entry_field}
use Rattle.model.specs.Images.{entry_bits}
use Rattle.model.specs.Images.{read_table, table_image, read_program, program_image, read_chain, chain_image, count_width, offset_width}
use Rattle.bits.proofs.Digits.{AreBits, digits_are_bits, bits_append}
use Rattle.bits.proofs.Bytes.{bits_are_bits}
use Rattle.model.specs.Range.{AreBytes, All, Rows, LetterInRange, PairInRange, EntryInRange, ProgramInRange, TableInRange, ChainInRange}
use Rattle.model.proofs.Impossible.{answer_of, same_answer}
use Rattle.model.specs.Images.{most_size, chain_count_width, length_width, size_width}
use Rattle.bits.proofs.Packing.{pack_bits, pack_filling, packed_of}
use Rattle.images.proofs.Several.{bind_assoc}
use Rattle.images.proofs.Codec.{Codec, then, several_codec, field_codec, rows_codec, input_rest, bits_suffix}
use Rattle.images.proofs.Inverse.{counted, counted_codec, signed_codec, pair_codec, entry_codec}

-- an image: what a codec reads and writes, then the filling
module _ {A : Type 0} (tail : ℕ) (reader : List ℕ → Outcome (Read A)) (write : A → List ℕ) (Range : A → Type 0) (one : Codec AreBits reader write Range) where
  image_reads_back : (x : A) → Range x → AreBits (write x) → (reader (bits_of (pack (write x))) >>= finish tail) ≡ answered x
  unfolding finish
  image_reads_back x h b =
      ap (λ bits. reader bits >>= finish tail) (pack_bits (write x) b)
      ∙ then (reader (write x ++ replicate (8 * bytes_for (length (write x)) - length (write x)) 0)) (finish tail)
      (record { value = x; rest = replicate (8 * bytes_for (length (write x)) - length (write x)) 0 }) (answered x)
      (one.reads_back x h (replicate (8 * bytes_for (length (write x)) - length (write x)) 0))
      (ap (λ t. cond t (answered x) (refused tail unplaced)) (pack_filling (write x)))

  finished : (t : Bool) (v x : A) → cond t (answered v) (refused tail unplaced) ≡ answered x → (t ≡ true) × (v ≡ x)
  finished true v x e = (refl, same_answer v x e)
  finished false v x e = absurd (let z : ◌≡◌ {A = ℕ} 0 1 = cc in omega arith)

  image_stood_there : (bytes : List ℕ) → AreBytes bytes → (x : A) → ((y : A) → Range y → AreBits (write y))
      → (reader (bits_of bytes) >>= finish tail) ≡ answered x → (bytes ≡ pack (write x)) × Range x
  unfolding finish
  image_stood_there bytes bs x b e =
      let f = answer_of (reader (bits_of bytes)) (finish tail) x e in
      let p = finished (filling f.0.rest) f.0.value x f.2 in
      let s = one.stood_there (bits_of bytes) (bits_are_bits bytes) f.0 f.1 in
      let r = one.in_range (bits_of bytes) (bits_are_bits bytes) f.0 f.1 in
      subst (λ x. (bytes ≡ pack (write x)) × Range x) p.1 (packed_of bytes (write f.0.value) f.0.rest bs (b f.0.value r) s p.0, r)

  image_in_range : (bytes : List ℕ) (x : A) → (reader (bits_of bytes) >>= finish tail) ≡ answered x → Range x
  unfolding finish
  image_in_range bytes x e =
      let f = answer_of (reader (bits_of bytes)) (finish tail) x e in
      subst Range (finished (filling f.0.rest) f.0.value x f.2).1 (one.in_range (bits_of bytes) (bits_are_bits bytes) f.0 f.1)

-- what is written are bits
pub concat_bits : {A : Type 0} (write : A → List ℕ) → ((x : A) → AreBits (write x)) → (xs : List A) → AreBits (concat_map write xs)
concat_bits write b [] = tt
concat_bits write b (x ∷ xs) = bits_append (write x) (concat_map write xs) (b x) (concat_bits write b xs)

letter_are_bits : (n a : ℕ) → AreBits (letter_bits n a)
letter_are_bits n a = digits_are_bits (letter_width n) (a - 1)

pub word_are_bits : (n : ℕ) (x : Positive) → AreBits (word_bits n x)
word_are_bits n x = bits_append (digits length_width (length x)) (concat_map (letter_bits n) x) (digits_are_bits length_width (length x))
    (concat_bits (letter_bits n) (letter_are_bits n) x)

pub pair_are_bits : (n : ℕ) (c : Complement) → AreBits (pair_bits n c)
pair_are_bits n undefined = (omega arith, tt)
pair_are_bits n (complement x y) = (omega arith, bits_append (word_bits n x) (word_bits n y) (word_are_bits n x) (word_are_bits n y))

pub signed_are_bits : (n : ℕ) (x : Letter) → AreBits (signed_bits n x)
signed_are_bits n (forward a) = (omega arith, letter_are_bits n a)
signed_are_bits n (back a) = (omega arith, letter_are_bits n a)

entry_are_bits : (n : ℕ) (e : Entry) → AreBits (entry_bits n e)
entry_are_bits n e = bits_append (digits offset_width e.offset) (letter_bits n e.a ++ letter_bits n e.b) (digits_are_bits offset_width e.offset)
    (bits_append (letter_bits n e.a) (letter_bits n e.b) (letter_are_bits n e.a) (letter_are_bits n e.b))

-- PROGRAMS
module _ (n : ℕ) (few : n ≤ most_size) where
  program_codec : Codec AreBits (counted 4 count_width (signed_field n) (signed_bits n) (LetterInRange n) (signed_codec n few))
      (λ w. digits count_width (length w) ++ concat_map (signed_bits n) w) (λ w. (length w < 2 ^ count_width) × All (LetterInRange n) w)
  program_codec = counted_codec 4 count_width (signed_field n) (signed_bits n) (LetterInRange n) (signed_codec n few)

  program_bits_lem : (w : Word) → AreBits (digits count_width (length w) ++ concat_map (signed_bits n) w)
  program_bits_lem w = bits_append (digits count_width (length w)) (concat_map (signed_bits n) w) (digits_are_bits count_width (length w))
      (concat_bits (signed_bits n) (signed_are_bits n) w)

  program_is : (bytes : List ℕ)
      → read_program n bytes ≡ (counted 4 count_width (signed_field n) (signed_bits n) (LetterInRange n) (signed_codec n few) (bits_of bytes) >>= finish 6)
  unfolding read_program
  program_is bytes = sym (bind_assoc (field 4 count_width (bits_of bytes)) (λ k. several (signed_field n) k.value k.rest) (finish 6))

  pub program_reads_back : (w : Word) → ProgramInRange n w → read_program n (program_image n w) ≡ answered w
  unfolding program_image
  program_reads_back w h =
      program_is (program_image n w) ∙ image_reads_back 6 _ _ _ program_codec w (h.short, h.letters) (program_bits_lem w)

  pub program_image_of : (bytes : List ℕ) → AreBytes bytes → (w : Word) → read_program n bytes ≡ answered w → (bytes ≡ program_image n w) × ProgramInRange n w
  unfolding program_image
  program_image_of bytes bs w e =
      let p = image_stood_there 6 _ _ _ program_codec bytes bs w (λ w h. program_bits_lem w) (sym (program_is bytes) ∙ e) in
      (p.0, record { short = p.1.0; letters = p.1.1 })

  pub program_in_range : (bytes : List ℕ) (w : Word) → read_program n bytes ≡ answered w → ProgramInRange n w
  program_in_range bytes w e =
      let p = image_in_range 6 _ _ _ program_codec bytes w (sym (program_is bytes) ∙ e) in
      record { short = p.0; letters = p.1 }

  -- CHAINS
  chain_codec : Codec AreBits (counted 4 chain_count_width (entry_field n) (entry_bits n) (EntryInRange n) (entry_codec n few))
      (λ es. digits chain_count_width (length es) ++ concat_map (entry_bits n) es) (λ es. (length es < 2 ^ chain_count_width) × All (EntryInRange n) es)
  chain_codec = counted_codec 4 chain_count_width (entry_field n) (entry_bits n) (EntryInRange n) (entry_codec n few)

  chain_bits : (es : List Entry) → AreBits (digits chain_count_width (length es) ++ concat_map (entry_bits n) es)
  chain_bits es = bits_append (digits chain_count_width (length es)) (concat_map (entry_bits n) es) (digits_are_bits chain_count_width (length es))
      (concat_bits (entry_bits n) (entry_are_bits n) es)

  chain_is : (bytes : List ℕ)
      → read_chain n bytes ≡ (counted 4 chain_count_width (entry_field n) (entry_bits n) (EntryInRange n) (entry_codec n few) (bits_of bytes) >>= finish 6)
  unfolding read_chain
  chain_is bytes = sym (bind_assoc (field 4 chain_count_width (bits_of bytes)) (λ k. several (entry_field n) k.value k.rest) (finish 6))

  pub chain_reads_back : (es : List Entry) → ChainInRange n es → read_chain n (chain_image n es) ≡ answered es
  unfolding chain_image
  chain_reads_back es h =
      chain_is (chain_image n es) ∙ image_reads_back 6 _ _ _ chain_codec es (h.short, h.entries) (chain_bits es)

  pub chain_image_of : (bytes : List ℕ) → AreBytes bytes → (es : List Entry) → read_chain n bytes ≡ answered es → (bytes ≡ chain_image n es) × ChainInRange n es
  unfolding chain_image
  chain_image_of bytes bs es e =
      let p = image_stood_there 6 _ _ _ chain_codec bytes bs es (λ es h. chain_bits es) (sym (chain_is bytes) ∙ e) in
      (p.0, record { short = p.1.0; entries = p.1.1 })

  pub chain_in_range : (bytes : List ℕ) (es : List Entry) → read_chain n bytes ≡ answered es → ChainInRange n es
  chain_in_range bytes es e =
      let p = image_in_range 6 _ _ _ chain_codec bytes es (sym (chain_is bytes) ∙ e) in
      record { short = p.0; entries = p.1 }

-- TABLES
rows_of_lem : (n : ℕ) → n ≤ most_size → Codec AreBits (rows_of (pair_field n) n) (concat_map (concat_map (pair_bits n))) (Rows (PairInRange n) n)
rows_of_lem n few = rows_codec AreBits bits_suffix (pair_field n) (pair_bits n) (PairInRange n) (pair_codec n few) n

weights_of : (n : ℕ) → Codec AreBits (several (field 1 weight_width) n) (concat_map (digits weight_width))
    (λ ws. (length ws ≡ n) × All (λ w. w < 2 ^ weight_width) ws)
weights_of n = several_codec AreBits bits_suffix (field 1 weight_width) (digits weight_width) (λ w. w < 2 ^ weight_width) (field_codec 1 weight_width) n

-- what comes after the number of letters: the weights, then the rows
body_bits : ℕ → Presentation → List ℕ
body_bits n T = concat_map (digits weight_width) T.excess ++ concat_map (concat_map (pair_bits n)) T.rows

after_weights : ℕ → Read (List ℕ) → Outcome (Read Presentation)
after_weights n ws =
    rows_of (pair_field n) n ws.rest >>= λ rs.
    answered (record { value = record { size = n; excess = ws.value; rows = rs.value }; rest = rs.rest })

body : ℕ → List ℕ → Outcome (Read Presentation)
unfolding after_weights
body n input = several (field 1 weight_width) n input >>= after_weights n

-- a table of n letters whose weights and pairs are in range
record BodyInRange (n : ℕ) (T : Presentation) : Type 0 where
  pub sized : T.size ≡ n
  pub weighed : length T.excess ≡ n
  pub light : All (λ w. w < 2 ^ weight_width) T.excess
  pub pairs : Rows (PairInRange n) n T.rows

module _ (n : ℕ) (few : n ≤ most_size) where
  body_back : (T : Presentation) → BodyInRange n T → (rest : List ℕ) → body n (body_bits n T ++ rest) ≡ answered (record { value = T; rest = rest })
  unfolding body after_weights body_bits
  body_back T h rest =
      let rows = concat_map (concat_map (pair_bits n)) T.rows in
      ap (λ l. several (field 1 weight_width) n l >>= after_weights n) (append_assoc (concat_map (digits weight_width) T.excess) rows rest)
      ∙ then (several (field 1 weight_width) n (concat_map (digits weight_width) T.excess ++ (rows ++ rest))) (after_weights n)
      (record { value = T.excess; rest = rows ++ rest }) _
      ((weights_of n).reads_back T.excess (h.weighed, h.light) (rows ++ rest))
      (then (rows_of (pair_field n) n (rows ++ rest)) _ (record { value = T.rows; rest = rest }) _
      ((rows_of_lem n few).reads_back T.rows h.pairs rest)
      (ap (λ k. answered (record { value = record { size = k; excess = T.excess; rows = T.rows }; rest = rest })) (sym h.sized)))

  body_parts : (input : List ℕ) → AreBits input → (r : Read Presentation) → body n input ≡ answered r → (input ≡ body_bits n r.value ++ r.rest)
      × BodyInRange n r.value
  unfolding body after_weights body_bits
  body_parts input i r e =
      let w = answer_of (several (field 1 weight_width) n input) (after_weights n) r e in
      let j = input_rest AreBits bits_suffix (weights_of n) input i w.0 w.1 in
      let t = answer_of (rows_of (pair_field n) n w.0.rest)
      (λ rs. answered (record { value = record { size = n; excess = w.0.value; rows = rs.value }; rest = rs.rest })) r w.2 in
      subst (λ r. (input ≡ body_bits n r.value ++ r.rest) × BodyInRange n r.value)
      (same_answer (record { value = record { size = n; excess = w.0.value; rows = t.0.value }; rest = t.0.rest }) r t.2) (
        (weights_of n).stood_there input i w.0 w.1
            ∙ (ap (λ l. concat_map (digits weight_width) w.0.value ++ l) ((rows_of_lem n few).stood_there w.0.rest j t.0 t.1)
            ∙ sym (append_assoc (concat_map (digits weight_width) w.0.value) (concat_map (concat_map (pair_bits n)) t.0.value) t.0.rest)),
        record {
          sized = refl;
          weighed = ((weights_of n).in_range input i w.0 w.1).0;
          light = ((weights_of n).in_range input i w.0 w.1).1;
          pairs = (rows_of_lem n few).in_range w.0.rest j t.0 t.1;
        },
      )

table_body : List ℕ → Outcome (Read Presentation)
unfolding body
table_body input = field 1 size_width input >>= λ head. body (head.value + 1) head.rest

table_bits : Presentation → List ℕ
unfolding body_bits
table_bits T = digits size_width (T.size - 1) ++ body_bits T.size T

table_are_bits : (T : Presentation) → AreBits (table_bits T)
unfolding table_bits body_bits
table_are_bits T =
    bits_append (digits size_width (T.size - 1)) (body_bits T.size T) (digits_are_bits size_width (T.size - 1))
    (bits_append (concat_map (digits weight_width) T.excess) (concat_map (concat_map (pair_bits T.size)) T.rows)
    (concat_bits (digits weight_width) (digits_are_bits weight_width) T.excess)
    (concat_bits (concat_map (pair_bits T.size)) (concat_bits (pair_bits T.size) (pair_are_bits T.size)) T.rows))

table_parts : (input : List ℕ) → AreBits input → (r : Read Presentation) → table_body input ≡ answered r → (input ≡ table_bits r.value ++ r.rest)
    × TableInRange r.value
unfolding table_body table_bits
table_parts input i r e =
    let h = answer_of (field 1 size_width input) (λ head. body (head.value + 1) head.rest) r e in
    let small : h.0.value < 2 ^ 4 = (field_codec 1 4).in_range input i h.0 h.1 in
    let j = input_rest AreBits bits_suffix (field_codec 1 4) input i h.0 h.1 in
    let few : h.0.value + 1 ≤ most_size = omega arith in
    let p = body_parts (h.0.value + 1) few h.0.rest j r h.2 in
    let size : r.value.size ≡ h.0.value + 1 = p.1.sized in
    let less : h.0.value ≡ r.value.size - 1 = omega arith in (
      (field_codec 1 4).stood_there input i h.0 h.1
          ∙ (ap (λ l. digits size_width h.0.value ++ l) p.0
          ∙ (ap (λ v. digits size_width v ++ (body_bits (h.0.value + 1) r.value ++ r.rest)) less
          ∙ (ap (λ k. digits size_width (r.value.size - 1) ++ (body_bits k r.value ++ r.rest)) (sym size)
          ∙ sym (append_assoc (digits size_width (r.value.size - 1)) (body_bits r.value.size r.value) r.rest)))),
      record {
        some = omega arith;
        few = omega arith;
        weighed = p.1.weighed ∙ sym size;
        light = p.1.light;
        pairs = subst (λ k. Rows (PairInRange k) k r.value.rows) (sym size) p.1.pairs;
      },
    )

table_codec : Codec AreBits table_body table_bits TableInRange
unfolding table_body table_bits
table_codec =
    record {
      reads_back = λ T h rest.
          ap table_body (append_assoc (digits size_width (T.size - 1)) (body_bits T.size T) rest)
          ∙ then (field 1 size_width (digits size_width (T.size - 1) ++ (body_bits T.size T ++ rest))) (λ head. body (head.value + 1) head.rest)
          (record { value = T.size - 1; rest = body_bits T.size T ++ rest }) _
          ((field_codec 1 4).reads_back (T.size - 1) (omega (arith, h.few)) (body_bits T.size T ++ rest))
          (ap (λ k. body k (body_bits T.size T ++ rest)) {x = T.size - 1 + 1} {y = T.size} (omega (arith, h.some))
          ∙ body_back T.size h.few T (record { sized = refl; weighed = h.weighed; light = h.light; pairs = h.pairs }) rest);
      stood_there = λ input i r e. (table_parts input i r e).0;
      in_range = λ input i r e. (table_parts input i r e).1;
    }

table_is : (bytes : List ℕ) → read_table bytes ≡ (table_body (bits_of bytes) >>= finish 3)
unfolding read_table table_body body after_weights
table_is bytes = sym
    (bind_assoc (field 1 size_width (bits_of bytes)) (λ head. body (head.value + 1) head.rest) (finish 3) ∙ at_head (field 1 size_width (bits_of bytes)))
  where
    at_rows : (n : ℕ) (o : Outcome (Read (List ℕ))) → (o >>= λ ws. after_weights n ws >>= finish 3)
        ≡ (o >>= λ ws. rows_of (pair_field n) n ws.rest >>= λ rs. finish 3
        (record { value = record { size = n; excess = ws.value; rows = rs.value }; rest = rs.rest }))
    at_rows n (answered ws) = bind_assoc (rows_of (pair_field n) n ws.rest) _ (finish 3)
    at_rows n (refused k ps) = refl

    at_head : (o : Outcome (Read ℕ)) → (o >>= λ head. body (head.value + 1) head.rest >>= finish 3)
        ≡ (o >>= λ head. several (field 1 weight_width) (head.value + 1) head.rest >>= λ ws. rows_of (pair_field (head.value + 1)) (head.value + 1)
        ws.rest >>= λ rs. finish 3 (record { value = record { size = head.value + 1; excess = ws.value; rows = rs.value }; rest = rs.rest }))
    at_head (answered head) = bind_assoc (several (field 1 weight_width) (head.value + 1) head.rest) (after_weights (head.value + 1)) (finish 3)
        ∙ at_rows (head.value + 1) (several (field 1 weight_width) (head.value + 1) head.rest)
    at_head (refused n ps) = refl

pub table_reads_back : (T : Presentation) → TableInRange T → read_table (table_image T) ≡ answered T
unfolding table_image table_bits body_bits
table_reads_back T h = table_is (table_image T) ∙ image_reads_back 3 table_body table_bits TableInRange table_codec T h (table_are_bits T)

pub table_image_of : (bytes : List ℕ) → AreBytes bytes → (T : Presentation) → read_table bytes ≡ answered T → (bytes ≡ table_image T) × TableInRange T
unfolding table_image table_bits body_bits
table_image_of bytes bs T e = image_stood_there 3 table_body table_bits TableInRange table_codec bytes bs T (λ T h. table_are_bits T) (sym (table_is bytes) ∙ e)

pub table_in_range : (bytes : List ℕ) (T : Presentation) → read_table bytes ≡ answered T → TableInRange T
table_in_range bytes T e = image_in_range 3 table_body table_bits TableInRange table_codec bytes T (sym (table_is bytes) ∙ e)
