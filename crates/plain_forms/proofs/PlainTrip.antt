-- Every table and program in range is read back from its plain form. A plain form that is accepted is that of what was read.
use mathlib.Core.Path.{◌≡◌, refl, sym, ap, subst, ◌∙◌}
use mathlib.Core.List.{List, [], ◌∷◌, ◌++◌, map, append_assoc, append-nil}
use mathlib.Core.Bool.{Bool, true, false, cond, not, ◌&&◌, ◌||◌}
use Prim.Native.Nat.{ℕ, suc, ◌+◌, ◌-◌, ◌%◌, ◌^◌, ◌≤◌, ◌<◌}
use native.Mathlib.Omega.{arith}
use borrow.Author.Tests.{lt-ltb, le-ltb, le-leb, ltb-true, ltb-false, ne_eqb, not-false}
use lib.Dec.{ltb, leb, eqb}
use lib.ListN.{length, length-map}
use Rattle.model.specs.Word.{Letter, forward, back, Word, Positive, byte, letter}
use Rattle.model.specs.Presentation.{Presentation, Complement, undefined, complement}
use Rattle.model.specs.Enumeration.{concat_map}
use Rattle.model.specs.Outcome.{Outcome, answered, ◌>>=◌, unless}
use Rattle.model.specs.Bits.{Read}
use Rattle.model.specs.Images.{weight_width, several, rows_of, offset_width, most_size}
use Rattle.model.specs.Plain.{plain_word, plain_pair, plain_table, plain_program, next_byte, plain_letter, plain_weight, plain_letters, plain_defined}
use Rattle.model.specs.Plain.{plain_pair_at}
use Rattle.model.specs.Plain.{read_plain_table, names_letter, plain_letters_signed, read_plain_program, most_letters}
use Rattle.model.specs.Range.{AreBytes, All, Rows, InRange, LetterInRange, WordInRange, PairInRange, ProgramInRange, TableInRange}
use Rattle.model.proofs.Booleans.{both}
use Rattle.model.proofs.Impossible.{answer_of, same_answer, not_refused}
use Rattle.plain_forms.proofs.Programs.{named_positive, named_small}
use Rattle.images.proofs.Codec.{Codec, then, several_codec, rows_codec}

-- the byte of a weight in plain form
abbrev weight_byte : ℕ → List ℕ
weight_byte w = suc w ∷ []

weight_bytes : (ws : List ℕ) → concat_map weight_byte ws ≡ map suc ws
weight_bytes [] = refl
weight_bytes (w ∷ ws) = ap (λ l. suc w ∷ l) (weight_bytes ws)

-- a plain form may be made of any bytes
abbrev Any : List ℕ → Type 0
Any input = Unit {0}

any_suffix : (xs ys : List ℕ) → Any (xs ++ ys) → Any ys
any_suffix xs ys i = tt

abbrev one : ℕ → List ℕ
one x = x ∷ []

byte_stood : (input : List ℕ) (r : Read ℕ) → next_byte input ≡ answered r → input ≡ r.value ∷ r.rest
byte_stood [] r e = absurd (let z : ◌≡◌ {A = ℕ} 0 1 = cc in omega arith)
byte_stood (x ∷ xs) r e = ap (λ r. r.value ∷ r.rest) (same_answer (record { value = x; rest = xs }) r e)

or_first : (a b : Bool) → (a || b) ≡ false → a ≡ false
or_first true b e = e
or_first false b e = refl

or_second : (a b : Bool) → (a || b) ≡ false → b ≡ false
or_second true b e = absurd (let z : ◌≡◌ {A = ℕ} 0 1 = cc in omega arith)
or_second false b e = e

or_neither : (a b : Bool) → a ≡ false → b ≡ false → (a || b) ≡ false
or_neither true b p q = p
or_neither false b p q = q

concat_ones : (xs : List ℕ) → concat_map one xs ≡ xs
concat_ones [] = refl
concat_ones (x ∷ xs) = ap (λ l. x ∷ l) (concat_ones xs)

module _ (n : ℕ) where
  named : Read ℕ → Outcome (Read ℕ)
  named r = unless (ltb r.value 1 || ltb n r.value) 2 r

  letter_parts : (input : List ℕ) (r : Read ℕ) → plain_letter n input ≡ answered r → (input ≡ r.value ∷ r.rest) × InRange n r.value
  unfolding named
  letter_parts input r e =
      let f = answer_of (next_byte input) named r e in
      let p = not_refused (ltb f.0.value 1 || ltb n f.0.value) 2 f.0 r f.2 in
      subst (λ r. (input ≡ r.value ∷ r.rest) × InRange n r.value) p.1 (
        byte_stood input f.0 f.1,
        record {
          low = ltb-false f.0.value 1 (or_first (ltb f.0.value 1) (ltb n f.0.value) p.0);
          high = ltb-false n f.0.value (or_second (ltb f.0.value 1) (ltb n f.0.value) p.0);
        },
      )

  letter_codec : Codec Any (plain_letter n) one (InRange n)
  letter_codec =
      record {
        reads_back = λ a h rest. ap (λ t. unless t 2 (record { value = a; rest = rest }))
            (or_neither (ltb a 1) (ltb n a) (le-ltb a 1 h.low) (le-ltb n a h.high));
        stood_there = λ input i r e. (letter_parts input r e).0;
        in_range = λ input i r e. (letter_parts input r e).1;
      }

  many : (k : ℕ) → Codec Any (several (plain_letter n) k) (concat_map one) (λ xs. (length xs ≡ k) × All (InRange n) xs)
  many k = several_codec Any any_suffix (plain_letter n) one (InRange n) letter_codec k

  -- the letters of a word whose length k was read
  letters_back : (x : Positive) → WordInRange n x → (rest : List ℕ) → plain_letters n (length x) (x ++ rest) ≡ answered (record { value = x; rest = rest })
  letters_back x h rest =
      ap (λ t. unless t 2 (length x) >>= λ k. several (plain_letter n) k (x ++ rest)) (le-ltb offset_width (length x) (omega (arith, h.short)))
      ∙ (ap (λ l. several (plain_letter n) (length x) (l ++ rest)) (sym (concat_ones x)) ∙ (many (length x)).reads_back x (refl, h.letters) rest)

  letters_parts : (k : ℕ) (input : List ℕ) (r : Read Positive) → plain_letters n k input ≡ answered r → (k ∷ input ≡ plain_word r.value ++ r.rest)
      × WordInRange n r.value
  letters_parts k input r e =
      let f = answer_of (unless (ltb offset_width k) 2 k) (λ k. several (plain_letter n) k input) r e in
      let p = not_refused (ltb offset_width k) 2 k f.0 f.1 in
      let s : several (plain_letter n) k input ≡ answered r = ap (λ k. several (plain_letter n) k input) p.1 ∙ f.2 in
      let c = (many k).in_range input tt r s in
      let l : k ≤ offset_width = ltb-false offset_width k p.0 in (
        ap (λ m. m ∷ input) (sym c.0) ∙ ap (λ l. length r.value ∷ l) ((many k).stood_there input tt r s ∙ ap (λ l. l ++ r.rest) (concat_ones r.value)),
        record { short = omega (arith, c.0); letters = c.1 },
      )

  second : Positive → Read ℕ → Outcome (Read Complement)
  second x j = plain_letters n j.value j.rest >>= λ y. answered (record { value = complement x y.value; rest = y.rest })

  first : Read Positive → Outcome (Read Complement)
  unfolding second
  first x = next_byte x.rest >>= second x.value

  both_back : (x y : Positive) → WordInRange n x → WordInRange n y → (rest : List ℕ)
      → plain_defined n (length x) ((x ++ plain_word y) ++ rest) ≡ answered (record { value = complement x y; rest = rest })
  both_back x y hx hy rest =
      ap (plain_defined n (length x)) (append_assoc x (plain_word y) rest)
      ∙ then (plain_letters n (length x) (x ++ (length y ∷ (y ++ rest)))) _ (record { value = x; rest = length y ∷ (y ++ rest) }) _
      (letters_back x hx (length y ∷ (y ++ rest)))
      (then (plain_letters n (length y) (y ++ rest)) (λ y. answered (record { value = complement x y.value; rest = y.rest }))
      (record { value = y; rest = rest }) _ (letters_back y hy rest) refl)

  both_parts : (k : ℕ) (input : List ℕ) (r : Read Complement) → plain_defined n k input ≡ answered r → (k ∷ input ≡ plain_pair r.value ++ r.rest)
      × PairInRange n r.value
  unfolding first second
  both_parts k input r e =
      let x = answer_of (plain_letters n k input) first r e in
      let j = answer_of (next_byte x.0.rest) (second x.0.value) r x.2 in
      let y = answer_of (plain_letters n j.0.value j.0.rest) (λ y. answered (record { value = complement x.0.value y.value; rest = y.rest })) r
      j.2 in
      let p = letters_parts k input x.0 x.1 in
      let q = letters_parts j.0.value j.0.rest y.0 y.1 in
      subst (λ r. (k ∷ input ≡ plain_pair r.value ++ r.rest) × PairInRange n r.value)
      (same_answer (record { value = complement x.0.value y.0.value; rest = y.0.rest }) r y.2) (
        p.0
            ∙ (ap (λ l. plain_word x.0.value ++ l) (byte_stood x.0.rest j.0 j.1 ∙ q.0)
            ∙ sym (append_assoc (plain_word x.0.value) (plain_word y.0.value) y.0.rest)),
        (p.1, q.1),
      )

  pair_of : Read ℕ → Outcome (Read Complement)
  pair_of k = cond (eqb k.value 255) (answered (record { value = undefined; rest = k.rest })) (plain_defined n k.value k.rest)

  pair_back : (c : Complement) → PairInRange n c → (rest : List ℕ) → plain_pair_at n (plain_pair c ++ rest) ≡ answered (record { value = c; rest = rest })
  pair_back undefined h rest = refl
  pair_back (complement x y) h rest =
      ap (λ t. cond t (answered (record { value = undefined; rest = (x ++ plain_word y) ++ rest })) (plain_defined n (length x) ((x ++ plain_word y) ++ rest)))
      (ne_eqb (length x) 255 (λ e. omega (arith, h.0.short)))
      ∙ both_back x y h.0 h.1 rest

  pair_at : (t : Bool) (k : ℕ) (rest : List ℕ) (r : Read Complement) → eqb k 255 ≡ t → cond t (answered (record { value = undefined; rest = rest }))
      (plain_defined n k rest) ≡ answered r
      → (k ∷ rest ≡ plain_pair r.value ++ r.rest) × PairInRange n r.value
  pair_at true k rest r s e =
      subst (λ r. (k ∷ rest ≡ plain_pair r.value ++ r.rest) × PairInRange n r.value) (same_answer (record { value = undefined; rest = rest }) r e)
      (ap (λ k. k ∷ rest) (borrow.Author.Tests.eqb-true k 255 s), tt)
  pair_at false k rest r s e = both_parts k rest r e

  pair_parts : (input : List ℕ) (r : Read Complement) → plain_pair_at n input ≡ answered r → (input ≡ plain_pair r.value ++ r.rest) × PairInRange n r.value
  unfolding pair_of
  pair_parts input r e =
      let k = answer_of (next_byte input) pair_of r e in
      let p = pair_at (eqb k.0.value 255) k.0.value k.0.rest r refl k.2 in
      (byte_stood input k.0 k.1 ∙ p.0, p.1)

  pair_codec : Codec Any (plain_pair_at n) plain_pair (PairInRange n)
  pair_codec =
      record {
        reads_back = pair_back;
        stood_there = λ input i r e. (pair_parts input r e).0;
        in_range = λ input i r e. (pair_parts input r e).1;
      }

  pub plain_rows : Codec Any (rows_of (plain_pair_at n) n) (concat_map (concat_map plain_pair)) (Rows (PairInRange n) n)
  plain_rows = rows_codec Any any_suffix (plain_pair_at n) plain_pair (PairInRange n) pair_codec n

-- WEIGHTS

weight_parts : (input : List ℕ) (r : Read ℕ) → plain_weight input ≡ answered r → (input ≡ weight_byte r.value ++ r.rest) × (r.value < 2 ^ weight_width)
weight_parts input r e =
    let f = answer_of (plain_letter 8 input) (λ r. answered (record { value = r.value - 1; rest = r.rest })) r e in
    let p = letter_parts 8 input f.0 f.1 in
    let whole : f.0.value ≡ suc (f.0.value - 1) = omega (arith, p.1.low) in
    subst (λ r. (input ≡ weight_byte r.value ++ r.rest) × (r.value < 2 ^ weight_width))
    (same_answer (record { value = f.0.value - 1; rest = f.0.rest }) r f.2)
    (p.0 ∙ ap (λ v. v ∷ f.0.rest) whole, omega (arith, p.1.low, p.1.high))

weight_codec : Codec Any plain_weight weight_byte (λ w. w < 2 ^ weight_width)
weight_codec =
    record {
      reads_back = λ w h rest.
          then (plain_letter 8 (suc w ∷ rest)) _ (record { value = suc w; rest = rest }) _
          ((letter_codec 8).reads_back (suc w) (record { low = omega arith; high = omega arith }) rest)
          (ap (λ v. answered (record { value = v; rest = rest })) {x = suc w - 1} {y = w} (omega arith));
      stood_there = λ input i r e. (weight_parts input r e).0;
      in_range = λ input i r e. (weight_parts input r e).1;
    }

plain_weights : (n : ℕ) → Codec Any (several plain_weight n) (concat_map weight_byte) (λ ws. (length ws ≡ n) × All (λ w. w < 2 ^ weight_width) ws)
plain_weights n = several_codec Any any_suffix plain_weight weight_byte (λ w. w < 2 ^ weight_width) weight_codec n

-- TABLES

table_end : ℕ → List ℕ → Read (List (List Complement)) → Outcome Presentation
table_end n excess rs = unless (ltb 0 (length rs.rest)) 3 (record { size = n; excess = excess; rows = rs.value })

table_rows : ℕ → Read (List ℕ) → Outcome Presentation
unfolding table_end
table_rows n ws = rows_of (plain_pair_at n) n ws.rest >>= table_end n ws.value

table_weights : Read ℕ → Outcome Presentation
unfolding table_rows table_end
table_weights n = several plain_weight n.value n.rest >>= table_rows n.value

table_size : Read ℕ → Outcome Presentation
unfolding table_weights table_rows table_end
table_size n = unless (ltb n.value 1 || ltb most_size n.value) 2 n >>= table_weights

pub plain_table_reads_back : (T : Presentation) → TableInRange T → read_plain_table (plain_table T) ≡ answered T
unfolding read_plain_table plain_table table_weights table_rows table_end
plain_table_reads_back T h =
    let rows = concat_map (concat_map plain_pair) T.rows in
    let weights = map suc T.excess in
    ap (λ t. unless t 2 (record { value = T.size; rest = weights ++ rows }) >>= table_weights)
    (or_neither (ltb T.size 1) (ltb most_size T.size) (le-ltb T.size 1 h.some) (le-ltb most_size T.size h.few))
    ∙ (ap (λ l. several plain_weight T.size (l ++ rows) >>= table_rows T.size) (sym (weight_bytes T.excess))
    ∙ then (several plain_weight T.size (concat_map weight_byte T.excess ++ rows)) (table_rows T.size) (record { value = T.excess; rest = rows }) _
    ((plain_weights T.size).reads_back T.excess (h.weighed, h.light) rows)
    (ap (λ l. rows_of (plain_pair_at T.size) T.size l >>= table_end T.size T.excess) (sym (append-nil rows))
    ∙ ap (λ o. o >>= table_end T.size T.excess) ((plain_rows T.size).reads_back T.rows h.pairs [])))

no_rest : (l : List ℕ) → length l ≤ 0 → l ≡ []
no_rest [] h = refl
no_rest (x ∷ l) h = absurd (omega arith)

pub plain_table_of : (bytes : List ℕ) (T : Presentation) → read_plain_table bytes ≡ answered T → (bytes ≡ plain_table T) × TableInRange T
unfolding read_plain_table plain_table table_size table_weights table_rows table_end
plain_table_of bytes T e =
    let h = answer_of (next_byte bytes) table_size T e in
    let s = answer_of (unless (ltb h.0.value 1 || ltb most_size h.0.value) 2 h.0) table_weights T h.2 in
    let p = not_refused (ltb h.0.value 1 || ltb most_size h.0.value) 2 h.0 s.0 s.1 in
    let t : table_weights h.0 ≡ answered T = ap table_weights p.1 ∙ s.2 in
    let w = answer_of (several plain_weight h.0.value h.0.rest) (table_rows h.0.value) T t in
    let r = answer_of (rows_of (plain_pair_at h.0.value) h.0.value w.0.rest) (table_end h.0.value w.0.value) T w.2 in
    let q = not_refused (ltb 0 (length r.0.rest)) 3 (record { size = h.0.value; excess = w.0.value; rows = r.0.value }) T r.2 in
    let z : r.0.rest ≡ [] = no_rest r.0.rest (ltb-false 0 (length r.0.rest) q.0) in
    subst (λ T. (bytes ≡ plain_table T) × TableInRange T) q.1 (
      byte_stood bytes h.0 h.1
          ∙ ap (λ l. h.0.value ∷ l)
          ((plain_weights h.0.value).stood_there h.0.rest tt w.0 w.1
          ∙ (ap (λ l. l ++ w.0.rest) (weight_bytes w.0.value)
          ∙ ap (λ l. map suc w.0.value ++ l)
          ((plain_rows h.0.value).stood_there w.0.rest tt r.0 r.1
          ∙ (ap (λ l. concat_map (concat_map plain_pair) r.0.value ++ l) z ∙ append-nil (concat_map (concat_map plain_pair) r.0.value))))),
      record {
        some = ltb-false h.0.value 1 (or_first (ltb h.0.value 1) (ltb most_size h.0.value) p.0);
        few = ltb-false most_size h.0.value (or_second (ltb h.0.value 1) (ltb most_size h.0.value) p.0);
        weighed = ((plain_weights h.0.value).in_range h.0.rest tt w.0 w.1).0;
        light = ((plain_weights h.0.value).in_range h.0.rest tt w.0 w.1).1;
        pairs = (plain_rows h.0.value).in_range w.0.rest tt r.0 r.1;
      },
    )

-- PROGRAMS

-- the byte of a letter in range names it
byte_names : (n : ℕ) (x : Letter) → n ≤ most_size → LetterInRange n x → names_letter n (byte x) ≡ true
byte_names n (forward a) few h =
    let e : a % 128 ≡ a = omega (arith, h.high) in
    ap (λ v. leb 1 v && leb v n) e ∙ both (le-leb 1 a h.low) (le-leb a n h.high)
byte_names n (back a) few h =
    let e : (128 + a) % 128 ≡ a = omega (arith, h.high) in
    ap (λ v. leb 1 v && leb v n) e ∙ both (le-leb 1 a h.low) (le-leb a n h.high)

letter_of_byte : (n : ℕ) (x : Letter) → n ≤ most_size → LetterInRange n x → letter (byte x) ≡ x
letter_of_byte n (forward a) few h = ap (λ t. cond t (forward a) (back (a - 128))) (lt-ltb a 128 (omega (arith, h.high)))
letter_of_byte n (back a) few h =
    ap (λ t. cond t (forward (128 + a)) (back (128 + a - 128))) (le-ltb (128 + a) 128 (omega arith)) ∙ ap back {x = 128 + a - 128} {y = a} (omega arith)

letters_read_back : (n : ℕ) (w : Word) → n ≤ most_size → All (LetterInRange n) w → plain_letters_signed n (plain_program w) ≡ answered w
letters_read_back n [] few h = refl
letters_read_back n (x ∷ w) few h =
    ap (λ t. unless (not t) 5 (letter (byte x)) >>= λ a. plain_letters_signed n (plain_program w) >>= λ w. answered (a ∷ w)) (byte_names n x few h.0)
    ∙ (ap (λ o. o >>= λ w. answered (letter (byte x) ∷ w)) (letters_read_back n w few h.1)
    ∙ ap (λ a. answered (a ∷ w)) (letter_of_byte n x few h.0))

pub plain_program_reads_back : (n : ℕ) → n ≤ most_size → (w : Word) → ProgramInRange n w → read_plain_program n (plain_program w) ≡ answered w
unfolding read_plain_program
plain_program_reads_back n few w h =
    ap (λ t. unless t 4 (plain_program w) >>= plain_letters_signed n)
    (le-ltb most_letters (length (plain_program w)) (omega (arith, h.short, length-map w byte)))
    ∙ letters_read_back n w few h.letters

-- a byte is that of the letter it names
named_letter : (n x : ℕ) → x < 256 → names_letter n x ≡ true → (byte (letter x) ≡ x) × LetterInRange n (letter x)
named_letter n x h e = by_sign (ltb x 128) refl
  where
    by_sign : (t : Bool) → ltb x 128 ≡ t → (byte (cond t (forward x) (back (x - 128))) ≡ x) × LetterInRange n (cond t (forward x) (back (x - 128)))
    by_sign true s =
        let l : x < 128 = ltb-true x 128 s in
        (refl, record { low = omega (arith, named_positive n x e); high = omega (arith, named_small n x e) })
    by_sign false s =
        let l : 128 ≤ x = ltb-false x 128 s in
        (omega arith, record { low = omega (arith, named_positive n x e); high = omega (arith, named_small n x e) })

program_parts : (n : ℕ) (bytes : List ℕ) (w : Word) → AreBytes bytes → plain_letters_signed n bytes ≡ answered w → (bytes ≡ plain_program w)
    × All (LetterInRange n) w
program_parts n [] w bs e = subst (λ w. ([] ≡ plain_program w) × All (LetterInRange n) w) (same_answer [] w e) (refl, tt)
program_parts n (x ∷ bytes) w bs e =
    let f = answer_of (unless (not (names_letter n x)) 5 (letter x)) (λ a. plain_letters_signed n bytes >>= λ w. answered (a ∷ w)) w e in
    let g = answer_of (plain_letters_signed n bytes) (λ w. answered (f.0 ∷ w)) w f.2 in
    let p = not_refused (not (names_letter n x)) 5 (letter x) f.0 f.1 in
    let r = program_parts n bytes g.0 (λ i. bs (suc i)) g.1 in
    let t = named_letter n x (bs 0) (not-false (names_letter n x) p.0) in
    let u : letter x ∷ g.0 ≡ w = ap (λ a. a ∷ g.0) p.1 ∙ same_answer (f.0 ∷ g.0) w g.2 in
    subst (λ w. (x ∷ bytes ≡ plain_program w) × All (LetterInRange n) w) u (
      ap (λ v. v ∷ bytes) (sym t.0) ∙ ap (λ l. byte (letter x) ∷ l) r.0,
      (t.1, r.1),
    )

pub plain_program_of : (n : ℕ) (bytes : List ℕ) → AreBytes bytes → (w : Word) → read_plain_program n bytes ≡ answered w → (bytes ≡ plain_program w)
    × ProgramInRange n w
unfolding read_plain_program
plain_program_of n bytes bs w e =
    let f = answer_of (unless (ltb most_letters (length bytes)) 4 bytes) (plain_letters_signed n) w e in
    let p = not_refused (ltb most_letters (length bytes)) 4 bytes f.0 f.1 in
    let r = program_parts n bytes w bs (ap (plain_letters_signed n) p.1 ∙ f.2) in
    let l : length bytes ≤ most_letters = ltb-false most_letters (length bytes) p.0 in
    (r.0, record { short = omega (arith, ap length r.0, length-map w byte); letters = r.1 })
