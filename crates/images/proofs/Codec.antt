-- A reader and a writer of the same thing: what is written is read back, and what was read is what stood there. A reader that is taken several
-- times, or in rows, is one again.
use mathlib.Core.Path.{◌≡◌, refl, sym, ap, subst, ◌∙◌}
use mathlib.Core.List.{List, [], ◌∷◌, ◌++◌, append_assoc}
use Prim.Native.Nat.{ℕ, zero, suc, ◌^◌, ◌≤◌, ◌<◌}
use native.Mathlib.Omega.{arith}
use borrow.Author.Tests.{le-ltb, ltb-false}
use lib.Dec.{ltb}
use lib.ListN.{length, take, drop, length-append, take-append-drop}
use lib.Seq.{take_at, drop_at, length-take-le}
use Rattle.model.specs.Enumeration.{concat_map}
use Rattle.model.specs.Outcome.{Outcome, answered, ◌>>=◌, unless}
use Rattle.model.specs.Bits.{Read, field, digits, number}
use Rattle.model.specs.Images.{several, rows_of}
use Rattle.bits.proofs.Digits.{AreBits, length_digits, number_bound, number_of_digits, digits_of_number}
use Rattle.bits.proofs.Fields.{bits_take}
use Rattle.model.specs.Range.{All, Rows}
use Rattle.model.proofs.Impossible.{answer_of, same_answer, not_refused}

-- the parts of an outcome in order: what the first answers, and what follows from it
pub then : {A B : Type 0} (o : Outcome A) (f : A → Outcome B) (x : A) (y : Outcome B) → o ≡ answered x → f x ≡ y → (o >>= f) ≡ y
then o f x y e g = ap (λ o. o >>= f) e ∙ g

-- `Input` says what the input is made of: bits, or anything for a plain form
pub record Codec {A : Type 0} (Input : List ℕ → Type 0) (reader : List ℕ → Outcome (Read A)) (write : A → List ℕ) (Range : A → Type 0) : Type 0 where
  pub reads_back : (x : A) → Range x → (rest : List ℕ) → reader (write x ++ rest) ≡ answered (record { value = x; rest = rest })
  pub stood_there : (input : List ℕ) → Input input → (r : Read A) → reader input ≡ answered r → input ≡ write r.value ++ r.rest
  pub in_range : (input : List ℕ) → Input input → (r : Read A) → reader input ≡ answered r → Range r.value

module _ (Input : List ℕ → Type 0) (suffix : (xs ys : List ℕ) → Input (xs ++ ys) → Input ys) where
  pub input_rest : {A : Type 0} {reader : List ℕ → Outcome (Read A)} {write : A → List ℕ} {Range : A → Type 0} → Codec Input reader write Range
      → (input : List ℕ) → Input input → (r : Read A) → reader input ≡ answered r → Input r.rest
  input_rest {write = write} c input i r e = suffix (write r.value) r.rest (subst Input (c.stood_there input i r e) i)

  module _ {A : Type 0} (reader : List ℕ → Outcome (Read A)) (write : A → List ℕ) (Range : A → Type 0) (one : Codec Input reader write Range) where
    next : ℕ → Read A → Outcome (Read (List A))
    next k r = several reader k r.rest >>= λ rs. answered (record { value = r.value ∷ rs.value; rest = rs.rest })

    several_reads_back : (xs : List A) → All Range xs → (rest : List ℕ) → several reader (length xs) (concat_map write xs ++ rest) ≡ answered
        (record { value = xs; rest = rest })
    several_reads_back [] h rest = refl
    several_reads_back (x ∷ xs) h rest =
        ap (several reader (suc (length xs))) (append_assoc (write x) (concat_map write xs) rest)
        ∙ then (reader (write x ++ (concat_map write xs ++ rest))) _ (record { value = x; rest = concat_map write xs ++ rest })
        (answered (record { value = x ∷ xs; rest = rest }))
        (one.reads_back x h.0 (concat_map write xs ++ rest))
        (then (several reader (length xs) (concat_map write xs ++ rest)) (λ rs. answered (record { value = x ∷ rs.value; rest = rs.rest }))
        (record { value = xs; rest = rest }) _ (several_reads_back xs h.1 rest) refl)

    several_stood : (k : ℕ) (input : List ℕ) → Input input → (r : Read (List A)) → several reader k input ≡ answered r
        → (input ≡ concat_map write r.value ++ r.rest) × (length r.value ≡ k) × All Range r.value
    unfolding next
    several_stood zero input i r e =
        subst (λ r. (input ≡ concat_map write r.value ++ r.rest) × (length r.value ≡ 0) × All Range r.value)
        (same_answer (record { value = []; rest = input }) r e) (refl, refl, tt)
    several_stood (suc k) input i r e =
        let f = answer_of (reader input) (next k) r e in
        let t = answer_of (several reader k f.0.rest) (λ rs. answered (record { value = f.0.value ∷ rs.value; rest = rs.rest })) r f.2 in
        let h = several_stood k f.0.rest (input_rest one input i f.0 f.1) t.0 t.1 in
        subst (λ r. (input ≡ concat_map write r.value ++ r.rest) × (length r.value ≡ suc k) × All Range r.value)
        (same_answer (record { value = f.0.value ∷ t.0.value; rest = t.0.rest }) r t.2) (
          one.stood_there input i f.0 f.1
              ∙ (ap (λ l. write f.0.value ++ l) h.0 ∙ sym (append_assoc (write f.0.value) (concat_map write t.0.value) t.0.rest)),
          ap suc h.1,
          (one.in_range input i f.0 f.1, h.2),
        )

    pub several_codec : (k : ℕ) → Codec Input (several reader k) (concat_map write) (λ xs. (length xs ≡ k) × All Range xs)
    several_codec k =
        record {
          reads_back = λ xs h rest. ap (λ n. several reader n (concat_map write xs ++ rest)) (sym h.0) ∙ several_reads_back xs h.1 rest;
          stood_there = λ input i r e. (several_stood k input i r e).0;
          in_range = λ input i r e. ((several_stood k input i r e).1, (several_stood k input i r e).2);
        }

    next_row : ℕ → Read (List A) → Outcome (Read (List (List A)))
    next_row k r = rows_of reader k r.rest >>= λ rs. answered (record { value = r.value ∷ rs.value; rest = rs.rest })

    rows_reads_back : (k : ℕ) (rows : List (List A)) → Rows Range k rows → (rest : List ℕ)
        → rows_of reader k (concat_map (concat_map write) rows ++ rest) ≡ answered (record { value = rows; rest = rest })
    rows_reads_back zero [] h rest = refl
    rows_reads_back zero (row ∷ rows) h rest = absurd h
    rows_reads_back (suc k) [] h rest = absurd h
    rows_reads_back (suc k) (row ∷ rows) h rest =
        ap (rows_of reader (suc k)) (append_assoc (concat_map write row) (concat_map (concat_map write) rows) rest)
        ∙ then (several reader k (concat_map write row ++ (concat_map (concat_map write) rows ++ rest))) _
        (record { value = row; rest = concat_map (concat_map write) rows ++ rest }) (answered (record { value = row ∷ rows; rest = rest }))
        ((several_codec k).reads_back row (h.0, h.1) (concat_map (concat_map write) rows ++ rest))
        (then (rows_of reader k (concat_map (concat_map write) rows ++ rest)) (λ rs. answered (record { value = row ∷ rs.value; rest = rs.rest }))
        (record { value = rows; rest = rest }) _ (rows_reads_back k rows h.2 rest) refl)

    rows_stood : (k : ℕ) (input : List ℕ) → Input input → (r : Read (List (List A))) → rows_of reader k input ≡ answered r
        → (input ≡ concat_map (concat_map write) r.value ++ r.rest) × Rows Range k r.value
    unfolding next_row
    rows_stood zero input i r e =
        subst (λ r. (input ≡ concat_map (concat_map write) r.value ++ r.rest) × Rows Range 0 r.value)
        (same_answer (record { value = []; rest = input }) r e) (refl, tt)
    rows_stood (suc k) input i r e =
        let f = answer_of (several reader k input) (next_row k) r e in
        let t = answer_of (rows_of reader k f.0.rest) (λ rs. answered (record { value = f.0.value ∷ rs.value; rest = rs.rest })) r f.2 in
        let h = rows_stood k f.0.rest (input_rest (several_codec k) input i f.0 f.1) t.0 t.1 in
        subst (λ r. (input ≡ concat_map (concat_map write) r.value ++ r.rest) × Rows Range (suc k) r.value)
        (same_answer (record { value = f.0.value ∷ t.0.value; rest = t.0.rest }) r t.2) (
          (several_codec k).stood_there input i f.0 f.1
              ∙ (ap (λ l. concat_map write f.0.value ++ l) h.0
              ∙ sym (append_assoc (concat_map write f.0.value) (concat_map (concat_map write) t.0.value) t.0.rest)),
          (((several_codec k).in_range input i f.0 f.1).0, ((several_codec k).in_range input i f.0 f.1).1, h.1),
        )

    pub rows_codec : (k : ℕ) → Codec Input (rows_of reader k) (concat_map (concat_map write)) (Rows Range k)
    rows_codec k =
        record {
          reads_back = rows_reads_back k;
          stood_there = λ input i r e. (rows_stood k input i r e).0;
          in_range = λ input i r e. (rows_stood k input i r e).1;
        }

pub bits_suffix : (xs ys : List ℕ) → AreBits (xs ++ ys) → AreBits ys
bits_suffix [] ys h = h
bits_suffix (x ∷ xs) ys h = bits_suffix xs ys h.1

-- a field of bits
field_parts : (early width : ℕ) (input : List ℕ) (r : Read ℕ) → field early width input ≡ answered r
    → (width ≤ length input) × (◌≡◌ {A = Read ℕ} (record { value = number 0 (take width input); rest = drop width input }) r)
unfolding field
field_parts early width input r e =
    let p = not_refused (ltb (length input) width) early (record { value = number 0 (take width input); rest = drop width input }) r e in
    (ltb-false (length input) width p.0, p.1)

field_stood : (width : ℕ) (input : List ℕ) → AreBits input → width ≤ length input
    → (input ≡ digits width (number 0 (take width input)) ++ drop width input) × (number 0 (take width input) < 2 ^ width)
field_stood width input h l =
    let n : length (take width input) ≡ width = length-take-le width input l in (
      sym (take-append-drop width input) ∙ ap (λ l. l ++ drop width input) (sym (digits_of_number width (take width input) n (bits_take width input h))),
      subst (λ k. number 0 (take width input) < 2 ^ k) n (number_bound (take width input) (bits_take width input h)),
    )

pub field_codec : (early width : ℕ) → Codec AreBits (field early width) (digits width) (λ v. v < 2 ^ width)
unfolding field
field_codec early width =
    record {
      reads_back = λ v h rest.
          ap (λ t. unless t early (record { value = number 0 (take width (digits width v ++ rest)); rest = drop width (digits width v ++ rest) }))
          (le-ltb (length (digits width v ++ rest)) width (omega (arith, length-append (digits width v) rest, length_digits width v)))
          ∙ (ap (λ l. answered (record { value = number 0 l; rest = drop width (digits width v ++ rest) }))
          (take_at (digits width v) rest width (length_digits width v))
          ∙ (ap (λ n. answered (record { value = n; rest = drop width (digits width v ++ rest) })) (number_of_digits width v h)
          ∙ ap (λ l. answered (record { value = v; rest = l })) (drop_at (digits width v) rest width (length_digits width v))));
      stood_there = λ input i r e.
          let p = field_parts early width input r e in
          subst (λ r. input ≡ digits width r.value ++ r.rest) p.1 (field_stood width input i p.0).0;
      in_range = λ input i r e.
          let p = field_parts early width input r e in
          subst (λ r. r.value < 2 ^ width) p.1 (field_stood width input i p.0).1;
    }
