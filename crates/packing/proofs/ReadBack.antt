-- What a packing service writes reads back as its subject, so that packing and unpacking undo each other.
use mathlib.Core.Path.{◌≡◌, refl, sym, ap, ◌∙◌}
use mathlib.Core.List.{List}
use Prim.Native.Nat.{ℕ, ◌≤◌}
use native.Mathlib.Omega.{arith}
use lib.Dec.{ltb}
use lib.ListN.{length, take, drop}
use lib.Seq.{take_at}
use Rattle.model.specs.Presentation.{Presentation}
use Rattle.model.specs.Word.{Word}
use Rattle.model.specs.Outcome.{Outcome, answered, refused, ◌>>=◌, mapped}
use Rattle.model.specs.Range.{AreBytes}
use Rattle.model.specs.Areas.{begins, output_after}
use Rattle.model.specs.Images.{read_table, read_program, program_image, table_image, most_size}
use Rattle.model.specs.Plain.{plain_program, read_plain_program, read_plain_table, plain_table}
use Rattle.model.specs.Services.{fitted, program_under, plain_program_under, unpack_program, pack_program, pack_table, unpack_table}
use Rattle.model.proofs.Impossible.{impossible, answer_of, same_answer, not_refused}
use Rattle.images.proofs.RoundTrip.{table_reads_back, table_image_of, table_in_range, program_reads_back, program_image_of, program_in_range}
use Rattle.plain_forms.proofs.PlainTrip.{plain_table_reads_back, plain_table_of, plain_program_reads_back, plain_program_of}
use Rattle.packing.specs.RoundTrips.{Undone, PackPromise}
use Rattle.packing.proofs.Packing.{Kept, refused_keeps, answered_writes, fills_keeps, long_area}
use Rattle.writers.specs.Filling.{Fills}
use Rattle.std.proofs.Common.{Ok, Err}
use Rattle.std.specs.declared.result.Result.{Result}
use Rattle.model.specs.declared.answers.Refusal.{Refusal}
use Rattle.model.specs.Stated.{refusal, packed_as}

-- THE BYTES WRITTEN ARE READ AS THE SUBJECT

pub table_back : (plain : List ℕ) (T : Presentation) → read_plain_table plain ≡ answered T → read_table (table_image T) ≡ read_plain_table plain
table_back plain T e = table_reads_back T (plain_table_of plain T e).1 ∙ sym e

pub plain_table_back : (table : List ℕ) (T : Presentation) → read_table table ≡ answered T → read_plain_table (plain_table T) ≡ read_table table
plain_table_back table T e = plain_table_reads_back T (table_in_range table T e) ∙ sym e

module _ (table : List ℕ) (T : Presentation) (size : ℕ) (e : read_table table ≡ answered T) (s : T.size ≡ size) where
  few : size ≤ most_size
  few = omega (arith, s, (table_in_range table T e).few)

  -- reading under the table, whatever is read
  under : (read : ℕ → List ℕ → Outcome Word) (bytes : List ℕ) → (read_table table >>= λ T. read T.size bytes) ≡ read size bytes
  under read bytes = ap (λ o. o >>= λ T. read T.size bytes) e ∙ ap (λ n. read n bytes) s

  pub program_back : (plain : List ℕ) → AreBytes plain → (w : Word) → read_plain_program size plain ≡ answered w
      → program_under table (program_image size w) ≡ plain_program_under table plain
  program_back plain bs w h =
      under read_program (program_image size w)
      ∙ (program_reads_back size few w (plain_program_of size plain bs w h).1 ∙ (sym h ∙ sym (under read_plain_program plain)))

  pub plain_program_back : (program : List ℕ) (w : Word) → read_program size program ≡ answered w
      → plain_program_under table (plain_program w) ≡ program_under table program
  plain_program_back program w h =
      under read_plain_program (plain_program w)
      ∙ (plain_program_reads_back size few w (program_in_range size few program w h) ∙ (sym h ∙ sym (under read_program program)))

-- UNPACK AFTER PACK, AND PACK AFTER UNPACK

-- what `there` writes of some bytes, `back` turns into these bytes again, in every area that has room for them
abbrev pub Undoes : (there back : List ℕ → ℕ → Outcome (List ℕ)) → Type 0
Undoes there back =
    (bytes : List ℕ) → AreBytes bytes → (area : ℕ) (written : List ℕ) → there bytes area ≡ answered written
    → (room : ℕ) → length bytes ≤ room → back written room ≡ answered bytes

-- read by one reader and written as the other reads, then back
module _ {A : Type 0} (read : List ℕ → Outcome A) (write : A → List ℕ) (read' : List ℕ → Outcome A) (write' : A → List ℕ) (bytes : List ℕ)
    (stood : (x : A) → read bytes ≡ answered x → (bytes ≡ write x) × (read' (write' x) ≡ answered x)) where
  undone : (area : ℕ) (written : List ℕ) → (read bytes >>= λ x. fitted area (write' x)) ≡ answered written → (room : ℕ) → length bytes ≤ room
      → (read' written >>= λ x. fitted room (write x)) ≡ answered bytes
  undone area written e room h =
      let x = answer_of (read bytes) (λ x. fitted area (write' x)) written e in
      let image = (not_refused (ltb area (length (write' x.0))) 13 (write' x.0) written x.2).1 in
      let b = stood x.0 x.1 in
      ap (λ o. o >>= λ x. fitted room (write x)) (ap read' (sym image) ∙ b.1)
      ∙ (ap (fitted room) (sym b.0) ∙ long_area room bytes h)

pub table_unpacked : Undoes pack_table unpack_table
unfolding pack_table unpack_table
table_unpacked plain bs =
    undone read_plain_table plain_table read_table table_image plain
    (λ T e. ((plain_table_of plain T e).0, table_reads_back T (plain_table_of plain T e).1))

pub table_packed : Undoes unpack_table pack_table
unfolding pack_table unpack_table
table_packed table bs =
    undone read_table table_image read_plain_table plain_table table
    (λ T e. ((table_image_of table bs T e).0, plain_table_reads_back T (table_in_range table T e)))

-- what a service does under a table that was read
module _ (table : List ℕ) (f : Presentation → Outcome (List ℕ)) where
  table_of : (written : List ℕ) → (read_table table >>= f) ≡ answered written → (T : Presentation) × (read_table table ≡ answered T) × (f T ≡ answered written)
  table_of written e = answer_of (read_table table) f written e

pub program_unpacked : (table : List ℕ) → Undoes (pack_program table) (unpack_program table)
unfolding pack_program unpack_program
program_unpacked table plain bs area written e room h =
    let t = table_of table (λ T. read_plain_program T.size plain >>= λ w. fitted area (program_image T.size w)) written e in
    let n = t.0.size in
    let few = (table_in_range table t.0 t.1).few in
    ap (λ o. o >>= λ T. read_program T.size written >>= λ w. fitted room (plain_program w)) t.1
    ∙ undone (read_plain_program n) plain_program (read_program n) (program_image n) plain
    (λ w p. ((plain_program_of n plain bs w p).0, program_reads_back n few w (plain_program_of n plain bs w p).1)) area written t.2 room h

pub program_packed : (table : List ℕ) → Undoes (unpack_program table) (pack_program table)
unfolding pack_program unpack_program
program_packed table program bs area written e room h =
    let t = table_of table (λ T. read_program T.size program >>= λ w. fitted area (plain_program w)) written e in
    let n = t.0.size in
    let few = (table_in_range table t.0 t.1).few in
    ap (λ o. o >>= λ T. read_plain_program T.size written >>= λ w. fitted room (program_image T.size w)) t.1
    ∙ undone (read_program n) (program_image n) (read_plain_program n) plain_program program
    (λ w p. ((program_image_of n few program bs w p).0, plain_program_reads_back n few w (program_in_range n few program w p))) area written t.2 room h

-- .. OF WHAT A CALL WROTE

module _ (there back : List ℕ → ℕ → Outcome (List ℕ)) (undoes : Undoes there back) (bytes before after : List ℕ) (told : Outcome ℕ) where
  undone_by : told ≡ mapped length (there bytes (length before)) → after ≡ output_after (λ b. b) (there bytes (length before)) before
      → (o : Outcome (List ℕ)) → there bytes (length before) ≡ o → Undone back bytes told after
  undone_by t a (refused n place) e bs k h room fits = let refusal = sym h ∙ (t ∙ ap (mapped length) e) in impossible (cc)
  undone_by t a (answered image) e bs k h room fits =
      let long : length image ≡ k = same_answer (length image) k (sym (ap (mapped length) e) ∙ (sym t ∙ h)) in
      let taken : take k after ≡ image =
      ap (take k) (a ∙ ap (λ o. output_after (λ b. b) o before) e) ∙ take_at image (drop (length image) before) k long in
      ap (λ l. back l room) taken ∙ undoes bytes bs (length before) image e room fits

-- THE PROMISE OF A SERVICE

module _ {A : Type 0} (there back : List ℕ → ℕ → Outcome (List ℕ)) (undoes : Undoes there back) (here read : List ℕ → Outcome A) (given before : List ℕ) where
  promised : (after : List ℕ) (r : Result ℕ Refusal) → Kept (here given) read (there given (length before)) before r after
      → PackPromise there back here read given before after (packed_as r)
  promised after r k =
      record {
        stated = k.0;
        answer_is = k.1.0;
        readable = k.1.1;
        undone = undone_by there back undoes given before after (packed_as r) k.0 k.1.0 (there given (length before)) refl;
      }

  -- .. that refuses
  pub promised_refused : (r : Refusal) → there given (length before) ≡ refusal r → PackPromise there back here read given before before (packed_as (Err r))
  promised_refused r e = promised before (Err r) (refused_keeps (here given) read (there given (length before)) before r e)

  -- .. that writes bytes
  pub promised_written : (bytes after : List ℕ) (k : ℕ) → there given (length before) ≡ answered bytes → length bytes ≡ k → after ≡ begins bytes before
      → read bytes ≡ here given → PackPromise there back here read given before after (packed_as (Ok k))
  promised_written bytes after k e n w b =
      promised after (Ok k) (answered_writes (here given) read (there given (length before)) before bytes after k e n w b)

  -- .. that leaves what a writer does
  pub promised_filled : (bytes : List ℕ) → there given (length before) ≡ fitted (length before) bytes → read bytes ≡ here given
      → (r : Result ℕ Refusal) (after : List ℕ) → Fills before bytes r after → PackPromise there back here read given before after (packed_as r)
  promised_filled bytes e b r after f = promised after r (fills_keeps (here given) read (there given (length before)) before bytes e b r after f)
