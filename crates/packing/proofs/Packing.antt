-- The two equations of a packing service's promise, from its outcome. Then the outcome of each service, from those of the readers.
use mathlib.Core.Path.{◌≡◌, sym, ap, ◌∙◌}
use mathlib.Core.List.{List}
use Prim.Native.Nat.{ℕ}
use Rattle.std.proofs.Common.{Ok, Err}
use Rattle.std.specs.declared.result.Result.{Result}
use lib.ListN.{length, take, drop}
use lib.Seq.{take_at}
use Rattle.writers.specs.Filling.{Fills}
use Rattle.model.specs.declared.answers.Refusal.{Refusal}
use Rattle.model.specs.declared.answers.Refusal.TheVariants.{AnswerShort}
use Rattle.model.specs.Presentation.{Presentation}
use Rattle.model.specs.Word.{Word}
use Rattle.model.specs.Outcome.{Outcome, answered, ◌>>=◌, mapped}
use Rattle.model.specs.Areas.{begins, output_after, ReadsBack}
use Rattle.model.specs.Stated.{refusal, packed_as}
use Rattle.model.specs.Images.{read_table, read_program, program_image, table_image}
use Rattle.model.specs.Plain.{plain_program, read_plain_program, read_plain_table, plain_table}
use Rattle.model.specs.Services.{fitted, unpack_program, pack_program, pack_table, unpack_table}
use Rattle.model.proofs.Outcomes.{still_refused}
pub use Rattle.model.proofs.Fitted.{short_area, long_area}

-- the promise: the result is the outcome's, the area is what the outcome leaves, and what is written reads back as the subject
abbrev pub Kept : {A : Type 0} → Outcome A → (List ℕ → Outcome A) → Outcome (List ℕ) → List ℕ → Result ℕ Refusal → List ℕ → Type 0
Kept subject read outcome before r after =
    (packed_as r ≡ mapped length outcome) × ((after ≡ output_after (λ b. b) outcome before) × ReadsBack subject read (packed_as r) after)

module _ {A : Type 0} (subject : Outcome A) (read : List ℕ → Outcome A) (outcome : Outcome (List ℕ)) (area : List ℕ) where
  pub refused_keeps : (r : Refusal) → outcome ≡ refusal r → Kept subject read outcome area (Err r) area
  refused_keeps r e = (
    ap (mapped length) (sym e),
    (ap (λ o. output_after (λ b. b) o area) (sym e), tt),
  )

  pub answered_writes : (bytes after : List ℕ) (k : ℕ) → outcome ≡ answered bytes → length bytes ≡ k → after ≡ begins bytes area → read bytes ≡ subject
      → Kept subject read outcome area (Ok k) after
  answered_writes bytes after k e n w back = (
    ap answered (sym n) ∙ ap (mapped length) (sym e),
    (w ∙ ap (λ o. output_after (λ b. b) o area) (sym e), ap read (ap (take k) w ∙ take_at bytes (drop (length bytes) area) k n) ∙ back),
  )

  -- of what a writer leaves
  pub fills_keeps : (bytes : List ℕ) → outcome ≡ fitted (length area) bytes → read bytes ≡ subject
      → (r : Result ℕ Refusal) (after : List ℕ) → Fills area bytes r after → Kept subject read outcome area r after
  fills_keeps bytes e back (Ok k) after f = answered_writes bytes after k (e ∙ long_area (length area) bytes f.1) (sym f.0) f.2 back
  fills_keeps bytes e back (Err r) after f = rw (f.0, f.2) (refused_keeps AnswerShort (e ∙ short_area (length area) bytes f.1))

-- UNPACK A PROGRAM
module _ (table program : List ℕ) (area : ℕ) where
  unfoldable unpacked : Presentation → Outcome (List ℕ)
  unpacked T = read_program T.size program >>= λ w. fitted area (plain_program w)

  pub unpack_table_refused : (r : Refusal) → read_table table ≡ refusal r → unpack_program table program area ≡ refusal r
  unfolding unpack_program unpacked
  unpack_table_refused r e = still_refused (read_table table) r e unpacked

  module _ (T : Presentation) (size : ℕ) (e : read_table table ≡ answered T) (s : T.size ≡ size) where
    unpack_is : unpack_program table program area ≡ (read_program size program >>= λ w. fitted area (plain_program w))
    unfolding unpack_program unpacked
    unpack_is = ap (λ o. o >>= unpacked) e ∙ ap (λ n. read_program n program >>= λ w. fitted area (plain_program w)) s

    pub unpack_program_refused : (r : Refusal) → read_program size program ≡ refusal r → unpack_program table program area ≡ refusal r
    unpack_program_refused r p = unpack_is ∙ still_refused (read_program size program) r p (λ w. fitted area (plain_program w))

    pub unpack_read : (w : Word) → read_program size program ≡ answered w → unpack_program table program area ≡ fitted area (plain_program w)
    unpack_read w p = unpack_is ∙ ap (λ o. o >>= λ w. fitted area (plain_program w)) p

  -- PACK A PROGRAM
  unfoldable packed_of : Presentation → Outcome (List ℕ)
  packed_of T = read_plain_program T.size program >>= λ w. fitted area (program_image T.size w)

  pub pack_table_refused : (r : Refusal) → read_table table ≡ refusal r → pack_program table program area ≡ refusal r
  unfolding pack_program packed_of
  pack_table_refused r e = still_refused (read_table table) r e packed_of

  module _ (T : Presentation) (size : ℕ) (e : read_table table ≡ answered T) (s : T.size ≡ size) where
    pack_is : pack_program table program area ≡ (read_plain_program size program >>= λ w. fitted area (program_image size w))
    unfolding pack_program packed_of
    pack_is = ap (λ o. o >>= packed_of) e ∙ ap (λ n. read_plain_program n program >>= λ w. fitted area (program_image n w)) s

    pub pack_program_refused : (r : Refusal) → read_plain_program size program ≡ refusal r → pack_program table program area ≡ refusal r
    pack_program_refused r p = pack_is ∙ still_refused (read_plain_program size program) r p (λ w. fitted area (program_image size w))

    pub pack_read : (w : Word) → read_plain_program size program ≡ answered w → pack_program table program area ≡ fitted area (program_image size w)
    pack_read w p = pack_is ∙ ap (λ o. o >>= λ w. fitted area (program_image size w)) p

-- UNPACK A TABLE
module _ (table : List ℕ) (area : ℕ) where
  pub table_refused : (r : Refusal) → read_table table ≡ refusal r → unpack_table table area ≡ refusal r
  unfolding unpack_table
  table_refused r e = still_refused (read_table table) r e (λ T. fitted area (plain_table T))

  pub table_read : (T : Presentation) → read_table table ≡ answered T → unpack_table table area ≡ fitted area (plain_table T)
  unfolding unpack_table
  table_read T e = ap (λ o. o >>= λ T. fitted area (plain_table T)) e

  -- PACK A TABLE
  pub plain_refused : (r : Refusal) → read_plain_table table ≡ refusal r → pack_table table area ≡ refusal r
  unfolding pack_table
  plain_refused r e = still_refused (read_plain_table table) r e (λ T. fitted area (table_image T))

  pub plain_read : (T : Presentation) → read_plain_table table ≡ answered T → pack_table table area ≡ fitted area (table_image T)
  unfolding pack_table
  plain_read T e = ap (λ o. o >>= λ T. fitted area (table_image T)) e
