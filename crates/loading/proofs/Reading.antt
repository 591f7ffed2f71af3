-- Reading a table and a program, as reverse, enquire and commit begin, ways and tray with a program of forward moves; and a table and two programs, as compare,
-- chain and check do, and compare_signed with programs of either sign.
use mathlib.Core.Path.{◌≡◌, refl, ap, ◌∙◌}
use mathlib.Core.List.{List}
use mathlib.Core.Bool.{Bool}
use Prim.Native.Nat.{ℕ}
use native.Mathlib.Omega.{arith}
use Rattle.model.specs.Word.{Positive}
use Rattle.model.specs.Presentation.{Presentation}
use Rattle.model.specs.Outcome.{Outcome, answered, ◌>>=◌}
use Rattle.model.specs.Images.{read_table, read_program}
use Rattle.model.specs.Services.{read_table_with, read_forward, Images, read_images}
use Rattle.model.specs.Areas.{Compares}
use Rattle.model.specs.Stated.{refusal}
use Rattle.model.specs.declared.answers.Refusal.{Refusal}
use Rattle.model.proofs.Outcomes.{still_refused, goes_on}
use Rattle.images.specs.Programs.{Measured, ForwardMeasured, MeasuredAs, read_as}
use Rattle.images.specs.declared.programs.Signs.{Signs}
use Rattle.images.specs.declared.programs.Signs.TheVariants.{Any, Forward as ForwardAlone}
use Rattle.cells.proofs.Rules.{of_some, of_few}
use Rattle.loading.specs.Loading.{ProgramLoaded, ForwardLoaded, LoadedAs, ProgramsLoaded, SignedLoaded, BothAs}
use Rattle.loading.proofs.Early.{Early, early_then, wider, table_early, forward_early}
use Rattle.loading.proofs.Outcomes.{AsFound, reading_refused}
use Rattle.images.specs.Tables.{Loaded}
use Rattle.loading.proofs.Weights.{measured_weighs}

-- A TABLE ALONE, as clear and mirror_clear begin
pub table_refused : {A : Type 0} (table : List ℕ) (rest : Presentation → Outcome A) (r : Refusal) → read_table table ≡ refusal r
    → AsFound (read_table table >>= rest) r
table_refused table rest r e = reading_refused (read_table table >>= rest) (read_table table) rest refl r e 3 (table_early table) (omega arith)

-- ONE PROGRAM

module _ {W : Type 0} (read : ℕ → List ℕ → Outcome W) (table program : List ℕ) where
  sized : {cells : List ℕ} {size : ℕ} (t : Loaded (read_table table) cells size) → read t.table.size program ≡ read size program
  sized t = ap (λ i. read i program) t.of.sized

  pub table_with_early : ((n : ℕ) (bytes : List ℕ) → Early 7 (read n bytes)) → Early 7 (read_table_with read table program)
  table_with_early early =
      early_then 7 (read_table table) _ (wider 3 7 (read_table table) (omega arith) (table_early table))
      (λ T. early_then 7 (read T.size program) _ (early T.size program) (λ w. tt))

  reads_both : (T : Presentation) (w : W) → read_table table ≡ answered T → read T.size program ≡ answered w
      → read_table_with read table program ≡ answered (record { table = T; word = w })
  reads_both T w e f = goes_on (read_table table) T e _ ∙ goes_on (read T.size program) w f _

  -- a service that reads the two images, and then has only the rest to do
  module _ {A : Type 0} (rest : Presentation → W → Outcome A) where
    abbrev program_service : Outcome A
    program_service = read_table_with read table program >>= λ l. rest l.table l.word

    pub program_still_refused : (r : Refusal) → read_table_with read table program ≡ refusal r → program_service ≡ refusal r
    program_still_refused r e = still_refused (read_table_with read table program) r e _

    pub program_refused : ((n : ℕ) (bytes : List ℕ) → Early 7 (read n bytes)) → (r : Refusal) → read_table_with read table program ≡ refusal r
        → AsFound program_service r
    program_refused early r e =
        reading_refused program_service (read_table_with read table program) (λ l. rest l.table l.word) refl r e 7 (table_with_early early) (omega arith)

    pub program_runs : (T : Presentation) (w : W) → read_table table ≡ answered T → read T.size program ≡ answered w → program_service ≡ rest T w
    program_runs T w e f = goes_on (read_table_with read table program) _ (reads_both T w e f) _

module _ (table program : List ℕ) {cells : List ℕ} {size : ℕ} (t : Loaded (read_table table) cells size) (count weight : ℕ) where
  program_loaded : {all : Bool} → Measured program cells size count all weight → ProgramLoaded table program cells size count weight
  program_loaded m =
      record {
        runs = record { table = t.table; of = t.of; accepted = record { some = of_some t.of; few = of_few t.of; program = m.program } };
        weighs = m.weight_is;
        table_read = t.read;
        program_read = sized read_program table program t ∙ m.program.read;
      }

  forward_loaded : ForwardMeasured program cells size count weight → ForwardLoaded table program cells size count weight
  forward_loaded m =
      record {
        runs = record { table = t.table; of = t.of; forward = m.forward; weighs = measured_weighs cells size program count weight m };
        table_read = t.read;
        program_read = sized read_forward table program t ∙ m.forward.read;
      }

  pub loaded_as : (s : Signs) (all : Bool) → MeasuredAs s program cells size count all weight → LoadedAs s table program cells size count weight
  loaded_as Any all m = program_loaded m
  loaded_as ForwardAlone all m = forward_loaded m

-- TWO PROGRAMS

module _ {W : Type 0} (read : ℕ → List ℕ → Outcome W) (table first second : List ℕ) where
  no_second : (T : Presentation) (u : W) → read_table table ≡ answered T → read T.size first ≡ answered u → (r : Refusal)
      → read T.size second ≡ refusal r
      → read_images read table first second ≡ refusal r
  no_second T u e f r g =
      goes_on (read_table_with read table first) _ (reads_both read table first T u e f) _ ∙ still_refused (read T.size second) r g _

  images_early : ((n : ℕ) (bytes : List ℕ) → Early 7 (read n bytes)) → Early 7 (read_images read table first second)
  images_early early =
      early_then 7 (read_table_with read table first) _ (table_with_early read table first early)
      (λ l. early_then 7 (read l.table.size second) _ (early l.table.size second) (λ v. tt))

  -- a service that reads the three images, and then has only the rest to do
  module _ {A : Type 0} (rest : Images W → Outcome A) where
    abbrev service : Outcome A
    service = read_images read table first second >>= rest

    pub images_refused : ((n : ℕ) (bytes : List ℕ) → Early 7 (read n bytes)) → (r : Refusal) → read_images read table first second ≡ refusal r
        → AsFound service r
    images_refused early r e = reading_refused service (read_images read table first second) rest refl r e 7 (images_early early) (omega arith)

    pub images_run : (T : Presentation) (u v : W) → read_table table ≡ answered T → read T.size first ≡ answered u → read T.size second ≡ answered v
        → service ≡ rest (record { table = T; first = u; second = v })
    images_run T u v e f g =
        goes_on (read_images read table first second) _
        (goes_on (read_table_with read table first) _ (reads_both read table first T u e f) _ ∙ goes_on (read T.size second) v g _) rest

-- .. of forward moves
module _ (table first second : List ℕ) where
  programs_loaded : {cells : List ℕ} {size firsts seconds one two : ℕ} → ForwardLoaded table first cells size firsts one
      → ForwardMeasured second cells size seconds two
      → ProgramsLoaded table first second cells size firsts seconds one two
  programs_loaded {cells} {size} {firsts} {seconds} {one} {two} l f =
      let o = l.runs.of in
      record {
        forward = record { table = l.runs.table; of = o; pair = record { some = of_some o; few = of_few o; one = l.runs.forward; two = f.forward } };
        weights = record { one = l.runs.weighs; two = measured_weighs cells size second seconds two f };
        reads = record { table_read = l.table_read; first_read = l.program_read; second_read = ap (λ i. read_forward i second) o.sized ∙ f.forward.read };
      }

  signed_loaded : {cells : List ℕ} {size firsts seconds one two : ℕ} {all : Bool} → ProgramLoaded table first cells size firsts one
      → Measured second cells size seconds all two
      → SignedLoaded table first second cells size firsts seconds one two
  signed_loaded l f =
      let r = l.runs in
      record {
        runs = record {
          table = r.table;
          of = r.of;
          programs =
              record { one = r.accepted; two = record { some = r.accepted.some; few = r.accepted.few; program = f.program } };
        };
        first_weighs = l.weighs;
        second_weighs = f.weight_is;
        table_read = l.table_read;
      }

  pub both_as : (s : Signs) (cells : List ℕ) (size firsts seconds one two : ℕ) (all : Bool) → LoadedAs s table first cells size firsts one
      → MeasuredAs s second cells size seconds all two
      → BothAs s table first second cells size firsts seconds one two
  both_as Any cells size firsts seconds one two all l f = signed_loaded l f
  both_as ForwardAlone cells size firsts seconds one two all l f = programs_loaded l f

  -- the second program is refused
  pub second_refused : (s : Signs) (cells : List ℕ) (size firsts one : ℕ) → LoadedAs s table first cells size firsts one → (r : Refusal)
      → read_as s size second ≡ refusal r
      → read_images (read_as s) table first second ≡ refusal r
  second_refused Any cells size firsts one l r e =
      no_second read_program table first second l.runs.table l.runs.accepted.program.word l.table_read l.program_read r
      (ap (λ i. read_program i second) l.runs.of.sized ∙ e)
  second_refused ForwardAlone cells size firsts one l r e =
      no_second read_forward table first second l.runs.table l.runs.forward.word l.table_read l.program_read r
      (ap (λ i. read_forward i second) l.runs.of.sized ∙ e)

  module _ {A : Type 0} (rest : Images Positive → Outcome A) where
    abbrev forward_service : Outcome A
    forward_service = read_images read_forward table first second >>= rest

    pub programs_refused : (r : Refusal) → read_images read_forward table first second ≡ refusal r → AsFound forward_service r
    programs_refused = images_refused read_forward table first second rest forward_early

    pub programs_run : (T : Presentation) (u v : Positive) → Compares table first second T u v
        → forward_service ≡ rest (record { table = T; first = u; second = v })
    programs_run T u v c = images_run read_forward table first second rest T u v c.table_read c.first_read c.second_read
