-- What is loaded before a reversing: the cells of a table, and a program or two.
use Rattle.std.specs.Prelude.{List, ◌≡◌, ℕ, ◌≤◌, Ok, Err}
use Rattle.std.specs.declared.result.Result.{Result}
use Rattle.model.specs.Presentation.{Presentation}
use Rattle.model.specs.Outcome.{answered}
use Rattle.model.specs.Images.{read_table, read_program, most_size}
use Rattle.model.specs.Services.{read_table_with, read_forward, read_images}
use Rattle.model.specs.Areas.{Compares}
use Rattle.model.specs.Stated.{refusal}
use Rattle.model.specs.declared.answers.Refusal.{Refusal}
use Rattle.images.specs.Programs.{Accepted, ForwardOf, cells_weigh, read_as}
use Rattle.images.specs.declared.programs.Signs.{Signs}
use Rattle.images.specs.declared.programs.Signs.TheVariants.{Any, Forward as ForwardAlone}
use Rattle.cells.specs.Stands.{Of}
use Rattle.loading.specs.Weighing.{Weighs, Weigh}
use Rattle.loading.specs.declared.loading.TableProgram.{TableProgram}
use Rattle.loading.specs.declared.loading.Programs.{Programs}

-- an accepted program under cells that stand for a table
pub record ProgramRuns (cells : List ℕ) (size : ℕ) (program : List ℕ) (count : ℕ) : Type 0 where
  pub table : Presentation
  pub of : Of cells size table
  pub accepted : Accepted program size count

-- .. of forward moves
pub record ForwardRuns (cells : List ℕ) (size : ℕ) (program : List ℕ) (count weight : ℕ) : Type 0 where
  pub table : Presentation
  pub of : Of cells size table
  pub forward : ForwardOf program size count
  pub weighs : Weighs cells size program weight

-- A TABLE AND A PROGRAM, which is read as a word of either sign or as one of forward moves

-- the table that the cells stand for, and the program, are those that the images hold
pub record ProgramLoaded (table program cells : List ℕ) (size count weight : ℕ) : Type 0 where
  pub runs : ProgramRuns cells size program count
  pub weighs : weight ≡ cells_weigh cells runs.accepted.program.word
  pub table_read : read_table table ≡ answered runs.table
  pub program_read : read_program runs.table.size program ≡ answered runs.accepted.program.word

-- .. of forward moves
pub record ForwardLoaded (table program cells : List ℕ) (size count weight : ℕ) : Type 0 where
  pub runs : ForwardRuns cells size program count weight
  pub table_read : read_table table ≡ answered runs.table
  pub program_read : read_forward runs.table.size program ≡ answered runs.forward.word

abbrev pub LoadedAs : Signs → List ℕ → List ℕ → List ℕ → ℕ → ℕ → ℕ → Type 0
LoadedAs Any table program cells size count weight = ProgramLoaded table program cells size count weight
LoadedAs ForwardAlone table program cells size count weight = ForwardLoaded table program cells size count weight

abbrev pub TableProgramDone : List ℕ → List ℕ → Signs → List ℕ → Result TableProgram Refusal → Type 0
TableProgramDone table program s cells (Ok l) = LoadedAs s table program cells l.size l.count l.weight
TableProgramDone table program s cells (Err r) = read_table_with (read_as s) table program ≡ refusal r

-- A TABLE AND TWO PROGRAMS

-- two forward programs of so many letters
pub record TwoForward (size : ℕ) (first : List ℕ) (firsts : ℕ) (second : List ℕ) (seconds : ℕ) : Type 0 where
  pub some : 1 ≤ size
  pub few : size ≤ most_size
  pub one : ForwardOf first size firsts
  pub two : ForwardOf second size seconds

-- under cells that stand for a table
pub record Forward (cells : List ℕ) (size : ℕ) (first : List ℕ) (firsts : ℕ) (second : List ℕ) (seconds : ℕ) : Type 0 where
  pub table : Presentation
  pub of : Of cells size table
  pub pair : TwoForward size first firsts second seconds

-- the table that the cells stand for, and the programs, are those that the images hold
pub record ProgramsLoaded (table first second cells : List ℕ) (size firsts seconds first_weight second_weight : ℕ) : Type 0 where
  pub forward : Forward cells size first firsts second seconds
  pub weights : Weigh cells size first first_weight second second_weight
  pub reads : Compares table first second forward.table forward.pair.one.word forward.pair.two.word

-- .. of either sign
pub record TwoAccepted (size : ℕ) (first : List ℕ) (firsts : ℕ) (second : List ℕ) (seconds : ℕ) : Type 0 where
  pub one : Accepted first size firsts
  pub two : Accepted second size seconds

pub record SignedRuns (cells : List ℕ) (size : ℕ) (first : List ℕ) (firsts : ℕ) (second : List ℕ) (seconds : ℕ) : Type 0 where
  pub table : Presentation
  pub of : Of cells size table
  pub programs : TwoAccepted size first firsts second seconds

pub record SignedLoaded (table first second cells : List ℕ) (size firsts seconds first_weight second_weight : ℕ) : Type 0 where
  pub runs : SignedRuns cells size first firsts second seconds
  pub first_weighs : first_weight ≡ cells_weigh cells runs.programs.one.program.word
  pub second_weighs : second_weight ≡ cells_weigh cells runs.programs.two.program.word
  pub table_read : read_table table ≡ answered runs.table

abbrev pub BothAs : Signs → List ℕ → List ℕ → List ℕ → List ℕ → ℕ → ℕ → ℕ → ℕ → ℕ → Type 0
BothAs Any table first second cells size firsts seconds one two = SignedLoaded table first second cells size firsts seconds one two
BothAs ForwardAlone table first second cells size firsts seconds one two = ProgramsLoaded table first second cells size firsts seconds one two

abbrev pub ProgramsDone : List ℕ → List ℕ → List ℕ → Signs → List ℕ → Result Programs Refusal → Type 0
ProgramsDone table first second s cells (Ok p) =
    BothAs s table first second cells p.size p.firsts p.seconds p.first_weight p.second_weight
ProgramsDone table first second s cells (Err r) = read_images (read_as s) table first second ≡ refusal r
