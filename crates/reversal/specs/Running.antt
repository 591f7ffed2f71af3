-- What a run of the program in an image gives.
use Rattle.std.specs.Prelude.{List, reverse, true, ◌≡◌, ℕ, Ok, Err}
use Rattle.std.specs.declared.result.Result.{Result}
use Rattle.model.specs.Word.{Word}
use Rattle.model.specs.Presentation.{Presentation}
use Rattle.model.specs.Outcome.{answered, ◌>>=◌}
use Rattle.model.specs.Images.{read_table, read_program}
use Rattle.model.specs.Mirror.{mirror, mirror_check}
use Rattle.model.specs.Services.{read_table_with}
use Rattle.model.specs.Areas.{before_work}
use Rattle.model.specs.Stated.{numbered, refusal}
use Rattle.model.specs.declared.answers.Ending.{Ending}
use Rattle.model.specs.declared.answers.Refusal.{Refusal}
use Rattle.engine.specs.Run.{Reverses}

-- the table and the program in the images, whose reversing ended so
pub record Ran (table program : List ℕ) (budget : ℕ) (after : List ℕ) (e : Ending) : Type 0 where
  pub presentation : Presentation
  pub word : Word
  pub table_read : read_table table ≡ answered presentation
  pub program_read : read_program presentation.size program ≡ answered word
  pub reverses : Reverses presentation word budget after e

-- an image was refused, and the workspace is as it was found
pub record NotRun (table program before after : List ℕ) (r : Refusal) : Type 0 where
  pub refused : read_table_with read_program table program ≡ refusal r
  pub as_found : after ≡ before

abbrev pub RunDone : List ℕ → List ℕ → ℕ → List ℕ → List ℕ → Result Ending Refusal → Type 0
RunDone table program budget before after (Ok e) = Ran table program budget after e
RunDone table program budget before after (Err r) = NotRun table program before after r

-- .. and under its mirror, where the table has one, with the program read backward
pub record MirrorRan (table program : List ℕ) (budget : ℕ) (after : List ℕ) (e : Ending) : Type 0 where
  pub presentation : Presentation
  pub word : Word
  pub table_read : read_table table ≡ answered presentation
  pub program_read : read_program presentation.size program ≡ answered word
  pub has_mirror : mirror_check presentation ≡ answered tt
  pub reverses : Reverses (mirror presentation) (reverse word) budget after e

-- an image was refused, or a table that has no mirror, and the workspace is as it was found
pub record NotMirrored (table program before after : List ℕ) (r : Refusal) : Type 0 where
  pub refused : (read_table_with read_program table program >>= λ l. mirror_check l.table) ≡ refusal r
  pub early : before_work (numbered r).0 ≡ true
  pub as_found : after ≡ before

abbrev pub MirrorRunDone : List ℕ → List ℕ → ℕ → List ℕ → List ℕ → Result Ending Refusal → Type 0
MirrorRunDone table program budget before after (Ok e) = MirrorRan table program budget after e
MirrorRunDone table program budget before after (Err r) = NotMirrored table program before after r
