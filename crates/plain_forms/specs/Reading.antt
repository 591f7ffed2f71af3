-- What reading plain forms gives: the program or the table that the model's readers give, a table in its cells.
use Rattle.std.specs.Prelude.{List, map, ◌≡◌, true, ℕ, ◌≤◌, ◌<◌, length, get_or, Ok, Err}
use Rattle.std.specs.declared.result.Result.{Result}
use Rattle.model.specs.Word.{letter}
use Rattle.model.specs.Outcome.{answered}
use Rattle.model.specs.Plain.{names_letter, read_plain_table, read_plain_program, most_letters}
use Rattle.model.specs.Stated.{refusal}
use Rattle.model.specs.declared.answers.Refusal.{Refusal}
use Rattle.images.specs.Tables.{LoadedAs}

-- A PROGRAM

-- every byte names a letter, and a program can have as many
pub record NamesLetters (size : ℕ) (plain : List ℕ) : Type 0 where
  pub short : length plain ≤ most_letters
  pub named : (i : ℕ) → i < length plain → names_letter size (get_or plain i 0) ≡ true

-- every byte names a letter, and the program is theirs
pub record PlainProgram (plain : List ℕ) (size : ℕ) : Type 0 where
  pub named : NamesLetters size plain
  pub read : read_plain_program size plain ≡ answered (map letter plain)

abbrev pub PlainDone : List ℕ → ℕ → Result (Unit {0}) Refusal → Type 0
PlainDone plain size (Ok _) = PlainProgram plain size
PlainDone plain size (Err r) = read_plain_program size plain ≡ refusal r

abbrev pub PlainTableDone : List ℕ → List ℕ → Result ℕ Refusal → Type 0
PlainTableDone plain cells r = LoadedAs (read_plain_table plain) cells r
