-- What rendering asks and gives.
use Rattle.std.specs.Prelude.{List, ◌≡◌, ℕ, ◌≤◌, length, take}
use Rattle.images.specs.Programs.{Accepted}
use Rattle.images.specs.Tables.{SizeOf}
use Rattle.text.specs.Text.{report}

-- the reader's areas (specification 9.2), and an output area that has room for the longest report
pub record Areas (workspace answer out : List ℕ) : Type 0 where
  pub workspace_length : length workspace ≡ 32768
  pub answer_length : length answer ≡ 32768
  pub room : 262144 ≤ length out

-- a program that was accepted under a table that was
pub record Readable (table program : List ℕ) (size count : ℕ) : Type 0 where
  pub table_read : SizeOf table size
  pub program_read : Accepted program size count

pub record Reported (table program out : List ℕ) (r : ℕ) : Type 0 where
  pub inside : r ≤ length out
  pub text : take r out ≡ report table program
