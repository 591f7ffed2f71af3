-- What listing all words comes to.
use Rattle.std.specs.Prelude.{List, ◌≡◌, ℕ, ◌+◌, ◌<◌, length, Option, Some, None}
use Rattle.model.specs.declared.answers.Ways.{Ways}
use Rattle.model.specs.Word.{Positive}
use Rattle.model.specs.Presentation.{Presentation}
use Rattle.model.specs.Areas.{begins}
use Rattle.model.specs.Ways.{listing, listing_bytes}
use Rattle.theory.specs.Ways.{Weighed}
use Rattle.cells.specs.Stands.{Of}
use Rattle.ways.specs.Area.{Marked}
use Rattle.ways.specs.Marks.{UntriedFound}
use Rattle.ways.specs.State.{Sound}

-- a table in the cells, a program, and the area as it was at first
pub record Task (cells : List ℕ) (size : ℕ) : Type 0 where
  pub table : Presentation
  pub of : Of cells size table
  pub program : Positive
  pub weighed : Weighed table program
  pub before : List ℕ

-- words were found, and so many of them tried
abbrev pub State : {cells : List ℕ} {size : ℕ} → Task cells size → List ℕ → ℕ → ℕ → Type 0
State k area used count = (ms : List Marked) × Sound k.table k.program k.before area used ms count

abbrev pub Begun : List ℕ → ℕ → List ℕ → ℕ → Type 0
Begun cells size area used = (k : Task cells size) × State k area used 0

-- words were found, and the first of them that was not tried ends at `end`
pub record NextUntried (cells : List ℕ) (size : ℕ) (area : List ℕ) (used end : ℕ) : Type 0 where
  pub task : Task cells size
  pub count : ℕ
  pub state : State task area used count
  pub found : UntriedFound area used end
  pub inside : end < used

-- the listing is longer than the area
abbrev pub Longer : {cells : List ℕ} {size : ℕ} → Task cells size → Type 0
Longer k = length k.before < length (listing_bytes (listing k.table k.program))

-- one word more was tried
abbrev pub NextTriedMeans : {cells : List ℕ} {size : ℕ} → Task cells size → ℕ → List ℕ → Option ℕ → Type 0
NextTriedMeans k count area (Some used) = State k area used (count + 1)
NextTriedMeans k count area None = Longer k

-- .. in every task that has come so far
abbrev pub NextMeans : List ℕ → ℕ → List ℕ → ℕ → List ℕ → Option ℕ → Type 0
NextMeans cells size area used after r = (k : Task cells size) (count : ℕ) → State k area used count → NextTriedMeans k count after r

-- the area begins with the listing, and is as it was from there on
pub record ListedAll {cells : List ℕ} {size : ℕ} (k : Task cells size) (area : List ℕ) (words bytes : ℕ) : Type 0 where
  pub area_is : area ≡ begins (listing_bytes (listing k.table k.program)) k.before
  pub words_are : words ≡ length (listing k.table k.program)
  pub bytes_are : bytes ≡ length (listing_bytes (listing k.table k.program))

abbrev pub ListingMeans : {cells : List ℕ} {size : ℕ} → Task cells size → List ℕ → Option Ways → Type 0
ListingMeans k area (Some l) = ListedAll k area l.words l.bytes
ListingMeans k area None = Longer k

abbrev pub ListMeans : List ℕ → ℕ → List ℕ → ℕ → List ℕ → Option Ways → Type 0
ListMeans cells size area used after r = (k : Task cells size) → State k area used 0 → ListingMeans k after r
