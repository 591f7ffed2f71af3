-- How far the listing of a chain has come.
use Rattle.std.specs.Prelude.{List, [], ◌∷◌, ◌++◌, map, ◌≡◌, ℕ, ◌+◌, ◌-◌, ◌*◌, ◌^◌, ◌≤◌, ◌<◌, length, take, drop, get_or}
use Rattle.model.specs.Word.{Word, Positive, positive, negative}
use Rattle.model.specs.Presentation.{Presentation, complement, complete, weigh}
use Rattle.model.specs.Images.{offset_width, most_length, word_lengths}
use Rattle.model.specs.Equivalence.{Entry, Leads}
use Rattle.model.specs.Reversing.{finished, run}
use Rattle.model.specs.Services.{chain_bytes}
use Rattle.engine.specs.Gap.{letters}
use Rattle.model.specs.Range.{Lettered}
use Rattle.cells.specs.Layout.{Letters, cell_at}
use Rattle.cells.specs.Stands.{Stands}
use Rattle.chain_listing.specs.Faces.{Face, slot_of, word_of, passed_of, Stacked}
use Rattle.chain_listing.specs.Layout.{Layout}
use Rattle.chain_listing.specs.declared.moves.Progress.{Progress}

-- two words, the steps of their comparison, the workspace's length, and the answer area as it was
pub record Task : Type 0 where
  pub table : Presentation
  pub first : Positive
  pub second : Positive
  pub steps : ℕ
  pub room : ℕ
  pub area : List ℕ

-- relations keep weight
abbrev pub Even : Presentation → Type 0
Even T = (a b : ℕ) (x y : Positive) → complete T a b ≡ complement x y → weigh T (a ∷ x) ≡ weigh T (b ∷ y)

-- what does not change
pub record Fixed (t : Task) (cells : List ℕ) (size total : ℕ) : Type 0 where
  pub stands : Stands cells t.table
  pub size_is : size ≡ t.table.size
  pub even : Even t.table
  pub short : weigh t.table t.first < 2 ^ offset_width
  pub named : Lettered size (positive t.second)
  pub few : total < 65536
  pub enough : chain_bytes size total ≤ length t.area

-- the reversing goes on from a word, with so many relation steps done
pub record Running (t : Task) (total : ℕ) (word : Word) (relations : ℕ) : Type 0 where
  pub budget : ℕ
  pub steps : ℕ
  pub fits : length word ≤ t.room
  pub finishes : run t.table t.room budget steps relations word ≡ finished [] [] t.steps total

-- the entries have led from the first word, and the faces and the rest stand for the word of the reversing
pub record Course (t : Task) (size total : ℕ) (taken rest : Positive) (faces : List Face) (done left : Positive) (entries : List Entry) : Type 0 where
  pub stacked : Stacked t.table t.second taken faces done left
  pub running : Running t total (word_of rest taken faces left) (length entries + length faces)
  pub leads : Leads t.table t.first entries (passed_of faces done ++ rest)
  pub named : Lettered size (positive rest)

-- the workspace and the answer area hold it
pub record Held (t : Task) (size total : ℕ) (rest : Positive) (faces : List Face) (done left : Positive) (entries : List Entry) (bytes answer : List ℕ)
    (at : Progress) : Type 0 where
  pub wide : length bytes ≡ t.room
  pub ordered : at.left ≤ at.right
  pub inside : at.right ≤ length bytes
  pub rest_held : letters (take at.left bytes) ≡ negative rest
  pub left_held : letters (drop at.right bytes) ≡ positive left
  pub passed : at.passed ≡ length (passed_of faces done)
  pub emitted : at.emitted ≡ length entries
  pub stacked : at.stacked ≡ length faces
  pub layout : Layout size total t.area entries (map slot_of faces) answer

pub record Situation (t : Task) (cells : List ℕ) (size total : ℕ) (taken : Positive) (bytes answer : List ℕ) (at : Progress) : Type 0 where
  pub settled : Fixed t cells size total
  pub rest : Positive
  pub faces : List Face
  pub done : Positive
  pub left : Positive
  pub entries : List Entry
  pub course : Course t size total taken rest faces done left entries
  pub held : Held t size total rest faces done left entries bytes answer at

-- the top face is of a, b, and none of its letters is left
pub record TopDone (faces : List Face) (a b : ℕ) : Type 0 where
  pub face : Face
  pub others : List Face
  pub top : faces ≡ face ∷ others
  pub none_left : face.left ≡ []
  pub is_a : face.a ≡ a
  pub is_b : face.b ≡ b

-- a and the letters of C(a,b) are among those that are passed
pub record FacePassed (cells : List ℕ) (passed a b : ℕ) : Type 0 where
  pub letters : Letters a b
  pub inside : cell_at a b < length cells
  pub long : get_or cells (cell_at a b) 0 < passed

-- for some task
abbrev pub Somewhere : List ℕ → ℕ → ℕ → Positive → List ℕ → List ℕ → Progress → Type 0
Somewhere cells size total taken bytes answer at = (t : Task) × Situation t cells size total taken bytes answer at

abbrev pub Emittable : List ℕ → ℕ → List ℕ → List ℕ → Progress → ℕ → ℕ → Type 0
Emittable cells size bytes answer at a b =
    (total : ℕ) × (t : Task) × (s : Situation t cells size total [] bytes answer at) × TopDone s.faces a b

-- what is left to do
abbrev pub ahead : ℕ → Progress → ℕ
ahead total at = word_lengths * (total - at.emitted) + at.left

-- a move: less is left to do, and every task goes on
pub record Moves (cells : List ℕ) (size total : ℕ) (taken : Positive) (bytes answer : List ℕ) (at : Progress) (bytes' answer' : List ℕ)
    (at' : Progress) : Type 0 where
  pub falls : ahead total at' < ahead total at
  pub situation : (t : Task) → Situation t cells size total taken bytes answer at → Situation t cells size total [] bytes' answer' at'

-- one entry more: C(b,a) has at most 15 letters, and every task goes on
pub record Emits (cells : List ℕ) (size : ℕ) (bytes answer : List ℕ) (at : Progress) (a b : ℕ) (bytes' answer' : List ℕ) (at' : Progress) : Type 0 where
  pub one_more : at'.emitted ≡ at.emitted + 1
  pub few_more : at'.left ≤ at.left + most_length
  pub situation : (total : ℕ) (t : Task) (s : Situation t cells size total [] bytes answer at) → TopDone s.faces a b
      → Situation t cells size total [] bytes' answer' at'

-- the whole chain is written
pub record Complete (t : Task) (size total : ℕ) (answer : List ℕ) : Type 0 where
  pub entries : List Entry
  pub leads : Leads t.table t.first entries t.second
  pub number : length entries ≡ total
  pub layout : Layout size total t.area entries [] answer

abbrev pub WalkMeans : List ℕ → ℕ → ℕ → List ℕ → List ℕ → Progress → List ℕ → Type 0
WalkMeans cells size total bytes answer at answer' =
    (t : Task) → Situation t cells size total [] bytes answer at → Complete t size total answer'
