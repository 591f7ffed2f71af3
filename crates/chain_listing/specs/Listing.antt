-- What the listing of a chain is given, and what it leaves in the answer area.
use Rattle.std.specs.Prelude.{List, [], ◌++◌, ◌≡◌, ℕ, ◌^◌, ◌≤◌, ◌<◌, length}
use Rattle.model.specs.Word.{Positive, positive, negative}
use Rattle.model.specs.Presentation.{Presentation, weigh}
use Rattle.model.specs.Equivalence.{Entry, Leads}
use Rattle.model.specs.Reversing.{finished, reversing}
use Rattle.model.specs.Images.{offset_width, chain_image}
use Rattle.model.specs.Services.{chain_bytes}
use Rattle.model.specs.Areas.{begins}
use Rattle.engine.specs.Gap.{word_at}
use Rattle.model.specs.Range.{Lettered, All, EntryInRange}
use Rattle.cells.specs.Stands.{Stands}
use Rattle.chain_listing.specs.Course.{Even}

-- a comparison that answered `same`, whose word the workspace holds again, and room for its chain
pub record Compared (cells : List ℕ) (size : ℕ) (bytes : List ℕ) (left right relations output : ℕ) (T : Presentation) (u v : Positive)
    (steps : ℕ) : Type 0 where
  pub stands : Stands cells T
  pub size_is : size ≡ T.size
  pub even : Even T
  pub short : weigh T u < 2 ^ offset_width
  pub first_named : Lettered T.size (positive u)
  pub second_named : Lettered T.size (positive v)
  pub ordered : left ≤ right
  pub inside : right ≤ length bytes
  pub first_length : length u ≡ left
  pub word : word_at bytes left right ≡ negative u ++ positive v
  pub budget : ℕ
  pub same : reversing T budget (length bytes) (negative u ++ positive v) ≡ finished [] [] steps relations
  pub enough : chain_bytes size relations ≤ output

-- for some words
abbrev pub Listable : List ℕ → ℕ → List ℕ → ℕ → ℕ → ℕ → ℕ → Type 0
Listable cells size bytes left right relations output =
    (T : Presentation) × (u v : Positive) × (steps : ℕ) × Compared cells size bytes left right relations output T u v steps

-- the area begins with the image of a chain of so many entries from u to v, each of which an image can hold
pub record Chained (T : Presentation) (u v : Positive) (many : ℕ) (before after : List ℕ) : Type 0 where
  pub entries : List Entry
  pub leads : Leads T u entries v
  pub counted : length entries ≡ many
  pub long : length (chain_image T.size entries) ≡ chain_bytes T.size many
  pub written : after ≡ begins (chain_image T.size entries) before
  pub short : length entries < 65536
  pub fit : All (EntryInRange T.size) entries

-- under every presentation and for all words
abbrev pub ListMeans : List ℕ → ℕ → List ℕ → ℕ → ℕ → ℕ → List ℕ → List ℕ → Type 0
ListMeans cells size bytes left right relations before after =
    (T : Presentation) (u v : Positive) (steps : ℕ) → Compared cells size bytes left right relations (length before) T u v steps
    → Chained T u v relations before after
