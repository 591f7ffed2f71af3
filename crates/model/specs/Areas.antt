-- Specification 6.1, the lent areas after a call; what the answer area holds is 6.2, 6.6, 6.9 and 6.10.
use Rattle.std.specs.Prelude.{List, [], ◌++◌, Bool, ◌||◌, cond, ◌≡◌, ℕ, ◌+◌, leb, eqb, length, take, drop, replicate}
use Rattle.model.specs.Word.{Positive}
use Rattle.model.specs.Presentation.{Presentation}
use Rattle.model.specs.Equivalence.{Entry, Leads}
use Rattle.model.specs.Outcome.{Outcome, answered, refused}
use Rattle.model.specs.Images.{read_table, read_chain, chain_image}
use Rattle.model.specs.Services.{Fraction, ChainAnswer, listed_after, unlisted_after, Remainder, moves_after, none_after, read_forward}

-- an area with bytes put from a place on, and as it was before and after them
abbrev pub written : List ℕ → ℕ → List ℕ → List ℕ
written area at bytes = take at area ++ (bytes ++ drop (at + length bytes) area)

-- 6.1: an area that begins with the bytes and is as it was from there on
abbrev pub begins : List ℕ → List ℕ → List ℕ
begins bytes area = bytes ++ drop (length bytes) area

-- 6.1: the answer area: it begins with the answer's bytes; after a refusal it is as it was
abbrev pub output_after : {A : Type 0} → (A → List ℕ) → Outcome A → List ℕ → List ℕ
output_after bytes (answered x) area = begins (bytes x) area
output_after bytes (refused n place) area = area

-- 6.9: what is written reads back: the first k bytes of the area, where k bytes were written, are read as what the input was read as
abbrev pub ReadsBack : {A : Type 0} → Outcome A → (List ℕ → Outcome A) → Outcome ℕ → List ℕ → Type 0
ReadsBack subject read (answered k) area = read (take k area) ≡ subject
ReadsBack subject read (refused n place) area = Unit {0}

-- 6.2: N, then D, a byte a letter
abbrev pub fraction_bytes : Fraction → List ℕ
fraction_bytes f = f.numerator ++ f.denominator

-- 6.10: the moves, a byte a letter; none writes nothing
abbrev pub remainder_bytes : Remainder Positive → List ℕ
remainder_bytes (moves_after m k) = m
remainder_bytes (none_after k) = []

-- 6.1: the refusals that come before the work begins: 1 to 8, 16, and 23 and 24
abbrev pub before_work : ℕ → Bool
before_work n = leb n 8 || (eqb n 16 || (eqb n 23 || eqb n 24))

-- 6.1: the workspace: as found after these, all zero after answers and the other refusals
abbrev pub workspace_after : {A : Type 0} → Outcome A → List ℕ → List ℕ
workspace_after (answered x) area = replicate (length area) 0
workspace_after (refused n place) area = cond (before_work n) area (replicate (length area) 0)

-- 6.6, which LEAVES OPEN which chain is listed: one of so many entries that leads from u to v. The area begins with its image, of so many bytes, which
-- reads back as these entries.
pub record Listed (T : Presentation) (u v : Positive) (many bytes : ℕ) (before after : List ℕ) : Type 0 where
  pub entries : List Entry
  pub leads : Leads T u entries v
  pub counted : length entries ≡ many
  pub long : length (chain_image T.size entries) ≡ bytes
  pub written : after ≡ begins (chain_image T.size entries) before
  pub readable : read_chain T.size (chain_image T.size entries) ≡ answered entries

-- 6.4: what the images of a comparison hold
pub record Compares (table first second : List ℕ) (T : Presentation) (u v : Positive) : Type 0 where
  pub table_read : read_table table ≡ answered T
  pub first_read : read_forward T.size first ≡ answered u
  pub second_read : read_forward T.size second ≡ answered v

-- 6.6: the answer area of chain: after same a listed chain, else as it was
abbrev pub ChainArea : List ℕ → List ℕ → List ℕ → List ℕ → List ℕ → Outcome ChainAnswer → Type 0
ChainArea table first second before after (answered (listed_after k many bytes)) =
    (T : Presentation) × (u v : Positive) × Compares table first second T u v × Listed T u v many bytes before after
ChainArea table first second before after (answered (unlisted_after k)) = after ≡ before
ChainArea table first second before after (refused n place) = after ≡ before
