-- What reading a chain image gives.
use Rattle.std.specs.Prelude.{List, ◌≡◌, ℕ, ◌+◌, ◌*◌, ◌≤◌, ◌<◌, length, Ok, Err}
use Rattle.std.specs.declared.result.Result.{Result}
use Rattle.model.specs.Equivalence.{Entry}
use Rattle.model.specs.Outcome.{unplaced, answered, refused}
use Rattle.model.specs.Images.{offset_width, entry_field, read_chain, most_size}
use Rattle.model.specs.Stated.{refusal}
use Rattle.model.specs.declared.answers.Refusal.{Refusal}
use Rattle.images.specs.Fields.{from, fault_code}
use Rattle.entries.specs.declared.entry.ChainEntry.{ChainEntry}
use Rattle.images.specs.declared.fields.FieldFault.{FieldFault}

-- the model's entry of the code's
abbrev pub entry_of : ChainEntry → Entry
entry_of e = record { offset = e.offset; a = e.a; b = e.b }

pub record EntryAt (image : List ℕ) (at size width : ℕ) (e : ChainEntry) : Type 0 where
  pub inside : at + offset_width + width + width ≤ 8 * length image
  pub read : entry_field size (from image at) ≡ answered (record { value = entry_of e; rest = from image (at + offset_width + width + width) })

abbrev pub EntryDone : List ℕ → ℕ → ℕ → ℕ → Result ChainEntry FieldFault → Type 0
EntryDone image at size width (Ok e) = EntryAt image at size width e
EntryDone image at size width (Err f) = entry_field size (from image at) ≡ refused (fault_code 4 5 f) unplaced

-- the image of a chain of so many entries
pub record ChainOf (image : List ℕ) (size count : ℕ) : Type 0 where
  pub entries : List Entry
  pub read : read_chain size image ≡ answered entries
  pub count_is : length entries ≡ count

abbrev pub ChainDone : List ℕ → ℕ → Result ℕ Refusal → Type 0
ChainDone image size (Ok count) = ChainOf image size count
ChainDone image size (Err r) = read_chain size image ≡ refusal r

-- an accepted chain has an entry numbered i, from 0
pub record HasEntry (image : List ℕ) (size i : ℕ) : Type 0 where
  pub some : 1 ≤ size
  pub few : size ≤ most_size
  pub entries : List Entry
  pub read : read_chain size image ≡ answered entries
  pub inside : i < length entries
