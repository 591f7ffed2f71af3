-- The entries of an accepted chain, one by one. Each stands where its number says.
use mathlib.Core.Path.{◌≡◌, sym, subst, ◌∙◌}
use mathlib.Core.List.{List}
use Prim.Native.Nat.{ℕ, ◌+◌, ◌<◌}
use native.Mathlib.Omega.{arith}
use lib.ListN.{length, get_or}
use Rattle.model.specs.Equivalence.{Entry}
use Rattle.model.specs.Outcome.{answered}
use Rattle.model.specs.Bits.{Read, bits_of}
use Rattle.model.specs.Images.{entry_width, entry_position, read_chain}
use Rattle.model.proofs.Impossible.{same_answer}
use Rattle.bits.proofs.Bytes.{bits_are_bits}
use Rattle.bits.proofs.Fields.{bits_drop}
use Rattle.entries.specs.Entry.{EntryInside, ReadsEntry}
use Rattle.entries.specs.declared.entry.ChainEntry.{ChainEntry}
use Rattle.images.specs.Fields.{from}
use Rattle.images.specs.Chains.{entry_of, HasEntry}
use Rattle.images.proofs.RoundTrip.{chain_in_range}
use Rattle.images.proofs.Inverse.{entry_codec}
use Rattle.images.proofs.Placed.{entry_placed, entry_inside}

abbrev none : Entry
none = record { offset = 0; a = 0; b = 0 }

module _ (image : List ℕ) (size i : ℕ) (p : HasEntry image size i) where
  pub entry_there : EntryInside size i image
  entry_there =
      record {
        some = p.some;
        few = p.few;
        low = omega (arith, p.inside, (chain_in_range size p.few image p.entries p.read).short);
        inside = entry_inside size p.few image p.entries p.read i p.inside;
      }

  pub entry_answer : (x : ChainEntry) → ReadsEntry size i image x → (es : List Entry) → read_chain size image ≡ answered es → entry_of x ≡ get_or es i none
  entry_answer x reads es e =
      let l : i < length es = subst (λ es. i < length es) (same_answer p.entries es (sym p.read ∙ e)) p.inside in
      let bits = bits_drop (entry_position size i) (bits_of image) (bits_are_bits image) in
      let r : Read Entry = record { value = get_or es i none; rest = from image (entry_position size i + entry_width size) } in
      let there = entry_placed size p.few image es e i l none in
      let codec = entry_codec size p.few in
      let same =
      reads (get_or es i none) r.rest (codec.in_range (from image (entry_position size i)) bits r there)
      (codec.stood_there (from image (entry_position size i)) bits r there) in
      λ j. record { offset = same.offset j; a = same.a j; b = same.b j }
