-- The two copies in turn.
use Rattle.std.proofs.Common.{◌≡◌, ◌+◌, ◌-◌, ◌∙◌, List, ℕ, refl, ap, arith, take, drop}
use Rattle.model.specs.Areas.{begins}
use Rattle.sets.specs.declared.words.Span.{Span}
use Rattle.sets.specs.Words.{spanned}
use Rattle.sets.proofs.Rooms.{pair_loaded}
use Rattle.sets.proofs.room.load_pair.Goals as goal

-- the part that is copied is the word
part : (s : Span) (listing before after : List ℕ) → after ≡ begins (take (s.at + s.letters - s.at) (drop s.at listing)) before
    → after ≡ begins (spanned s listing) before
part s listing before after e =
    let n : s.at + s.letters - s.at ≡ s.letters = omega arith in
    e ∙ ap (λ k. begins (take k (drop s.at listing)) before) n

pub returns : goal.returns
returns c =
    let a = c.args in
    pair_loaded a.listing.now a.room.now c.copy_bytes.new.area c.copy_bytes-2.new.area _ a.u a.v c.requires
    (part a.u a.listing.now _ _ c.copy_bytes.ensures.bytes) (part a.v a.listing.now _ _ c.copy_bytes-2.ensures.bytes) refl
