-- One entry of a chain followed: the three cases of the model's `followed`.
use mathlib.Core.Path.{◌≡◌, refl, sym, ap, ◌∙◌}
use mathlib.Core.List.{List, [], ◌∷◌}
use mathlib.Core.Bool.{cond}
use mathlib.Core.Option.{none, some}
use Prim.Native.Nat.{ℕ, zero, suc, ◌+◌, ◌≤◌, ◌<◌}
use native.Mathlib.Omega.{arith}
use native.Mathlib.Numerals.{add-one}
use borrow.Author.Tests.{lt-ltb, le-ltb}
use lib.ListN.{length, drop, get_or}
use lib.Seq.{drop-cons}
use Rattle.model.specs.Word.{Positive}
use Rattle.model.specs.Presentation.{Presentation}
use Rattle.model.specs.Equivalence.{Entry, equal, applied}
use Rattle.model.specs.Outcome.{unplaced, Outcome, answered, refused}
use Rattle.model.specs.Services.{Passage, joins, breaks, ends_elsewhere, followed_by, followed}
use Rattle.model.specs.Images.{read_chain}
use Rattle.images.specs.Chains.{ChainOf}
use Rattle.model.specs.Range.{All, EntryInRange}

abbrev pub blank : Entry
blank = record { offset = 0; a = 0; b = 0 }

pub entry_in_range : (n : ℕ) (es : List Entry) (i : ℕ) → i < length es → All (EntryInRange n) es → EntryInRange n (get_or es i blank)
entry_in_range n [] i h p = absurd (omega arith)
entry_in_range n (e ∷ es) zero h p = p.0
entry_in_range n (e ∷ es) (suc i) h p = entry_in_range n es i (omega arith) p.1

-- an image holds one chain
pub the_entries : {image : List ℕ} {size count : ℕ} (f : ChainOf image size count) (es : List Entry) → read_chain size image ≡ answered es → f.entries ≡ es
the_entries f es e = cc (f.read, e)

module _ (T : Presentation) (room : ℕ) (u : Positive) (es : List Entry) (v : Positive) where
  pub follow_end : (i : ℕ) → length es ≤ i → followed T room i u (drop i es) v ≡ answered (cond (equal u v) joins ends_elsewhere)
  unfolding followed
  follow_end i h = ap (λ l. followed T room i u l v) (past es i h)
    where
      past : (l : List Entry) (n : ℕ) → length l ≤ n → drop n l ≡ []
      past [] zero g = refl
      past [] (suc n) g = refl
      past (x ∷ l) zero g = absurd (omega arith)
      past (x ∷ l) (suc n) g = past l n (omega arith)

  module _ (i : ℕ) (h : i < length es) where
    abbrev go : Positive → Outcome Passage
    go w = followed T room (suc i) w (drop (suc i) es) v

    one : followed T room i u (drop i es) v ≡ followed_by room i go (applied T u (get_or es i blank))
    unfolding followed
    one = ap (λ l. followed T room i u l v) (drop-cons es i blank h)

    pub follow_breaks : applied T u (get_or es i blank) ≡ none → followed T room i u (drop i es) v ≡ answered (breaks i)
    follow_breaks e = one ∙ ap (followed_by room i go) e

    module _ (w : Positive) (e : applied T u (get_or es i blank) ≡ some w) where
      pub follow_short : room < length w → followed T room i u (drop i es) v ≡ refused 12 unplaced
      follow_short l = one ∙ (ap (followed_by room i go) e ∙ ap (λ t. cond t (refused 12 unplaced) (go w)) (lt-ltb room (length w) l))

      pub follow_on : length w ≤ room → followed T room i u (drop i es) v ≡ followed T room (i + 1) w (drop (i + 1) es) v
      follow_on l =
          one
          ∙ (ap (followed_by room i go) e
          ∙ (ap (λ t. cond t (refused 12 unplaced) (go w)) (le-ltb room (length w) l) ∙ ap (λ j. followed T room j w (drop j es) v) (sym (add-one i))))
