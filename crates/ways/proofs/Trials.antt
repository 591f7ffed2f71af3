-- Entries tried one after the other.
use mathlib.Core.Path.{◌≡◌, ap, subst}
use mathlib.Core.Logic.{◌⊎◌, inl, inr}
use mathlib.Core.List.{List, Memᴰ}
use mathlib.Core.Option.{some}
use Prim.Native.Nat.{ℕ, ◌+◌, ◌≤◌, ◌<◌}
use native.Mathlib.Omega.{arith}
use native.Mathlib.Decide.{ℕ_discrete}
use Rattle.model.specs.Word.{Positive}
use Rattle.model.specs.Equivalence.{Entry, applied}
use Rattle.model.specs.Range.{InRange}
use Rattle.model.proofs.Complete.{complete_named}
use Rattle.model.proofs.Entries.{applied_applies, entry_inside}
use Rattle.ways.specs.declared.trying.Held.{Held}
use Rattle.ways.specs.State.{Work, Busy, list_of, Progress, Toward, At, Any}

-- the second letter of an entry that fits is one of the table's
second_named : {cells : List ℕ} {size : ℕ} (g : Work cells size) (e : Entry) (v : Positive) → applied g.table g.word e ≡ some v → InRange size e.b
second_named {cells} {size} g e v h =
    let t = applied_applies g.table g.word e v h in
    let named = (complete_named g.table t.differ t.swap.rule).1 in
    let b≡ : t.swap.b ≡ e.b = ap (λ q. q.b) t.same in
    subst (λ n. InRange n e.b) g.of.sized (subst (InRange g.table.size) b≡ named)

module _ {cells : List ℕ} {size : ℕ} (g : Work cells size) where
  -- nothing tried yet
  pub trial_begun : (P : Entry → Type 0) (area : List ℕ) (h : Held) (t : Busy g area h)
      → ((e : Entry) (v : Positive) → P e → applied g.table g.word e ≡ some v → ⊥) → Progress g (list_of t) P area h
  trial_begun P area h t none_yet =
      record { busy = t; kept = λ x m. m; swaps = λ e v p q. absurd (none_yet e v p q) }

  module _ (old : List Positive) (area after : List ℕ) (h k : Held) (P Q R : Entry → Type 0) where
    -- and some more
    pub trial_then : (p : Progress g old P area h) → Progress g (list_of p.busy) Q after k
        → ((e : Entry) (v : Positive) → R e → applied g.table g.word e ≡ some v → P e ⊎ Q e) → Progress g old R after k
    trial_then p q cases =
        record {
          busy = q.busy;
          kept = λ x m. q.kept x (p.kept x m);
          swaps = λ e v r a. go e v a (cases e v r a);
        }
      where
        go : (e : Entry) (v : Positive) → applied g.table g.word e ≡ some v → P e ⊎ Q e → Memᴰ v (list_of q.busy)
        go e v a (inl x) = q.kept v (p.swaps e v x a)
        go e v a (inr x) = q.swaps e v x a

  -- told of other entries
  pub trial_whole : (old : List Positive) (area : List ℕ) (h : Held) (P R : Entry → Type 0) → Progress g old P area h
      → ((e : Entry) (v : Positive) → R e → applied g.table g.word e ≡ some v → P e) → Progress g old R area h
  trial_whole old area h P R p cases = record { busy = p.busy; kept = p.kept; swaps = λ e v r a. p.swaps e v (cases e v r a) a }

  -- THE LETTERS AT ONE PLACE

  abbrev pub Below : ℕ → ℕ → Entry → Type 0
  Below offset b e = (e.offset ≡ offset) × (e.b < b)

  pub letters_begun : (offset : ℕ) (area : List ℕ) (h : Held) (t : Busy g area h) → Progress g (list_of t) (Below offset 1) area h
  letters_begun offset area h t = trial_begun (Below offset 1) area h t (λ e v p q. omega (arith, p.1, (second_named g e v q).low))

  pub letters_more : (old : List Positive) (offset b : ℕ) (area after : List ℕ) (h k : Held) (p : Progress g old (Below offset b) area h)
      → Progress g (list_of p.busy) (Toward offset b) after k → Progress g old (Below offset (b + 1)) after k
  letters_more old offset b area after h k p q =
      trial_then old area after h k (Below offset b) (Toward offset b) (Below offset (b + 1)) p q (λ e v r a. go e r (ℕ_discrete e.b b))
    where
      go : (e : Entry) → Below offset (b + 1) e → Dec (e.b ≡ b) → Below offset b e ⊎ Toward offset b e
      go e r (yes x) = inr (r.0, x)
      go e r (no x) = inl (r.0, omega (arith, r.1))

  pub letters_whole : (old : List Positive) (offset b : ℕ) (area : List ℕ) (h : Held) → size < b → Progress g old (Below offset b) area h
      → Progress g old (At offset) area h
  letters_whole old offset b area h l p =
      trial_whole old area h (Below offset b) (At offset) p (λ e v r a. (r, omega (arith, l, (second_named g e v a).high)))

  -- THE PLACES

  abbrev pub Before : ℕ → Entry → Type 0
  Before offset e = e.offset < offset

  pub places_begun : (area : List ℕ) (h : Held) (t : Busy g area h) → Progress g (list_of t) (Before 0) area h
  places_begun area h t = trial_begun (Before 0) area h t (λ e v p q. omega arith)

  pub places_more : (old : List Positive) (offset : ℕ) (area after : List ℕ) (h k : Held) (p : Progress g old (Before offset) area h)
      → Progress g (list_of p.busy) (At offset) after k → Progress g old (Before (offset + 1)) after k
  places_more old offset area after h k p q =
      trial_then old area after h k (Before offset) (At offset) (Before (offset + 1)) p q (λ e v r a. go e r (ℕ_discrete e.offset offset))
    where
      go : (e : Entry) → Before (offset + 1) e → Dec (e.offset ≡ offset) → Before offset e ⊎ At offset e
      go e r (yes x) = inr x
      go e r (no x) = inl (omega arith)

  pub places_whole : (old : List Positive) (offset : ℕ) (area : List ℕ) (h : Held) → h.letters ≤ offset → Progress g old (Before offset) area h
      → Progress g old Any area h
  places_whole old offset area h l p =
      trial_whole old area h (Before offset) Any p
      (λ e v r a. omega (arith, l, p.busy.letters_is, entry_inside g.table g.word e v a))
