-- Specification 2.3, and of 6.7 which words fit. A relation step is a swap, a derivation a chain, and equivalent words are joined (2.5).
use Rattle.std.specs.Prelude.{List, [], ◌∷◌, ◌++◌, Bool, true, false, ◌&&◌, cond, ◌≡◌, ℕ, ◌+◌, ◌≤◌, eqb, length, take, drop}
use Rattle.std.proofs.Math.Option.{Option, none, some}
use Rattle.model.specs.Word.{Positive}
use Rattle.model.specs.Presentation.{Presentation, Complement, undefined, complement, complete}

-- 2.3: an entry of a chain: after `offset` letters the side that begins with a is exchanged for the one that begins with b
pub record Entry : Type 0 where
  pub offset : ℕ
  pub a : ℕ
  pub b : ℕ

-- 2.3, 6.7: whether two positive words are the same letters
abbrev pub equal : Positive → Positive → Bool
equal [] [] = true
equal [] (y ∷ ys) = false
equal (x ∷ xs) [] = false
equal (x ∷ xs) (y ∷ ys) = eqb x y && equal xs ys

-- 2.3: the word with `other` where `side` stands at the offset; none where it does not stand there
abbrev pub rewritten : Positive → ℕ → Positive → Positive → Option Positive
rewritten u offset side other =
    cond (equal (take (length side) (drop offset u)) side) (some (take offset u ++ (other ++ drop (offset + length side) u))) none

-- 2.3: the same with the sides of a relation (2.2): a, then C(a,b); b, then C(b,a). An open pair has none
abbrev pub related : Positive → Entry → Complement → Option Positive
related u e undefined = none
related u e (complement x y) = rewritten u e.offset (e.a ∷ x) (e.b ∷ y)

-- 2.3: one entry applied to a word; none where it does not fit: a and b are equal, their pair is open, or the side is not there
unfoldable pub applied : Presentation → Positive → Entry → Option Positive
applied T u e = cond (eqb e.a e.b) none (related u e (complete T e.a e.b))

-- 2.3: the entries, in order, lead from u to v
abbrev pub Leads : Presentation → Positive → List Entry → Positive → Type 0
Leads T u [] v = u ≡ v
Leads T u (e ∷ es) v = (w : Positive) × (applied T u e ≡ some w) × Leads T w es v

-- 6.7: every word on the way, the first and the last included, has at most `room` letters
abbrev pub Fits : (T : Presentation) (room : ℕ) (u : Positive) (es : List Entry) (v : Positive) → Leads T u es v → Type 0
Fits T room u [] v h = length u ≤ room
Fits T room u (e ∷ es) v h = (length u ≤ room) × Fits T room h.0 es v h.2

-- 6.7: the entries lead from u to v by words that fit
abbrev pub LeadsWithin : Presentation → ℕ → Positive → List Entry → Positive → Type 0
LeadsWithin T room u es v = (h : Leads T u es v) × Fits T room u es v h

-- 2.3: some chain, perhaps an empty one, leads from u to v
abbrev pub Joined : Presentation → Positive → Positive → Type 0
Joined T u v = (es : List Entry) × Leads T u es v
