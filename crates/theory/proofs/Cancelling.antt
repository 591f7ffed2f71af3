-- Where equivalent words reverse to the empty word: u m is equivalent to v exactly if the diagram of u and v has an empty denominator and a
-- numerator equivalent to m. So what follows u in a word is determined up to equivalence, and u can be cancelled on the left ([D1] section 1).
-- From the laws of diagrams (Grid.antt), after [D1] Lemmas 1.3 and 1.4. Main names: `multiple`, `divides`, `quotients_agree`, `cancel_left`.
use mathlib.Core.Path.{◌≡◌, refl, sym}
use mathlib.Core.List.{[], ◌++◌, append-nil, append-eq-nil_iff}
use Prim.Native.Nat.{ℕ}
use Rattle.model.specs.Word.{Positive}
use Rattle.model.specs.Presentation.{Complement, swapped}
use Rattle.model.proofs.Equiv.{Equiv, done, trans, by_eq, symm}
use Rattle.theory.proofs.Grid.{Grid, recast, same_grid, derives_empty, sound, unstack}

-- the diagram of u and v where u divides v on the left, with a quotient equivalent to m
pub record Divides (f : ℕ → ℕ → Complement) (u v m : Positive) : Type 0 where
  pub n : Positive
  pub k : ℕ
  pub grid : Grid f u v n [] k
  pub agree : Equiv f m n

module _ {f : ℕ → ℕ → Complement} where
  -- an empty denominator: u, then the numerator, is equivalent to v
  pub multiple : {u v n : Positive} {k : ℕ} → Grid f u v n [] k → Equiv f (u ++ n) v
  multiple {v} g = trans (sound g) (by_eq (append-nil v))

  module _ (turn : (a b : ℕ) → f b a ≡ swapped (f a b)) (complete : (u v : Positive) → Equiv f u v → (k : ℕ) × Grid f u v [] [] k) where
    pub divides : (u : Positive) {v m : Positive} → Equiv f (u ++ m) v → Divides f u v m
    divides u {v} {m} e =
        let s = unstack turn u (complete (u ++ m) v e).1 in
        let ends = append-eq-nil_iff.0 (sym s.joint) in
        record {
          n = s.mid;
          k = s.k₁;
          grid = recast refl refl refl ends.0 refl s.first;
          agree = (derives_empty (recast refl refl refl ends.1 refl s.second)).path;
        }

    pub quotients_agree : (u : Positive) {v m m' : Positive} → Equiv f (u ++ m) v → Equiv f (u ++ m') v → Equiv f m m'
    quotients_agree u e e' =
        let q = divides u e in
        let q' = divides u e' in
        trans q.agree (trans (by_eq (same_grid q.grid q'.grid).0) (symm turn q'.agree))

    pub cancel_left : (u : Positive) {m m' : Positive} → Equiv f (u ++ m) (u ++ m') → Equiv f m m'
    cancel_left u e = quotients_agree u e done
