-- Two different constructors are never equal. `cc` shows of hypotheses that say so that 0 is 1, and from that follows anything:
-- a case that cannot be is closed by `impossible (cc)`.
-- So an answer of two steps, and one of a test, come from answers.
use mathlib.Core.Path.{◌≡◌, refl}
use mathlib.Core.Bool.{Bool, true, false}
use Prim.Native.Nat.{ℕ}
use native.Mathlib.Omega.{arith}
use Rattle.model.specs.Outcome.{Outcome, answered, refused, ◌>>=◌, unless}

pub impossible : {A : Type 0} → ◌≡◌ {A = ℕ} 0 1 → A
impossible e = absurd (omega arith)

-- an answer of two steps comes from an answer of the first
pub answer_of : {A B : Type 0} (o : Outcome A) (f : A → Outcome B) (y : B) → (o >>= f) ≡ answered y → (x : A) × (o ≡ answered x) × (f x ≡ answered y)
answer_of (answered x) f y e = (x, refl, e)
answer_of (refused n place) f y e = impossible (cc)

-- one answer is of one value
pub same_answer : {A : Type 0} (x y : A) → ◌≡◌ {A = Outcome A} (answered x) (answered y) → x ≡ y
same_answer x y e = cc

-- an answer of a test comes from its not refusing
pub not_refused : {A : Type 0} (t : Bool) (n : ℕ) (x y : A) → unless t n x ≡ answered y → (t ≡ false) × (x ≡ y)
not_refused true n x y e = impossible (cc)
not_refused false n x y e = (refl, same_answer x y e)
