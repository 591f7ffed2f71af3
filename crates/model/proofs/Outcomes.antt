-- An answer goes on to the next step, and a refusal stands, whatever would follow: so the first refusal met is the outcome's.
use mathlib.Core.Path.{◌≡◌, ap}
use Rattle.model.specs.Outcome.{Outcome, answered, ◌>>=◌}
use Rattle.model.specs.Stated.{refusal}
use Rattle.model.specs.declared.answers.Refusal.{Refusal}

module _ {A B : Type 0} (o : Outcome A) where
  pub goes_on : (x : A) → o ≡ answered x → (f : A → Outcome B) → (o >>= f) ≡ f x
  goes_on x e f = ap (λ q. q >>= f) e

  pub still_refused : (r : Refusal) → o ≡ refusal r → (f : A → Outcome B) → (o >>= f) ≡ refusal r
  still_refused r e f = ap (λ q. q >>= f) e
