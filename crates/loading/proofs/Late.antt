-- After the work has begun the workspace is all zero: after an answer, and after every refusal that is not one of those before the work.
use mathlib.Core.Path.{◌≡◌, refl, ap}
use mathlib.Core.List.{List}
use mathlib.Core.Bool.{Bool, true, false, cond}
use Prim.Native.Nat.{ℕ}
use lib.ListN.{length, replicate}
use Rattle.model.specs.Reversing.{Stop, no_budget, no_room}
use Rattle.model.specs.Outcome.{Place, unplaced, Outcome, answered, refused, ◌>>=◌, unless, mapped}
use Rattle.model.specs.Checks.{stop_number}
use Rattle.model.specs.Areas.{before_work, workspace_after}

pub record Late {A : Type 0} (o : Outcome A) : Type 0 where
  pub zero : (area : List ℕ) → workspace_after o area ≡ replicate (length area) 0

pub late_answer : {A : Type 0} {x : A} → Late (answered x)
late_answer = record { zero = λ area. refl }

pub late_refusal : {A : Type 0} {n : ℕ} {place : Place} → before_work n ≡ false → Late {A = A} (refused n place)
late_refusal h = record { zero = λ area. ap (λ b. cond b area (replicate (length area) 0)) h }

pub late_unless : {A : Type 0} (t : Bool) (n : ℕ) (x : A) → before_work n ≡ false → Late (unless t n x)
late_unless true n x h = late_refusal h
late_unless false n x h = late_answer

pub late_cond : {A : Type 0} (t : Bool) {x y : Outcome A} → Late x → Late y → Late (cond t x y)
late_cond true h k = h
late_cond false h k = k

pub late_then : {A B : Type 0} (o : Outcome A) (f : A → Outcome B) → Late o → ((x : A) → Late (f x)) → Late (o >>= f)
late_then (answered x) f h k = k x
late_then (refused n place) f h k = record { zero = h.zero }

pub late_mapped : {A B : Type 0} (f : A → B) (o : Outcome A) → Late o → Late (mapped f o)
late_mapped f (answered x) h = late_answer
late_mapped f (refused n place) h = record { zero = h.zero }

-- a reversing that stopped
pub late_stop : {A : Type 0} (s : Stop) → Late {A = A} (refused (stop_number s) unplaced)
late_stop no_budget = late_refusal refl
late_stop no_room = late_refusal refl
