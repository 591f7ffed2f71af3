-- What reverse makes of an ending comes after the work has begun.
use Prim.Native.Nat.{ℕ, ◌+◌}
use mathlib.Core.Path.{refl}
use lib.Dec.{ltb}
use lib.ListN.{length}
use Rattle.model.specs.Reversing.{Ending, finished, open_pair, stopped}
use Rattle.model.specs.Services.{fraction_of}
use Rattle.loading.proofs.Late.{Late, late_refusal, late_unless, late_stop}

pub fraction_late : (area : ℕ) (e : Ending) → Late (fraction_of area e)
fraction_late area (finished n d k r) = late_unless (ltb area (length n + length d)) 13 _ refl
fraction_late area (open_pair a b k) = late_refusal refl
fraction_late area (stopped s) = late_stop s
