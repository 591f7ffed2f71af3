-- Two tests together.
use mathlib.Core.Path.{◌≡◌, refl, ap, ◌∙◌}
use mathlib.Core.Bool.{Bool, true, false, ◌&&◌, ◌||◌}
use Rattle.model.proofs.Impossible.{impossible}

pub both_true : (s t : Bool) → s && t ≡ true → (s ≡ true) × (t ≡ true)
both_true true t e = (refl, e)
both_true false t e = impossible (cc)

pub both : {s t : Bool} → s ≡ true → t ≡ true → s && t ≡ true
both {t} p q = ap (λ s. s && t) p ∙ q

pub second_false : (s : Bool) {t : Bool} → t ≡ false → s && t ≡ false
second_false true e = e
second_false false e = refl

pub neither_true : (s t : Bool) → s || t ≡ false → (s ≡ false) × (t ≡ false)
neither_true true t e = impossible (cc)
neither_true false t e = (refl, e)
