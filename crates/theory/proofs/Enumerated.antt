-- Every pair and every triple of different letters, the first two in order, is among those that the two checks of a table go through,
-- so that what a check says of each member of its list holds of all of them (specification 4.1).
-- From the definitions alone. Main names: `pairs_have`, `triples_have`.
use mathlib.Core.Path.{◌≡◌, sym, ap, ◌∙◌}
use mathlib.Core.Logic.{◌≢◌}
use mathlib.Core.List.Memᴰ
use mathlib.Core.List.{List, ◌∷◌, map, Memᴰ}
use mathlib.Core.Bool.{Bool, true, false, ◌||◌, cond}
use Prim.Native.Nat.{ℕ, zero, suc, ◌+◌, ◌-◌, ◌≤◌, ◌<◌}
use native.Mathlib.Omega.{arith}
use native.Mathlib.Decide.{ℕ_discrete}
use lib.Dec.{eqb}
use borrow.Author.Tests.{ne_eqb}
use Rattle.model.specs.Enumeration.{range, concat_map, pairs, others, triples}

pub range_has : (from k c : ℕ) → from ≤ c → c < from + k → Memᴰ c (range from k)
range_has from zero c low high = absurd (omega arith)
range_has from (suc k) c low high = go (ℕ_discrete c from) (λ l. range_has (suc from) k c l (omega arith))
  where
    go : Dec (c ≡ from) → (suc from ≤ c → Memᴰ c (range (suc from) k)) → Memᴰ c (range from (suc k))
    go (yes e) rest = Memᴰ.head e
    go (no e) rest = Memᴰ.tail (rest (omega arith))

pub concat_has : {A B : Type 0} (f : A → List B) {x : A} {y : B} {l : List A} → Memᴰ x l → Memᴰ y (f x) → Memᴰ y (concat_map f l)
concat_has f {y} (Memᴰ.head {x = z} {xs} e) h = Memᴰ.append_left {s = f z} (concat_map f xs) (rw (← e) h)
concat_has f (Memᴰ.tail {x = z} m) h = Memᴰ.append_right (f z) (concat_has f m h)

others_keep : (a b c : ℕ) (l : List ℕ) → c ≢ a → c ≢ b → others a b (c ∷ l) ≡ c ∷ others a b l
others_keep a b c l p q =
    ap (λ t. cond (t || eqb c b) (others a b l) (c ∷ others a b l)) (ne_eqb c a p)
    ∙ ap (λ t. cond t (others a b l) (c ∷ others a b l)) (ne_eqb c b q)

others_past : (a b c x : ℕ) (l : List ℕ) → Memᴰ c (others a b l) → (t : Bool) → Memᴰ c (cond t (others a b l) (x ∷ others a b l))
others_past a b c x l m true = m
others_past a b c x l m false = Memᴰ.tail m

others_has : (a b c : ℕ) {l : List ℕ} → c ≢ a → c ≢ b → Memᴰ c l → Memᴰ c (others a b l)
others_has a b c p q (Memᴰ.head {x} {xs} e) =
    rw (others_keep a b x xs (λ h. p (e ∙ h)) (λ h. q (e ∙ h))) (Memᴰ.head e)
others_has a b c p q (Memᴰ.tail {x} {xs} m) = others_past a b c x xs (others_has a b c p q m) (eqb x a || eqb x b)

pub pairs_have : (n a b : ℕ) → 1 ≤ a → a < b → b ≤ n → Memᴰ (record { a = a; b = b }) (pairs n)
pairs_have n a b low h high =
    concat_has (λ a. map (λ b. record { a = a; b = b }) (range (suc a) (n - a))) (range_has 1 n a low (omega arith))
    (Memᴰ.map (λ b. record { a = a; b = b }) (range_has (suc a) (n - a) b h (omega arith)))

pub triples_have : (n a b c : ℕ) → 1 ≤ a → a < b → b ≤ n → 1 ≤ c → c ≤ n → a ≢ c → b ≢ c → Memᴰ (record { a = a; b = b; c = c }) (triples n)
triples_have n a b c low h high low-c high-c p q =
    concat_has (λ p. map (λ c. record { a = p.a; b = p.b; c = c }) (others p.a p.b (range 1 n))) (pairs_have n a b low h high)
    (Memᴰ.map (λ c. record { a = a; b = b; c = c })
    (others_has a b c (λ e. p (sym e)) (λ e. q (sym e)) (range_has 1 n c low-c (omega arith))))
