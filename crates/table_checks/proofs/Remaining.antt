-- The triples that are left from a place on, in the order of specification 4.1.
use mathlib.Core.Path.{◌≡◌, refl, ap, ◌∙◌}
use mathlib.Core.List.{List, [], ◌∷◌, ◌++◌, map}
use mathlib.Core.Bool.{Bool, true, false, ◌||◌, cond}
use Prim.Native.Nat.{ℕ, ◌+◌, ◌-◌, ◌≤◌, ◌<◌}
use native.Mathlib.Omega.{arith}
use lib.Dec.{eqb}
use Rattle.model.specs.Enumeration.{range, concat_map, Two, Three, others, triples}
use Rattle.model.proofs.Pairs.{up_to, up_some, up_none, row_from, pairs_from, row_begins, row_some, row_none, pairs_begin, pairs_some, pairs_none}
use Rattle.model.proofs.Lists.{concat_append}
use Rattle.table_checks.specs.Table.{triples_with}

abbrev pub triple : ℕ → ℕ → ℕ → Three
triple a b c = record { a = a; b = b; c = c }

-- of a pair with the letters from c on
abbrev pub thirds : ℕ → ℕ → ℕ → ℕ → List Three
thirds n a b c = triples_with a b (up_to n c)

abbrev of_pair : ℕ → Two → List Three
of_pair n p = triples_with p.a p.b (range 1 n)

-- of a with the letters from b on, and of the letters from a on
abbrev pub seconds : ℕ → ℕ → ℕ → List Three
seconds n a b = concat_map (of_pair n) (row_from n a b)

abbrev pub firsts : ℕ → ℕ → List Three
firsts n a = concat_map (of_pair n) (pairs_from n a)

pub triples_begin : (n : ℕ) → triples n ≡ firsts n 1
triples_begin n = ap (concat_map (of_pair n)) (pairs_begin n)

pub firsts_some : (n a : ℕ) → a ≤ n → firsts n a ≡ seconds n a (a + 1) ++ firsts n (a + 1)
firsts_some n a h =
    ap (concat_map (of_pair n)) (pairs_some n a h ∙ ap (λ l. l ++ pairs_from n (a + 1)) (row_begins n a))
    ∙ concat_append (of_pair n) (row_from n a (a + 1)) (pairs_from n (a + 1))

pub firsts_none : (n a : ℕ) → n < a → firsts n a ≡ []
firsts_none n a h = ap (concat_map (of_pair n)) (pairs_none n a h)

pub seconds_some : (n a b : ℕ) → b ≤ n → seconds n a b ≡ thirds n a b 1 ++ seconds n a (b + 1)
seconds_some n a b h =
    let e : n ≡ n + 1 - 1 = omega arith in
    ap (concat_map (of_pair n)) (row_some n a b h) ∙ ap (λ k. triples_with a b (range 1 k) ++ seconds n a (b + 1)) e

pub seconds_none : (n a b : ℕ) → n < b → seconds n a b ≡ []
seconds_none n a b h = ap (concat_map (of_pair n)) (row_none n a b h)

pub thirds_some : (n a b c : ℕ) → c ≤ n → thirds n a b c ≡ triples_with a b (c ∷ []) ++ thirds n a b (c + 1)
thirds_some n a b c h = ap (triples_with a b) (up_some n c h) ∙ go (eqb c a || eqb c b)
  where
    go : (t : Bool) → map (triple a b) (cond t (others a b (up_to n (c + 1))) (c ∷ others a b (up_to n (c + 1))))
        ≡ map (triple a b) (cond t [] (c ∷ [])) ++ thirds n a b (c + 1)
    go true = refl
    go false = refl

pub thirds_none : (n a b c : ℕ) → n < c → thirds n a b c ≡ []
thirds_none n a b c h = ap (triples_with a b) (up_none n c h)
