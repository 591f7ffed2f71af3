-- The two checks go on over what is left: the laws of one pair and of one triple.
use mathlib.Core.Path.{◌≡◌, refl, sym, ap, ap₂, ◌∙◌}
use mathlib.Core.List.{List, [], ◌∷◌, ◌++◌}
use mathlib.Core.Bool.{Bool, true, false, cond}
use Prim.Native.Nat.{ℕ, ◌≤◌}
use lib.Dec.{eqb}
use lib.ListN.{get_or}
use Rattle.model.specs.Word.{positive}
use Rattle.model.specs.Presentation.{Presentation, swapped, complete}
use Rattle.model.specs.Enumeration.{Two, Three}
use Rattle.model.specs.Outcome.{pair_of, Outcome, refused, ◌>>=◌}
use Rattle.model.specs.Checks.{balanced, weight_check, CubeVerdict, holds, fails, halts, reported, cube_at, cube_check}
use Rattle.model.proofs.Complete.{complete_turn}
use Rattle.cells.specs.Layout.{cell_at}
use Rattle.model.specs.Range.{InRange}
use Rattle.cells.specs.Stands.{Serves, Of}
use Rattle.cells.proofs.Rules.{of_range, word_cell}
use Rattle.table_checks.specs.Table.{SideWeighs}

-- WEIGHTS

-- both sides of a pair, as they were weighed
pub sides_weighed : (cells : List ℕ) (size : ℕ) (T : Presentation) (o : Of cells size T) (a b : ℕ) → InRange T.size a → InRange T.size b
    → (get_or cells (cell_at a b) 0 ≡ 255 → ⊥) → (r l : ℕ) → SideWeighs cells size a b r → SideWeighs cells size b a l
    → eqb r l ≡ balanced T a b (complete T a b)
sides_weighed cells size T o a b ra rb d r l there back =
    let w = word_cell cells T o.stands a b ra rb d in
    ap₂ eqb (there T o w.x w.y w.rule) (back T o w.y w.x (complete_turn T a b ∙ ap swapped w.rule)) ∙ sym (ap (balanced T a b) w.rule)

module _ (T : Presentation) (p : Two) (ps : List Two) where
  pub pair_passes : balanced T p.a p.b (complete T p.a p.b) ≡ true → weight_check T (p ∷ ps) ≡ weight_check T ps
  pair_passes e = ap (λ t. cond t (weight_check T ps) (refused 8 (pair_of p.a p.b))) e

  pub pair_fails : balanced T p.a p.b (complete T p.a p.b) ≡ false → weight_check T (p ∷ ps) ≡ refused 8 (pair_of p.a p.b)
  pair_fails e = ap (λ t. cond t (weight_check T ps) (refused 8 (pair_of p.a p.b))) e

weights_by : (T : Presentation) (t : Bool) (p : Two) (x y : Outcome (Unit {0})) → (cond t x (refused 8 (pair_of p.a p.b)) >>= λ ok. y) ≡ cond t
    (x >>= λ ok. y) (refused 8 (pair_of p.a p.b))
weights_by T true p x y = refl
weights_by T false p x y = refl

pub weights_append : (T : Presentation) (xs ys : List Two) → weight_check T (xs ++ ys) ≡ (weight_check T xs >>= λ ok. weight_check T ys)
weights_append T [] ys = refl
weights_append T (p ∷ xs) ys =
    ap (λ o. cond (balanced T p.a p.b (complete T p.a p.b)) o (refused 8 (pair_of p.a p.b))) (weights_append T xs ys)
    ∙ sym (weights_by T (balanced T p.a p.b (complete T p.a p.b)) p (weight_check T xs) (weight_check T ys))

-- TRIPLES

reported_then : (t : Three) (v : CubeVerdict) (x y : Outcome (Unit {0})) → (reported t v x >>= λ ok. y) ≡ reported t v (x >>= λ ok. y)
reported_then t holds x y = refl
reported_then t fails x y = refl
reported_then t (halts s) x y = refl

pub cubes_append : (T : Presentation) (budget room : ℕ) (xs ys : List Three)
    → cube_check T budget room (xs ++ ys) ≡ (cube_check T budget room xs >>= λ ok. cube_check T budget room ys)
cubes_append T budget room [] ys = refl
cubes_append T budget room (t ∷ xs) ys =
    ap (reported t (cube_at T budget room t)) (cubes_append T budget room xs ys)
    ∙ sym (reported_then t (cube_at T budget room t) (cube_check T budget room xs) (cube_check T budget room ys))

-- three letters of the table
pub of_serves : {cells : List ℕ} {size : ℕ} {T : Presentation} → Of cells size T → (a b c : ℕ) → 1 ≤ a → a ≤ size → 1 ≤ b → b ≤ size → 1 ≤ c → c ≤ size
    → Serves cells (positive (a ∷ b ∷ c ∷ [])) T
of_serves o a b c la ha lb hb lc hc =
    record { stands = o.stands; lettered = (of_range o a la ha, (of_range o b lb hb, (of_range o c lc hc, tt))) }
