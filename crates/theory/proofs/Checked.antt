-- What the checks of specification 4 show: each reversing, each side and each triple, and from the lists of pairs and triples all of them. A
-- triple passes only where the cube rule holds and fails only where it does not. A triple's rule is the cube property of [D2].
-- From the endings of a reversing (model/proofs/Endings.antt) and that a side is one word at most (Residuals.antt).
-- Main names: `triple_says`, `checked_weight`, `checked_rule`, `cube_exactly`.
use mathlib.Core.Path.{◌≡◌, refl, ap, subst₂}
use mathlib.Core.Logic.{◌≢◌}
use mathlib.Core.List.{List, [], ◌∷◌, ◌++◌, Memᴰ}
use mathlib.Core.Bool.{Bool, true, false, cond}
use Prim.Native.Nat.{ℕ, ◌-◌, ◌≤◌, ◌<◌}
use native.Mathlib.Omega.{arith}
use lib.ListN.{length}
use Rattle.model.specs.Word.{Positive, positive, negative}
use Rattle.model.specs.Presentation.{Presentation, Complement, undefined, complement, complete}
use Rattle.model.specs.Reversing.{no_budget, no_room, Ending, finished, open_pair, stopped, reversing, Finishes, Residuals, EndsEmpty}
use Rattle.model.specs.Enumeration.{Two, Three, pairs, triples}
use Rattle.model.specs.Range.{All}
use Rattle.model.specs.Outcome.{Place, pair_of, Outcome, answered, refused, ◌>>=◌}
use Rattle.model.specs.Checks.{balanced, weight_check, Side, CubeRule, both_undefined, both_defined, Residual, residual, missing, halted, and_then, CubeVerdict}
use Rattle.model.specs.Checks.{holds, fails, halts, empties, both_missing, both_there, where_defined, reported, under, side, against, cube_at, cube_check}
use Rattle.model.specs.Checks.{cleared}
use Rattle.theory.specs.Cube.{Obeys, Says, FirstBroken, CubeMeaning}
use Rattle.model.proofs.Impossible.{impossible}
use Rattle.model.proofs.Leftmost.{open_unfinished}
use Rattle.model.proofs.Endings.{Ends, reversing_ends}
use Rattle.model.proofs.Residuals.{same_residual, under_residual, under_missing}
use Rattle.theory.proofs.Letters.{all_have}
use Rattle.theory.proofs.Residuals.{same_side, open_rule}
use Rattle.theory.proofs.Enumerated.{pairs_have, triples_have}

-- WHAT ONE SIDE SHOWS

there : (r : Residual) (f : Positive → Residual) {n : Positive} → and_then r f ≡ residual n → (x : Positive) × (r ≡ residual x) × (f x ≡ residual n)
there (residual x) f e = (x, refl, e)
there missing f e = impossible (cc)
there (halted s) f e = impossible (cc)

lacking : (r : Residual) (f : Positive → Residual) → and_then r f ≡ missing → (r ≡ missing → ⊥) → ((x : Positive) → r ≡ residual x → f x ≡ missing → ⊥) → ⊥
lacking (residual x) f e here later = later x refl e
lacking missing f e here later = here refl
lacking (halted s) f e here later = impossible (cc)

module _ (T : Presentation) (budget room a b c : ℕ) where
  side_there : {l : Positive} → side T budget room a b c ≡ residual l → Side T a b c l
  unfolding side
  side_there {l} h =
      let p =
      there (under T budget room (a ∷ []) (b ∷ []))
      (λ x. and_then (under T budget room (a ∷ []) (c ∷ [])) (λ y. under T budget room x y)) h in
      let q = there (under T budget room (a ∷ []) (c ∷ [])) (λ y. under T budget room p.0 y) p.2 in
      let to_b = under_residual T budget room (a ∷ []) (b ∷ []) p.1 in
      let to_c = under_residual T budget room (a ∷ []) (c ∷ []) q.1 in
      let outer = under_residual T budget room p.0 q.0 q.2 in
      record {
        x = p.0;
        x' = to_b.0;
        y = q.0;
        y' = to_c.0;
        l' = outer.0;
        to_b = to_b.1;
        to_c = to_c.1;
        outer = outer.1;
      }

  side_lacking : side T budget room a b c ≡ missing → (l : Positive) → Side T a b c l → ⊥
  unfolding side
  side_lacking h l s =
      lacking (under T budget room (a ∷ []) (b ∷ []))
      (λ x. and_then (under T budget room (a ∷ []) (c ∷ [])) (λ y. under T budget room x y)) h
      (λ e. under_missing T budget room (a ∷ []) (b ∷ []) e s.x s.x' s.to_b)
      (λ x e rest. lacking (under T budget room (a ∷ []) (c ∷ [])) (λ y. under T budget room x y) rest
      (λ e'. under_missing T budget room (a ∷ []) (c ∷ []) e' s.y s.y' s.to_c)
      (λ y e' last.
      let p = under_residual T budget room (a ∷ []) (b ∷ []) e in
      let q = under_residual T budget room (a ∷ []) (c ∷ []) e' in
      let x≡ : s.x ≡ x = (same_residual T (a ∷ []) (b ∷ []) s.x s.x' x p.0 s.to_b p.1).0 in
      let y≡ : s.y ≡ y = (same_residual T (a ∷ []) (c ∷ []) s.y s.y' y q.0 s.to_c q.1).0 in
      under_missing T budget room x y last l s.l' (subst₂ (λ x y. Residuals T x y l s.l') x≡ y≡ s.outer)))

-- WHAT ONE TRIPLE SHOWS

module _ (T : Presentation) (budget : ℕ) where
  -- two words that were worked out for L and R: the rule is that these two empty
  compared_says : (room a b c : ℕ) (l r : Positive) → Side T a b c l → Side T b a c r
      → Says T (record { a = a; b = b; c = c }) (empties (reversing T budget room (negative l ++ positive r)))
  compared_says room a b c l r left right = go (reversing T budget room (negative l ++ positive r)) (reversing_ends T budget room (negative l ++ positive r))
    where
      agree : CubeRule T a b c → EndsEmpty T (negative l ++ positive r)
      agree (both_undefined none-l none-r) = absurd (none-l l left)
      agree (both_defined l' r' left' right' e) =
          subst₂ (λ l r. EndsEmpty T (negative l ++ positive r)) (same_side T a b c left' left) (same_side T b a c right' right) e

      empty : (n d : Positive) {k : ℕ} → Finishes T (negative l ++ positive r) n d k → CubeRule T a b c → (n ≡ []) × (d ≡ [])
      empty n d {k} f rule = same_residual T l r n d [] [] (k, f) (agree rule)

      go : (end : Ending) → Ends T budget room (negative l ++ positive r) end → Says T (record { a = a; b = b; c = c }) (empties end)
      go (finished [] [] k q) t = both_defined l r left right (k, t.run)
      go (finished [] (x ∷ d) k q) t = λ rule. let e = (empty [] (x ∷ d) t.run rule).1 in impossible (cc)
      go (finished (x ∷ n) d k q) t = λ rule. let e = (empty (x ∷ n) d t.run rule).0 in impossible (cc)
      go (open_pair x y k) t = λ rule. open_unfinished T t.reached.run t.here t.undefined_there [] [] (agree rule).1
      go (stopped s) t = tt

  defined_says : (room a b c : ℕ) (l : Positive) → Side T a b c l → (r : Residual) → side T budget (room - length l) b a c ≡ r
      → Says T (record { a = a; b = b; c = c }) (both_there (λ r. empties (reversing T budget room (negative l ++ positive r))) r)
  defined_says room a b c l left (residual r) e = compared_says room a b c l r left (side_there T budget (room - length l) b a c e)
  defined_says room a b c l left missing e = refuted
    where
      refuted : CubeRule T a b c → ⊥
      refuted (both_undefined none-l none-r) = none-l l left
      refuted (both_defined l' r' left' right' ends) = side_lacking T budget (room - length l) b a c e r' right'
  defined_says room a b c l left (halted t) e = tt

  undefined_says : (room a b c : ℕ) → ((l : Positive) → Side T a b c l → ⊥) → (r : Residual) → side T budget room b a c ≡ r
      → Says T (record { a = a; b = b; c = c }) (both_missing r)
  undefined_says room a b c none_there (residual r) e = refuted
    where
      refuted : CubeRule T a b c → ⊥
      refuted (both_undefined none-l none-r) = none-r r (side_there T budget room b a c e)
      refuted (both_defined l' r' left' right' ends) = none_there l' left'
  undefined_says room a b c none_there missing e = both_undefined none_there (side_lacking T budget room b a c e)
  undefined_says room a b c none_there (halted t) e = tt

  against_says : (room a b c : ℕ) (l : Residual) → side T budget room a b c ≡ l → Says T (record { a = a; b = b; c = c }) (against T budget room a b c l)
  unfolding against
  against_says room a b c (residual l) e =
      defined_says room a b c l (side_there T budget room a b c e) (side T budget (room - length l) b a c) refl
  against_says room a b c missing e =
      undefined_says room a b c (side_lacking T budget room a b c e) (side T budget room b a c) refl
  against_says room a b c (halted s) e = tt

  -- the verdict on a triple is the rule's, both ways
  pub triple_says : (room : ℕ) (t : Three) → Says T t (cube_at T budget room t)
  unfolding cube_at
  triple_says room t = go (complete T t.a t.b) refl
    where
      go : (m : Complement) → complete T t.a t.b ≡ m
          → Says T t (where_defined m (against T budget room t.a t.b t.c (side T budget room t.a t.b t.c)))
      go undefined e = open_rule T t.a t.b t.c e
      go (complement x y) e = against_says room t.a t.b t.c (side T budget room t.a t.b t.c) refl

-- WHAT THE WHOLE CHECK SHOWS

module _ (T : Presentation) (budget room : ℕ) where
  cube_passed : (ts : List Three) → cube_check T budget room ts ≡ answered tt → All (Obeys T) ts
  cube_passed [] h = tt
  cube_passed (t ∷ ts) h = go (cube_at T budget room t) (triple_says T budget room t) (cube_passed ts) h
    where
      go : (v : CubeVerdict) → Says T t v → (cube_check T budget room ts ≡ answered tt → All (Obeys T) ts)
          → reported t v (cube_check T budget room ts) ≡ answered tt → All (Obeys T) (t ∷ ts)
      go holds s rest e = (s, rest e)
      go fails s rest e = impossible (cc)
      go (halts x) s rest e = impossible (cc)

  cube_broken : (ts : List Three) (place : Place) → cube_check T budget room ts ≡ refused 9 place → FirstBroken T ts place
  cube_broken [] place h = impossible (cc)
  cube_broken (t ∷ ts) place h = go (cube_at T budget room t) (triple_says T budget room t) (cube_broken ts place) h
    where
      go : (v : CubeVerdict) → Says T t v → (cube_check T budget room ts ≡ refused 9 place → FirstBroken T ts place)
          → reported t v (cube_check T budget room ts) ≡ refused 9 place → FirstBroken T (t ∷ ts) place
      go holds s rest e =
          let f = rest e in
          record {
            before = t ∷ f.before;
            triple = f.triple;
            after = f.after;
            place = ap (λ l. t ∷ l) f.place;
            named = f.named;
            obeyed = (s, f.obeyed);
            broken = f.broken;
          }
      go fails s rest e = record { before = []; triple = t; after = ts; place = refl; named = cc; obeyed = tt; broken = s }
      go (halts no_budget) s rest e = let z : ◌≡◌ {A = ℕ} 11 9 = cc in absurd (omega arith)
      go (halts no_room) s rest e = let z : ◌≡◌ {A = ℕ} 12 9 = cc in absurd (omega arith)

passes : (p : Two) (t : Bool) (rest : Outcome (Unit {0})) → cond t rest (refused 8 (pair_of p.a p.b)) ≡ answered tt
    → (t ≡ true) × (rest ≡ answered tt)
passes p true rest h = (refl, h)
passes p false rest h = impossible (cc)

pub both_pass : (o p : Outcome (Unit {0})) → (o >>= λ ok. p) ≡ answered tt → (o ≡ answered tt) × (p ≡ answered tt)
both_pass (answered x) p h = (refl, h)
both_pass (refused n ps) p h = impossible (cc)

-- an outcome that goes on to an answer was one
pub went_on : {A B : Type 0} (o : Outcome A) (f : A → Outcome B) {y : B} → (o >>= f) ≡ answered y → (x : A) × (o ≡ answered x) × (f x ≡ answered y)
went_on (answered x) f e = (x, refl, e)
went_on (refused n place) f e = impossible (cc)

weight_each : (T : Presentation) {p : Two} {ps : List Two} → weight_check T ps ≡ answered tt → Memᴰ p ps
    → balanced T p.a p.b (complete T p.a p.b) ≡ true
weight_each T {p} h (Memᴰ.head {x} {xs} e) = rw e (passes x (balanced T x.a x.b (complete T x.a x.b)) (weight_check T xs) h).0
weight_each T {p} h (Memᴰ.tail {x} {xs} m) = weight_each T (passes x (balanced T x.a x.b (complete T x.a x.b)) (weight_check T xs) h).1 m

-- the weight check has no other refusal than 8
pub weight_only : (T : Presentation) (ps : List Two) (n : ℕ) (place : Place) → weight_check T ps ≡ refused n place → n ≡ 8
weight_only T [] n place h = impossible (cc)
weight_only T (p ∷ ps) n place h = go (balanced T p.a p.b (complete T p.a p.b)) (weight_only T ps n place) h
  where
    go : (t : Bool) → (weight_check T ps ≡ refused n place → n ≡ 8) → cond t (weight_check T ps) (refused 8 (pair_of p.a p.b)) ≡ refused n place → n ≡ 8
    go true rest e = rest e
    go false rest e = cc

-- the weight check, of letters in order
pub checked_weight : (T : Presentation) → weight_check T (pairs T.size) ≡ answered tt → {a b : ℕ} → 1 ≤ a → a < b → b ≤ T.size
    → balanced T a b (complete T a b) ≡ true
checked_weight T h {a} {b} low ordered high = weight_each T h (pairs_have T.size a b low ordered high)

module _ (T : Presentation) (budget room : ℕ) (clear : cleared T budget room ≡ answered tt) where
  both : (weight_check T (pairs T.size) ≡ answered tt) × (cube_check T budget room (triples T.size) ≡ answered tt)
  unfolding cleared
  both = both_pass (weight_check T (pairs T.size)) (cube_check T budget room (triples T.size)) clear

  pub clear_weights : weight_check T (pairs T.size) ≡ answered tt
  clear_weights = both.0

  checked_triples : All (Obeys T) (triples T.size)
  checked_triples = cube_passed T budget room (triples T.size) both.1

  -- the cube check, of a triple whose first two letters are in order
  pub checked_rule : {a b c : ℕ} → 1 ≤ a → a < b → b ≤ T.size → 1 ≤ c → c ≤ T.size → a ≢ c → b ≢ c → CubeRule T a b c
  checked_rule {a} {b} {c} low h high low-c high-c p q =
      all_have (Obeys T) checked_triples (triples_have T.size a b c low h high low-c high-c p q)

module _ (T : Presentation) (budget room : ℕ) where
  -- where clearing does not refuse with 8, the weight check was passed
  pub unless_8 : ((place : Place) → cleared T budget room ≡ refused 8 place → ⊥) → weight_check T (pairs T.size) ≡ answered tt
  unfolding cleared
  unless_8 other = go (weight_check T (pairs T.size)) refl other
    where
      go : (o : Outcome (Unit {0})) → weight_check T (pairs T.size) ≡ o
          → ((place : Place) → (o >>= λ ok. cube_check T budget room (triples T.size)) ≡ refused 8 place → ⊥)
          → weight_check T (pairs T.size) ≡ answered tt
      go (answered x) p h = p
      go (refused n ps) p h = absurd (h ps (ap (λ i. refused i ps) (weight_only T (pairs T.size) n ps p)))

  checked_broken : (place : Place) → cleared T budget room ≡ refused 9 place → FirstBroken T (triples T.size) place
  unfolding cleared
  checked_broken place h = go (weight_check T (pairs T.size)) refl h
    where
      go : (o : Outcome (Unit {0})) → weight_check T (pairs T.size) ≡ o
          → (o >>= λ ok. cube_check T budget room (triples T.size)) ≡ refused 9 place → FirstBroken T (triples T.size) place
      go (answered x) p e = cube_broken T budget room (triples T.size) place e
      go (refused n ps) p e =
          let eight = weight_only T (pairs T.size) n ps p in
          let nine : n ≡ 9 = cc in
          absurd (omega arith)

  -- a table passes only where all triples obey the rule, and 9 comes only with the first that breaks it
  pub cube_exactly : CubeMeaning T (cleared T budget room)
  cube_exactly = record { passed = checked_triples T budget room; broken = checked_broken; each_triple = triple_says T }
