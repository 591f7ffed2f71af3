-- What clearing a table's mirror says of the mirror (specification 6.13). Its relations are those of the table read backward, so that it passes the weight
-- check where the table does.
-- From `joined_backward`, and of the mirror what the checks show of a table (`cube_exactly`). Main names: `mirror_weights`, `mirror_cube`, `mirror_meaning`.
use mathlib.Core.Path.{◌≡◌, refl, sym, ap, subst, ◌∙◌}
use mathlib.Core.List.{List, [], ◌∷◌, ◌++◌, append-nil, reverse, reverse-cons, reverse-reverse}
use mathlib.Core.Bool.{Bool, true, false, cond}
use Prim.Native.Nat.{ℕ}
use native.Mathlib.Omega.{arith}
use borrow.Author.Tests.{eq-eqb}
use Rattle.model.specs.Word.{Positive}
use Rattle.model.specs.Presentation.{Presentation, Complement, undefined, complement, complete, weight_of, total, weigh}
use Rattle.model.specs.Equivalence.{Joined}
use Rattle.model.specs.Reversing.{no_budget, no_room}
use Rattle.model.specs.Enumeration.{Two, Three, pairs, triples}
use Rattle.model.specs.Outcome.{Place, pair_of, triple_of, mirror_triple_of, Outcome, answered, refused, ◌>>=◌}
use Rattle.model.specs.Range.{TableInRange}
use Rattle.model.specs.Checks.{balanced, weight_check, CubeVerdict, holds, fails, halts, reported, cube_at, cube_check, cleared}
use Rattle.model.specs.Mirror.{mirror, offending, mirrored, mirror_check}
use Rattle.model.specs.Services.{of_mirror, mirror_cleared}
use Rattle.model.proofs.Impossible.{impossible}
use Rattle.model.proofs.Equiv.{total_append, Homogeneous, one}
use Rattle.model.proofs.Joining.{equiv_joined, joined_weight}
use Rattle.theory.specs.Mirrors.{MirrorMeaning}
use Rattle.theory.proofs.Backward.{joined_backward}
use Rattle.theory.proofs.Checked.{both_pass, weight_only, cube_exactly}
use Rattle.theory.proofs.Clearing.{checked_homogeneous}

-- WEIGHTS

total_reverse : (weight : ℕ → ℕ) (u : Positive) → total weight (reverse u) ≡ total weight u
total_reverse weight [] = refl
total_reverse weight (a ∷ u) =
    let known = total_reverse weight u in
    ap (total weight) (reverse-cons a u) ∙ (total_append weight (reverse u) (a ∷ []) ∙ omega (arith, known))

-- a table whose relations weigh the same on both sides passes the weight check
balanced_check : (T : Presentation) → Homogeneous (weight_of T) (complete T) → (ps : List Two) → weight_check T ps ≡ answered tt
balanced_check T h [] = refl
balanced_check T h (p ∷ ps) =
    ap (λ t. cond t (weight_check T ps) (refused 8 (pair_of p.a p.b))) (go (complete T p.a p.b) refl) ∙ balanced_check T h ps
  where
    go : (c : Complement) → complete T p.a p.b ≡ c → balanced T p.a p.b c ≡ true
    go undefined e = refl
    go (complement x y) e = eq-eqb (weigh T (p.a ∷ x)) (weigh T (p.b ∷ y)) (h p.a p.b x y e)

module _ (T : Presentation) (range : TableInRange T) (has : mirror_check T ≡ answered tt) (even : weight_check T (pairs T.size) ≡ answered tt) where
  mirror_homogeneous : Homogeneous (weight_of T) (complete (mirror T))
  mirror_homogeneous a b x y e =
      let swap = one (record {
        before = [];
        after = [];
        a = a;
        b = b;
        x = x;
        y = y;
        rule = e;
        left = sym (append-nil (a ∷ x));
        right =
            sym (append-nil (b ∷ y));
      }) in
      let joined = equiv_joined (mirror T) swap in
      let turned = (joined_backward T range has (reverse (a ∷ x)) (reverse (b ∷ y))).1
      (subst (λ u. Joined (mirror T) u (reverse (reverse (b ∷ y)))) (sym (reverse-reverse (a ∷ x)))
      (subst (λ v. Joined (mirror T) (a ∷ x) v) (sym (reverse-reverse (b ∷ y))) joined)) in
      sym (total_reverse (weight_of T) (a ∷ x))
      ∙ (joined_weight T (weight_of T) (checked_homogeneous T even) (reverse (a ∷ x)) (reverse (b ∷ y)) turned ∙ total_reverse (weight_of T) (b ∷ y))

  pub mirror_weights : weight_check (mirror T) (pairs T.size) ≡ answered tt
  mirror_weights = balanced_check (mirror T) mirror_homogeneous (pairs T.size)

  -- so clearing the mirror is its cube check
  pub mirror_cube : (budget room : ℕ) → cleared (mirror T) budget room ≡ cube_check (mirror T) budget room (triples T.size)
  unfolding cleared
  mirror_cube budget room = ap (λ o. o >>= λ ok. cube_check (mirror T) budget room (triples T.size)) mirror_weights

-- REFUSALS

-- that a table has no mirror is told by 16 alone
mirror_only : (T : Presentation) (earlier ps : List Two) (n : ℕ) (place : Place) → mirrored T earlier ps ≡ refused n place → n ≡ 16
mirror_only T earlier [] n place h = impossible (cc)
mirror_only T earlier (p ∷ ps) n place h =
    go (offending T earlier p.a p.b (complete T p.a p.b)) (mirror_only T (earlier ++ (p ∷ [])) ps n place) h
  where
    go : (t : Bool) → (mirrored T (earlier ++ (p ∷ [])) ps ≡ refused n place → n ≡ 16)
        → cond t (refused 16 (pair_of p.a p.b)) (mirrored T (earlier ++ (p ∷ [])) ps) ≡ refused n place → n ≡ 16
    go true rest e = cc
    go false rest e = rest e

of_mirror_passed : (o : Outcome (Unit {0})) → of_mirror o ≡ answered tt → o ≡ answered tt
of_mirror_passed (answered x) e = refl
of_mirror_passed (refused n place) e = impossible (cc)

module _ (M : Presentation) (budget room a b c : ℕ) where
  -- 17 is what 9 comes to
  of_mirror_broken : (ts : List Three) → of_mirror (cube_check M budget room ts) ≡ refused 17 (mirror_triple_of a b c)
      → cube_check M budget room ts ≡ refused 9 (triple_of a b c)
  of_mirror_broken [] h = impossible (cc)
  of_mirror_broken (t ∷ ts) h = go (cube_at M budget room t) (of_mirror_broken ts) h
    where
      go : (v : CubeVerdict) → (of_mirror (cube_check M budget room ts) ≡ refused 17 (mirror_triple_of a b c)
          → cube_check M budget room ts ≡ refused 9 (triple_of a b c))
          → of_mirror (reported t v (cube_check M budget room ts)) ≡ refused 17 (mirror_triple_of a b c) → reported t v (cube_check M budget room ts)
          ≡ refused 9
          (triple_of a b c)
      go holds rest e = rest e
      go fails rest e =
          let same : mirror_triple_of t.a t.b t.c ≡ mirror_triple_of a b c = cc in
          let first : t.a ≡ a = cc in
          let second : t.b ≡ b = cc in
          let third : t.c ≡ c = cc in
          cc
      go (halts no_budget) rest e = let z : ◌≡◌ {A = ℕ} 11 17 = cc in absurd (omega arith)
      go (halts no_room) rest e = let z : ◌≡◌ {A = ℕ} 12 17 = cc in absurd (omega arith)

-- THE MEANING

module _ (T : Presentation) (range : TableInRange T) (budget room : ℕ) where
  abbrev cube : Outcome (Unit {0})
  cube = cube_check (mirror T) budget room (triples T.size)

  abbrev rest : Outcome (Unit {0})
  rest = weight_check T (pairs T.size) >>= λ ok. of_mirror cube

  passed : mirror_cleared T budget room ≡ answered tt → cleared (mirror T) budget room ≡ answered tt
  unfolding mirror_cleared
  passed h =
      let first = both_pass (mirror_check T) rest h in
      let second = both_pass (weight_check T (pairs T.size)) (of_mirror cube) first.1 in
      mirror_cube T range first.0 second.0 budget room ∙ of_mirror_passed cube second.1

  broken : (a b c : ℕ) → mirror_cleared T budget room ≡ refused 17 (mirror_triple_of a b c) → cleared (mirror T) budget room ≡ refused 9 (triple_of a b c)
  unfolding mirror_cleared mirror_check
  broken a b c h = go (mirror_check T) (weight_check T (pairs T.size)) refl refl h
    where
      go : (m w : Outcome (Unit {0})) → mirror_check T ≡ m → weight_check T (pairs T.size) ≡ w
          → (m >>= λ ok. w >>= λ ok. of_mirror cube) ≡ refused 17 (mirror_triple_of a b c) → cleared (mirror T) budget room ≡ refused 9 (triple_of a b c)
      go (answered x) (answered y) p q e = mirror_cube T range p q budget room ∙ of_mirror_broken (mirror T) budget room a b c (triples T.size) e
      go (answered x) (refused n place) p q e =
          let eight = weight_only T (pairs T.size) n place q in
          let z : n ≡ 17 = cc in
          absurd (omega arith)
      go (refused n place) w p q e =
          let sixteen = mirror_only T [] (pairs T.size) n place p in
          let z : n ≡ 17 = cc in
          absurd (omega arith)

  pub mirror_meaning : MirrorMeaning T budget room (mirror_cleared T budget room)
  mirror_meaning =
      record {
        passed = passed;
        joined_backward = joined_backward T;
        obeyed = λ h. (cube_exactly (mirror T) budget room).passed (passed h);
        broken = λ a b c h. (cube_exactly (mirror T) budget room).broken (triple_of a b c) (broken a b c h);
      }
