-- The diagram of positive u and v is the leftmost reversing of u's inverse, then v: one is there exactly where the other is, with the same
-- numerator, denominator and steps. It is [D1] Lemma 1.3 along the leftmost strategy: reduce a first part, then the rest.
-- From the laws of leftmost runs (model/proofs/Leftmost.antt). Main names: `diagram_exactly`, its halves `finishes` and `draw`, `run_diagram`.
use mathlib.Core.Path.{◌≡◌, refl, sym, ap, ap₂, ◌∙◌}
use mathlib.Core.Logic.{◌↔◌}
use mathlib.Core.List.{[], ◌∷◌, ◌++◌, append_assoc, append-nil}
use Prim.Native.Nat.{ℕ, zero, suc, ◌+◌, ◌≤◌, ◌<◌}
use native.Mathlib.Omega.{arith}
use Rattle.model.specs.Word.{forward, back, Word, Positive, positive, negative}
use Rattle.model.specs.Presentation.{Presentation, complement, complete}
use Rattle.model.specs.Reversing.{nowhere, at, site, replaced, Leftmost, Finishes}
use Rattle.model.proofs.Words.{negative_cons, positive_append, negative_append, fraction_injective, fraction_nowhere, fraction_at}
use Rattle.model.proofs.Leftmost.{Counted, counted, recast_run, step_then, then, first_step, different_sites, fraction_stuck, same_end}
use Rattle.theory.proofs.Grid.{Grid, left_nil, right_nil, cell, recast, cells}

-- THE WORD AROUND A DIAGRAM: before it a positive word, after it any word

-- where it begins
abbrev sides : Positive → Positive → Positive → Word → Word
sides p u v s = positive p ++ (negative u ++ (positive v ++ s))

-- and where it ends
abbrev ends : Positive → Positive → Positive → Word → Word
ends p n d s = positive p ++ (positive n ++ (negative d ++ s))

corner : (p u v : Positive) (a b : ℕ) (s : Word) → site (sides p (a ∷ u) (b ∷ v) s) ≡ at (positive p ++ negative u) a b (positive v ++ s)
corner p u v a b s =
    ap (λ w. site (positive p ++ (w ++ (forward b ∷ (positive v ++ s))))) (negative_cons a u)
    ∙ (ap (λ w. site (positive p ++ w)) (append_assoc (negative u) (back a ∷ []) (forward b ∷ (positive v ++ s)))
    ∙ fraction_at p u a b (positive v ++ s))

stepped : (p u v x y : Positive) (s : Word) → replaced (positive p ++ negative u) x y (positive v ++ s) ≡ sides p u x (negative y ++ (positive v ++ s))
stepped p u v x y s = append_assoc (positive p) (negative u) _

regroup : (p n d y v : Positive) (s : Word) → ends p n d (negative y ++ (positive v ++ s)) ≡ sides (p ++ n) (y ++ d) v s
regroup p n d y v s =
    sym (append_assoc (positive p) (positive n) _)
    ∙ ap₂ (λ l r. l ++ r) (sym (positive_append p n))
    (sym (append_assoc (negative d) (negative y) (positive v ++ s)) ∙ ap (λ w. w ++ (positive v ++ s)) (sym (negative_append y d)))

gather : (p m n d : Positive) (s : Word) → ends (p ++ m) n d s ≡ ends p (m ++ n) d s
gather p m n d s =
    ap (λ w. w ++ (positive n ++ (negative d ++ s))) (positive_append p m)
    ∙ (append_assoc (positive p) (positive m) _
    ∙ ap (λ w. positive p ++ w) (sym (append_assoc (positive m) (positive n) _) ∙ ap (λ w. w ++ (negative d ++ s)) (sym (positive_append m n))))

-- FROM THE DIAGRAM TO THE RUN

module _ {T : Presentation} where
  run_around : {u v n d : Positive} {k : ℕ} (g : Grid (complete T) u v n d k) (p : Positive) (s : Word)
      → Counted T (sides p u v s) (ends p n d s) k (cells g)
  run_around left_nil p s = counted Leftmost.stay
  run_around right_nil p s = counted Leftmost.stay
  run_around (cell {a} {b} {u} {v} {x} {y} {n₁} {d₁} {n₂} {d} {n} e g₁ g₂ q t) p s =
      let first = run_around g₁ p (negative y ++ (positive v ++ s)) in
      let second = run_around g₂ (p ++ n₁) s in
      let both = then first (recast_run (sym (regroup p n₁ d₁ y v s)) refl refl refl second) in
      let whole = step_then (corner p u v a b s) e (recast_run (sym (stepped p u v x y s)) refl refl refl both) in
      recast_run refl (gather p n₁ n₂ d s ∙ ap (λ m. ends p m d s) (sym q)) (sym t) refl whole

-- FROM THE RUN TO THE DIAGRAM

-- a run from a word around u and v as a diagram of u and v and what comes after it
record Drawn (T : Presentation) (u v p : Positive) (s w' : Word) (k : ℕ) : Type 0 where
  n : Positive
  d : Positive
  k₁ : ℕ
  k₂ : ℕ
  r₂ : ℕ
  grid : Grid (complete T) u v n d k₁
  rest : Counted T (ends p n d s) w' k₂ r₂
  steps : k ≡ k₁ + k₂

module _ (T : Presentation) (w' : Word) (over : site w' ≡ nowhere) where
  -- runs of fewer than m steps are drawn
  abbrev Draws : ℕ → Type 0
  Draws m = (u v p : Positive) (s : Word) (k r : ℕ) → k < m → Counted T (sides p u v s) w' k r → Drawn T u v p s w' k

  -- the cell of the first step, a diagram below it, and one beside both
  module _ (a b : ℕ) (u v p x y : Positive) (s : Word) (k j : ℕ) (rule : complete T a b ≡ complement x y) (steps : k ≡ suc j)
      (first : Drawn T u x p (negative y ++ (positive v ++ s)) w' j) where
    with_second : Drawn T (y ++ first.d) v (p ++ first.n) s w' first.k₂ → Drawn T (a ∷ u) (b ∷ v) p s w' k
    with_second second =
        record {
          n = first.n ++ second.n;
          d = second.d;
          k₁ = suc (first.k₁ + second.k₁);
          k₂ = second.k₂;
          r₂ = second.r₂;
          grid = cell rule first.grid second.grid refl refl;
          rest = recast_run (gather p first.n second.n second.d s) refl refl refl second.rest;
          steps = omega (arith, steps, first.steps, second.steps);
        }

    with_first : (m : ℕ) → Draws m → k ≤ m → Drawn T (a ∷ u) (b ∷ v) p s w' k
    with_first m fewer h =
        with_second
        (fewer (y ++ first.d) v (p ++ first.n) s first.k₂ first.r₂ (omega (arith, steps, first.steps))
        (recast_run (regroup p first.n first.d y v s) refl refl refl first.rest))

  draws_more : (m : ℕ) → Draws m → (u v p : Positive) (s : Word) (k r : ℕ) → k ≤ m → Counted T (sides p u v s) w' k r → Drawn T u v p s w' k
  draws_more m fewer [] v p s k r h c = record { n = v; d = []; k₁ = 0; k₂ = k; r₂ = r; grid = left_nil; rest = c; steps = omega arith }
  draws_more m fewer (a ∷ u) [] p s k r h c =
      record { n = []; d = a ∷ u; k₁ = 0; k₂ = k; r₂ = r; grid = right_nil; rest = c; steps = omega arith }
  draws_more m fewer (a ∷ u) (b ∷ v) p s k r h c =
      let f = first_step c (different_sites (corner p u v a b s) over) (corner p u v a b s) in
      with_first a b u v p f.x f.y s k f.k' f.rule f.steps
      (fewer u f.x p (negative f.y ++ (positive v ++ s)) f.k' f.r' (omega (arith, f.steps))
      (recast_run (stepped p u v f.x f.y s) refl refl refl f.rest))
      m
      fewer
      h

  draws : (m : ℕ) → Draws m
  draws zero u v p s k r h c = absurd (omega arith)
  draws (suc m) u v p s k r h c = draws_more m (draws m) u v p s k r (omega arith) c

-- BOTH WAYS

-- a diagram, with the cells on two different letters
pub record Diagram (T : Presentation) (u v n d : Positive) (k r : ℕ) : Type 0 where
  pub grid : Grid (complete T) u v n d k
  pub differ : cells grid ≡ r

module _ {T : Presentation} where
  diagram_run : {u v n d : Positive} {k : ℕ} (g : Grid (complete T) u v n d k)
      → Counted T (negative u ++ positive v) (positive n ++ negative d) k (cells g)
  diagram_run {u} {v} {n} {d} g =
      recast_run (ap (λ w. negative u ++ w) (append-nil (positive v))) (ap (λ w. positive n ++ w) (append-nil (negative d))) refl refl (run_around g [] [])

  pub finishes : {u v n d : Positive} {k : ℕ} → Grid (complete T) u v n d k → Finishes T (negative u ++ positive v) n d k
  finishes g = (diagram_run g).run

  drawn : (u v n d : Positive) {k r : ℕ} → Counted T (negative u ++ positive v) (positive n ++ negative d) k r → Grid (complete T) u v n d k
  drawn u v n d {k} {r} c =
      let t =
      draws T (positive n ++ negative d) (fraction_nowhere n d) (suc k) u v [] [] k r (omega arith)
      (recast_run (ap (λ w. negative u ++ w) (sym (append-nil (positive v)))) refl refl refl c) in
      let whole =
      recast_run (ap (λ w. positive t.n ++ w) (append-nil (negative t.d))) refl refl refl t.rest in
      let end = same_end (counted Leftmost.stay) (fraction_stuck T t.n t.d) whole (fraction_stuck T n d) in
      let same = fraction_injective t.n t.d n d end.0 in
      recast refl refl same.0 same.1 (omega (arith, t.steps, end.1)) t.grid

  pub run_diagram : (u v n d : Positive) {k r : ℕ} → Counted T (negative u ++ positive v) (positive n ++ negative d) k r → Diagram T u v n d k r
  run_diagram u v n d c =
      let g = drawn u v n d c in
      record { grid = g; differ = (same_end (diagram_run g) (fraction_stuck T n d) c (fraction_stuck T n d)).2 }

  pub draw : (u v n d : Positive) {k : ℕ} → Finishes T (negative u ++ positive v) n d k → Grid (complete T) u v n d k
  draw u v n d l = drawn u v n d (counted l)

  pub diagram_exactly : (u v n d : Positive) (k : ℕ) → Grid (complete T) u v n d k ↔ Finishes T (negative u ++ positive v) n d k
  diagram_exactly u v n d k = (finishes, draw u v n d)
