-- Residuals u\v and the sides (a\b)\(a\c) of the cube rule: they are determined by their letters, and told by diagrams.
-- A side is there exactly where both inner residuals are and their diagram is ([D1], coherence; [D2], the cube property).
-- From diagrams and what they determine (Grid.antt, Diagram.antt). Main names: `side_grid`, `grid_side`, `same_side`, `rule_turned`, `open_rule`.
use mathlib.Core.Path.{◌≡◌, refl, ap, ◌∙◌}
use mathlib.Core.List.{[]}
use Prim.Native.Nat.{ℕ}
use Rattle.model.specs.Word.{Positive}
use Rattle.model.specs.Presentation.{Presentation, undefined, complement, swapped, complete}
use Rattle.model.specs.Checks.{Side, CubeRule, both_undefined, both_defined}
use Rattle.model.proofs.Impossible.{impossible}
use Rattle.model.proofs.Complete.{complete_turn}
use Rattle.model.proofs.Residuals.{letters_residual, residual_letters}
use Rattle.theory.proofs.Grid.{Grid, recast, same_grid, turned}
use Rattle.theory.proofs.Diagram.{finishes, draw}

-- a side by its diagram
pub record SideGrid (T : Presentation) (a b c : ℕ) (l : Positive) : Type 0 where
  pub ab : Positive
  pub ba : Positive
  pub ac : Positive
  pub ca : Positive
  pub d : Positive
  pub k : ℕ
  pub to_b : complete T a b ≡ complement ab ba
  pub to_c : complete T a c ≡ complement ac ca
  pub grid : Grid (complete T) ab ac l d k

module _ (T : Presentation) (a b c : ℕ) where
  pub side_grid : {l : Positive} → Side T a b c l → SideGrid T a b c l
  side_grid {l} s =
      record {
        ab = s.x;
        ba = s.x';
        ac = s.y;
        ca = s.y';
        d = s.l';
        k = s.outer.0;
        to_b = residual_letters T a b s.to_b;
        to_c = residual_letters T a c s.to_c;
        grid = draw s.x s.y l s.l' s.outer.1;
      }

  pub grid_side : {ab ba ac ca l d : Positive} {k : ℕ} → complete T a b ≡ complement ab ba → complete T a c ≡ complement ac ca
      → Grid (complete T) ab ac l d k → Side T a b c l
  grid_side {ab} {ba} {ac} {ca} {l} {d} {k} p q g =
      record {
        x = ab;
        x' = ba;
        y = ac;
        y' = ca;
        l' = d;
        to_b = letters_residual T p;
        to_c = letters_residual T q;
        outer = (k, finishes g);
      }

  pub same_side : {l l' : Positive} → Side T a b c l → Side T a b c l' → l ≡ l'
  same_side s t =
      let p = side_grid s in
      let q = side_grid t in
      let ab≡ : q.ab ≡ p.ab = cc (p.to_b, q.to_b) in
      let ac≡ : q.ac ≡ p.ac = cc (p.to_c, q.to_c) in
      (same_grid p.grid (recast ab≡ ac≡ refl refl refl q.grid)).0

  -- none where a, b is undefined
  pub no_side : complete T a b ≡ undefined → (l : Positive) → Side T a b c l → ⊥
  no_side h l s = let p = (side_grid s).to_b in impossible (cc)

  -- the rule does not depend on the order of the first two letters
  pub rule_turned : CubeRule T b a c → CubeRule T a b c
  rule_turned (both_undefined p q) = both_undefined q p
  rule_turned (both_defined l r p q e) =
      both_defined r l q p (e.0, finishes (turned (complete_turn T) (draw l r [] [] e.1)))

-- and holds where they are undefined
pub open_rule : (T : Presentation) (a b c : ℕ) → complete T a b ≡ undefined → CubeRule T a b c
open_rule T a b c h = both_undefined (no_side T a b c h) (no_side T b a c (complete_turn T a b ∙ ap swapped h))
