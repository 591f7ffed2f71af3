-- Specification 4.6: what the outcome of the cube check says of the cube rule.
-- The promise of clear cites it. Proved in proofs/Checked.antt as `triple_says` and `cube_exactly`. A triple's rule is the cube property of [D2].
-- Main names: `Obeys`, `Says`, `FirstBroken`, `CubeMeaning`.
use Rattle.std.specs.Prelude.{List, ◌∷◌, ◌++◌, ◌≡◌, ℕ}
use Rattle.model.specs.Presentation.{Presentation}
use Rattle.model.specs.Enumeration.{Three, triples}
use Rattle.model.specs.Range.{All}
use Rattle.model.specs.Outcome.{Place, triple_of, Outcome, answered, refused}
use Rattle.model.specs.Checks.{CubeRule, CubeVerdict, holds, fails, halts, cube_at}

-- the rule at a triple
abbrev pub Obeys : Presentation → Three → Type 0
Obeys T t = CubeRule T t.a t.b t.c

-- a verdict on a triple: it passes only where the rule holds and fails only where it does not; a stop leaves it open
abbrev pub Says : Presentation → Three → CubeVerdict → Type 0
Says T t holds = Obeys T t
Says T t fails = Obeys T t → ⊥
Says T t (halts s) = Unit {0}

-- the first of the triples at which the rule does not hold, by the name that 9 gives it
pub record FirstBroken (T : Presentation) (ts : List Three) (name : Place) : Type 0 where
  pub before : List Three
  pub triple : Three
  pub after : List Three
  pub place : ts ≡ before ++ (triple ∷ after)
  pub named : name ≡ triple_of triple.a triple.b triple.c
  pub obeyed : All (Obeys T) before
  pub broken : Obeys T triple → ⊥

-- clearing a table: an answer only where every triple obeys the rule, and 9 only with the first that breaks it
pub record CubeMeaning (T : Presentation) (outcome : Outcome (Unit {0})) : Type 0 where
  pub passed : outcome ≡ answered tt → All (Obeys T) (triples T.size)
  pub broken : (name : Place) → outcome ≡ refused 9 name → FirstBroken T (triples T.size) name
  -- for the verdict on each triple, at every allowance and workspace, says so of the rule there
  pub each_triple : (budget room : ℕ) (t : Three) → Says T t (cube_at T budget room t)
