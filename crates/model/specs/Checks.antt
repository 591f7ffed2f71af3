-- Specification 4.2 to 4.6: the weight check, the cube rule and the cube check.
use Rattle.std.specs.Prelude.{List, [], ◌∷◌, ◌++◌, Bool, true, cond, ℕ, ◌-◌, eqb, length}
use Rattle.model.specs.Word.{Positive, positive, negative}
use Rattle.model.specs.Presentation.{Presentation, Complement, undefined, complement, complete, weigh}
use Rattle.model.specs.Reversing.{Stop, no_budget, no_room, Ending, finished, open_pair, stopped, reversing, Residuals, EndsEmpty}
use Rattle.model.specs.Enumeration.{Two, Three, pairs, triples}
use Rattle.model.specs.Outcome.{pair_of, triple_of, Outcome, answered, refused, ◌>>=◌}

-- 4.2: the two sides of a pair's relation weigh the same, unless it is open: a followed by C(a,b), and b followed by C(b,a)
abbrev pub balanced : Presentation → ℕ → ℕ → Complement → Bool
balanced T a b undefined = true
balanced T a b (complement x y) = eqb (weigh T (a ∷ x)) (weigh T (b ∷ y))

-- 4.2: refusal 8 names the first pair that fails
abbrev pub weight_check : Presentation → List Two → Outcome (Unit {0})
weight_check T [] = answered tt
weight_check T (p ∷ ps) = cond (balanced T p.a p.b (complete T p.a p.b)) (weight_check T ps) (refused 8 (pair_of p.a p.b))

-- 4.3: (a\b)\(a\c) is l, with no limit on steps and lengths
pub record Side (T : Presentation) (a b c : ℕ) (l : Positive) : Type 0 where
  pub x : Positive
  pub x' : Positive
  pub y : Positive
  pub y' : Positive
  pub l' : Positive
  pub to_b : Residuals T (a ∷ []) (b ∷ []) x x'
  pub to_c : Residuals T (a ∷ []) (c ∷ []) y y'
  pub outer : Residuals T x y l l'

-- 4.3: neither L = (a\b)\(a\c) nor R = (b\a)\(b\c) is defined; or each is, and the undoing of L, followed by R, ends empty
pub data CubeRule (T : Presentation) (a b c : ℕ) : Type 0 where
  both_undefined : ((l : Positive) → Side T a b c l → ⊥) → ((r : Positive) → Side T b a c r → ⊥) → CubeRule T a b c
  both_defined : (l r : Positive) → Side T a b c l → Side T b a c r → EndsEmpty T (negative l ++ positive r) → CubeRule T a b c

-- 3.5: u\v as it is worked out: a word, or that it meets an undefined pair, or that its reversing is stopped
pub data Residual : Type 0 where
  residual : Positive → Residual
  missing : Residual
  halted : Stop → Residual

abbrev pub of_ending : Ending → Residual
of_ending (finished n d k r) = residual n
of_ending (open_pair a b k) = missing
of_ending (stopped s) = halted s

-- 4.4: work that goes on from a word
abbrev pub and_then : Residual → (Positive → Residual) → Residual
and_then (residual x) f = f x
and_then missing f = missing
and_then (halted s) f = halted s

-- 4.6: what comes of one triple
pub data CubeVerdict : Type 0 where
  holds : CubeVerdict
  fails : CubeVerdict
  halts : Stop → CubeVerdict

-- 4.6: whether a reversing ends empty; one that meets an undefined pair does not
abbrev pub empties : Ending → CubeVerdict
empties (finished [] [] k r) = holds
empties (finished [] (x ∷ d) k r) = fails
empties (finished (x ∷ n) d k r) = fails
empties (open_pair a b k) = fails
empties (stopped s) = halts s

-- 4.6, L is undefined: R has to be
abbrev pub both_missing : Residual → CubeVerdict
both_missing (residual r) = fails
both_missing missing = holds
both_missing (halted s) = halts s

-- 4.6, L is defined: R has to be, and `compared` says whether the two agree
abbrev pub both_there : (Positive → CubeVerdict) → Residual → CubeVerdict
both_there compared (residual r) = compared r
both_there compared missing = fails
both_there compared (halted s) = halts s

-- 4.4: where the pair a, b is open the triple passes, and nothing is reversed
abbrev pub where_defined : Complement → CubeVerdict → CubeVerdict
where_defined undefined v = holds
where_defined (complement x y) v = v

-- 7.1: 11 for (iii), 12 for (iv)
abbrev pub stop_number : Stop → ℕ
stop_number no_budget = 11
stop_number no_room = 12

-- 4.6: refusal 9 names the triple that breaks the rule; a stop names the triple under way
abbrev pub reported : Three → CubeVerdict → Outcome (Unit {0}) → Outcome (Unit {0})
reported t holds rest = rest
reported t fails rest = refused 9 (triple_of t.a t.b t.c)
reported t (halts s) rest = refused (stop_number s) (triple_of t.a t.b t.c)

module _ (T : Presentation) (budget : ℕ) where
  -- 4.5: u\v by one reversing, which has the whole budget
  unfoldable pub under : ℕ → Positive → Positive → Residual
  under room u v = of_ending (reversing T budget room (negative u ++ positive v))

  -- 4.4: (a\b)\(a\c) by reversings 1, 2 and 3; with a and b exchanged by 4, 5 and 6
  unfoldable pub side : ℕ → ℕ → ℕ → ℕ → Residual
  side room a b c =
      and_then (under room (a ∷ []) (b ∷ [])) (λ x.
      and_then (under room (a ∷ []) (c ∷ [])) (λ y.
      under room x y))

  -- 4.4, 4.5: what is left to do once L is known. In working out R the room is less by a byte for each letter of L; reversing 7 has all of it
  unfoldable pub against : ℕ → ℕ → ℕ → ℕ → Residual → CubeVerdict
  against room a b c (residual l) =
      both_there (λ r. empties (reversing T budget room (negative l ++ positive r))) (side (room - length l) b a c)
  against room a b c missing = both_missing (side room b a c)
  against room a b c (halted s) = halts s

  -- 4.4: one triple
  unfoldable pub cube_at : ℕ → Three → CubeVerdict
  cube_at room t = where_defined (complete T t.a t.b) (against room t.a t.b t.c (side room t.a t.b t.c))

  -- 4.6: the triples one by one; the first that fails or stops ends the check
  abbrev pub cube_check : ℕ → List Three → Outcome (Unit {0})
  cube_check room [] = answered tt
  cube_check room (t ∷ ts) = reported t (cube_at room t) (cube_check room ts)

-- 4: a table clears if both checks pass; the one of weights is made first
unfoldable pub cleared : Presentation → ℕ → ℕ → Outcome (Unit {0})
cleared T budget room = weight_check T (pairs T.size) >>= λ ok. cube_check T budget room (triples T.size)
