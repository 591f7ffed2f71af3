-- Residuals u\v: there is at most one, that of two letters is their complement, and a reversing of the checks works it out. Specification 3.5.
use mathlib.Core.Path.{◌≡◌, refl, subst, ◌∙◌}
use mathlib.Core.List.{[], ◌∷◌, ◌++◌, append-nil}
use Prim.Native.Nat.{ℕ}
use Rattle.model.specs.Word.{Positive, positive, negative}
use Rattle.model.specs.Presentation.{Presentation, Complement, undefined, complement, complete}
use Rattle.model.specs.Reversing.{Ending, finished, open_pair, stopped, reversing, Leftmost, Residuals}
use Rattle.model.specs.Checks.{residual, missing, of_ending, under}
use Rattle.model.proofs.Impossible.{impossible}
use Rattle.model.proofs.Words.{fraction_injective}
use Rattle.model.proofs.Leftmost.{fraction_stuck, counted, same_end, open_unfinished}
use Rattle.model.proofs.Endings.{Ends, reversing_ends}

-- u\v is undefined: the reversing never finishes, for it comes to an open pair or goes on for ever
abbrev pub NoResidual : Presentation → Positive → Positive → Type 0
NoResidual T u v = (n d : Positive) → Residuals T u v n d → ⊥

module _ (T : Presentation) where
  -- there is at most one
  pub same_residual : (u v n d n' d' : Positive) → Residuals T u v n d → Residuals T u v n' d' → (n ≡ n') × (d ≡ d')
  same_residual u v n d n' d' r s =
      fraction_injective n d n' d' (same_end (counted r.1) (fraction_stuck T n d) (counted s.1) (fraction_stuck T n' d')).0

  -- the residual of letters is their complement
  pub letters_residual : {a b : ℕ} {x y : Positive} → complete T a b ≡ complement x y → Residuals T (a ∷ []) (b ∷ []) x y
  letters_residual {x} {y} e =
      (1, Leftmost.go refl e (subst (λ w. Leftmost T (positive x ++ (negative y ++ [])) (positive x ++ w) 0) (append-nil (negative y)) Leftmost.stay))

  pub residual_letters : (a b : ℕ) {x y : Positive} → Residuals T (a ∷ []) (b ∷ []) x y → complete T a b ≡ complement x y
  residual_letters a b {x} {y} r = go (complete T a b) refl
    where
      go : (m : Complement) → complete T a b ≡ m → complete T a b ≡ complement x y
      go undefined e = absurd (open_unfinished T Leftmost.stay refl e x y r.1)
      go (complement x' y') e =
          let same = same_residual (a ∷ []) (b ∷ []) x' y' x y (letters_residual e) r in
          e ∙ cc (same.0, same.1)

-- a residual as a check works it out, told by how its reversing ends
module _ (T : Presentation) (budget room : ℕ) (u v : Positive) where
  by_ending : Ends T budget room (negative u ++ positive v) (reversing T budget room (negative u ++ positive v))
  by_ending = reversing_ends T budget room (negative u ++ positive v)

  pub under_residual : {n : Positive} → under T budget room u v ≡ residual n → (d : Positive) × Residuals T u v n d
  unfolding under
  under_residual {n} h = go (reversing T budget room (negative u ++ positive v)) h by_ending
    where
      go : (end : Ending) → of_ending end ≡ residual n → Ends T budget room (negative u ++ positive v) end → (d : Positive) × Residuals T u v n d
      go (finished m d k r) e t =
          let same : m ≡ n = cc in
          (d, subst (λ n. Residuals T u v n d) same (k, t.run))
      go (open_pair a b k) e t = impossible (cc)
      go (stopped s) e t = impossible (cc)

  pub under_missing : under T budget room u v ≡ missing → NoResidual T u v
  unfolding under
  under_missing h = go (reversing T budget room (negative u ++ positive v)) h by_ending
    where
      go : (end : Ending) → of_ending end ≡ missing → Ends T budget room (negative u ++ positive v) end → NoResidual T u v
      go (finished m d k r) e t = impossible (cc)
      go (open_pair a b k) e t = λ n d r. open_unfinished T t.reached.run t.here t.undefined_there n d r.1
      go (stopped s) e t = impossible (cc)
