-- What comes before the two reversings, step by step.
use mathlib.Core.Path.{◌≡◌, refl, sym, ap, ◌∙◌}
use mathlib.Core.List.{List}
use Prim.Native.Nat.{ℕ}
use lib.ListN.{length, replicate}
use Rattle.std.specs.Prelude.{Result, Ok, Err, MatchResult, IsErrAnd}
use Rattle.std.proofs.lemmas.Result.{err_from_is_err_and}
use Rattle.model.specs.Presentation.{Presentation}
use Rattle.model.specs.Enumeration.{triples}
use Rattle.model.specs.Outcome.{answered, ◌>>=◌}
use Rattle.model.specs.Checks.{cube_check, cleared}
use Rattle.model.specs.Mirror.{mirror, mirror_check}
use Rattle.model.specs.Services.{of_mirror}
use Rattle.model.specs.Areas.{workspace_after}
use Rattle.model.specs.Stated.{refusal, cleared_as}
use Rattle.model.specs.declared.answers.Pair.{Pair}
use Rattle.model.specs.declared.answers.Stop.TheVariants.{Budget, Room}
use Rattle.model.specs.declared.answers.Refusal.{Refusal}
use Rattle.model.specs.declared.answers.Refusal.TheVariants.{NoMirror}
use Rattle.model.proofs.Impossible.{impossible}
use Rattle.model.proofs.Outcomes.{still_refused, goes_on}
use Rattle.cells.specs.Stands.{Of}
use Rattle.clearing.specs.BothChecks.{CubesMean}
use Rattle.clearing.specs.declared.both_checks.TriplesOf.TheVariants.{Mirror}
use Rattle.sets.specs.Growing.{grown_as}
use Rattle.sets.specs.Set.{SetMeans}
use Rattle.sets.specs.declared.growing.SetFault.{SetFault}
use Rattle.sets.specs.declared.growing.SetFault.TheVariants.{OpenPair, TooLarge, Stopped}
use Rattle.signed_comparing.specs.Preparing.{grown_refusal, mirror_then_set, prepared, MirrorThenSet}

-- what is said of the set is what is answered, after the work has begun
grown_stated : (g : Result (Unit {0}) SetFault) → cleared_as (grown_refusal g) ≡ grown_as g
grown_stated (Ok closed) = refl
grown_stated (Err (OpenPair p)) = refl
grown_stated (Err TooLarge) = refl
grown_stated (Err (Stopped Budget)) = refl
grown_stated (Err (Stopped Room)) = refl

grown_late : (g : Result (Unit {0}) SetFault) (area : List ℕ) → workspace_after (cleared_as (grown_refusal g)) area ≡ replicate (length area) 0
grown_late (Ok closed) area = refl
grown_late (Err (OpenPair p)) area = refl
grown_late (Err TooLarge) area = refl
grown_late (Err (Stopped Budget)) area = refl
grown_late (Err (Stopped Room)) area = refl

module _ (cells mirrored : List ℕ) (size budget room : ℕ) {r : Result (Unit {0}) Refusal} (cubes : CubesMean Mirror mirrored size budget room r) where
  -- what the check of the mirror's triples comes to
  cube_is : (T : Presentation) → Of cells size T → Of mirrored size (mirror T)
      → of_mirror (cube_check (mirror T) budget room (triples T.size)) ≡ cleared_as r
  cube_is T o u = sym (cubes.states (mirror T) u ∙ ap (λ n. of_mirror (cube_check (mirror T) budget room (triples n))) (sym o.sized))

  pub mirror_refused : (why : Refusal) → r ≡ Err why → MirrorThenSet cells mirrored size budget room (Err why)
  mirror_refused why e = record {
    states = λ T o u. sym (still_refused (of_mirror (cube_check (mirror T) budget room (triples T.size))) why (cube_is T o u ∙ ap cleared_as e) _);
    late = λ area. ap (λ c. workspace_after (cleared_as c) area) (sym e) ∙ cubes.late area;
  }

  pub set_grown : (passed : Unit {0}) → r ≡ Ok passed → (g : Result (Unit {0}) SetFault) → SetMeans cells size room budget g
      → MirrorThenSet cells mirrored size budget room (grown_refusal g)
  set_grown passed e g s = record {
    states =
        λ T o u. grown_stated g ∙ s T o
        ∙ sym (goes_on (of_mirror (cube_check (mirror T) budget room (triples T.size))) tt (cube_is T o u ∙ ap cleared_as e) _);
    late = grown_late g;
  }

-- what a result was, by what `map_err` made of it
module _ {E D : Type 0} (wrap : E → D) (r : Result (Unit {0}) E) (s : Result (Unit {0}) D)
    (m : MatchResult r (λ x. s ≡ Ok x) (λ e. IsErrAnd s (λ d. d ≡ wrap e))) where
  pub mapped_ok : (x : Unit {0}) → s ≡ Ok x → r ≡ Ok x
  mapped_ok x e = go r m
    where
      go : (q : Result (Unit {0}) E) → MatchResult q (λ x. s ≡ Ok x) (λ e. IsErrAnd s (λ d. d ≡ wrap e)) → q ≡ Ok x
      go (Ok y) n = cc
      go (Err y) n = let p = err_from_is_err_and s n in let same : Err p.0 ≡ Ok x = sym p.1 ∙ e in impossible (cc)

  pub mapped_err : (d : D) → s ≡ Err d → (e : E) × (r ≡ Err e) × (d ≡ wrap e)
  mapped_err d e = go r m
    where
      go : (q : Result (Unit {0}) E) → MatchResult q (λ x. s ≡ Ok x) (λ e. IsErrAnd s (λ d. d ≡ wrap e)) → (e : E) × (q ≡ Err e) × (d ≡ wrap e)
      go (Ok y) n = let same : Ok y ≡ Err d = sym n ∙ e in impossible (cc)
      go (Err y) n =
          let p = err_from_is_err_and s n in
          let same : Err d ≡ Err p.0 = sym e ∙ p.1 in
          let last : p.0 ≡ wrap y = p.2 in
          (y, refl, cc)

module _ (T : Presentation) (budget room : ℕ) where
  pub mirror_offends : (p : Pair) → mirror_check T ≡ refusal (NoMirror p) → prepared T budget room ≡ refusal (NoMirror p)
  unfolding prepared
  mirror_offends p e = still_refused (mirror_check T) (NoMirror p) e (λ ok. cleared T budget room >>= λ ok. mirror_then_set T budget room)

  module _ (has : mirror_check T ≡ answered tt) where
    table_checked : prepared T budget room ≡ (cleared T budget room >>= λ ok. mirror_then_set T budget room)
    unfolding prepared
    table_checked = goes_on (mirror_check T) tt has (λ ok. cleared T budget room >>= λ ok. mirror_then_set T budget room)

    pub table_refused : (r : Refusal) → cleared_as (Err r) ≡ cleared T budget room → cleared_as (Err r) ≡ prepared T budget room
    table_refused r e = sym (table_checked ∙ still_refused (cleared T budget room) r (sym e) (λ ok. mirror_then_set T budget room))

    pub table_clears : answered tt ≡ cleared T budget room → prepared T budget room ≡ mirror_then_set T budget room
    table_clears e = table_checked ∙ goes_on (cleared T budget room) tt (sym e) (λ ok. mirror_then_set T budget room)
