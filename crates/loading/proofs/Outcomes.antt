-- A refusal on its way through a service, whatever the service answers.
use mathlib.Core.Path.{◌≡◌, sym, ap, ◌∙◌}
use mathlib.Core.List.{List}
use Prim.Native.Nat.{ℕ, ◌≤◌}
use Rattle.model.specs.Outcome.{Outcome, ◌>>=◌, mapped}
use Rattle.model.specs.Areas.{output_after, workspace_after}
use Rattle.model.specs.Stated.{refusal}
use Rattle.model.specs.declared.answers.Refusal.{Refusal}
use Rattle.model.proofs.Outcomes.{still_refused}
use Rattle.loading.proofs.Early.{Early, refusal_workspace}

module _ {A : Type 0} (o : Outcome A) (r : Refusal) (e : o ≡ refusal r) where
  pub refused_stated : {B : Type 0} (f : A → B) → refusal r ≡ mapped f o
  refused_stated f = sym (ap (mapped f) e)

  pub refused_output : (bytes : A → List ℕ) (area : List ℕ) → area ≡ output_after bytes o area
  refused_output bytes area = sym (ap (λ q. output_after bytes q area) e)

  -- refused by a check that comes before the work
  pub refused_workspace : {C : Type 0} (first : Outcome C) (k : ℕ) → first ≡ refusal r → Early k first → k ≤ 8 → (area : List ℕ) → area ≡ workspace_after o area
  refused_workspace first k f h few area = sym (ap (λ q. workspace_after q area) e ∙ refusal_workspace A r first k f h few area)

-- refused before the work: the service says so, and leaves the workspace as found
pub record AsFound {A : Type 0} (o : Outcome A) (r : Refusal) : Type 0 where
  pub stated : refusal r ≡ o
  pub workspace : (area : List ℕ) → area ≡ workspace_after o area

-- a service that begins with a reading
pub reading_refused : {A B : Type 0} (o : Outcome B) (reading : Outcome A) (rest : A → Outcome B) → o ≡ (reading >>= rest) → (r : Refusal) → reading ≡ refusal r
    → (k : ℕ)
    → Early k reading → k ≤ 8 → AsFound o r
reading_refused o reading rest begins r e k early few =
    let q = begins ∙ still_refused reading r e rest in
    record { stated = sym q; workspace = refused_workspace o r q reading k e early few }
