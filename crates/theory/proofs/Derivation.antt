-- From a reversing of u's inverse, then v, that ends empty follows, constructively, a list of entries that leads from u to v: [D1]
-- Lemma 1.2 (ii), with the steps counted. It has one entry for each step on two different letters, and no other.
-- From the diagram of the reversing (Diagram.antt), read cell by cell (`derives_empty`).
-- Main names: `Derivation`, `run_derivation`, `reversing_derivation`.
use mathlib.Core.Path.{◌≡◌, ◌∙◌}
use mathlib.Core.List.{List, [], ◌∷◌, ◌++◌}
use Prim.Native.Nat.{ℕ, ◌≤◌, ◌<◌}
use native.Mathlib.Omega.{arith}
use lib.ListN.{length}
use Rattle.model.specs.Word.{Positive, positive, negative}
use Rattle.model.specs.Presentation.{Presentation}
use Rattle.model.specs.Reversing.{finished, reversing}
use Rattle.model.specs.Equivalence.{Entry, Leads}
use Rattle.model.proofs.Leftmost.{Counted, counted_within}
use Rattle.model.proofs.Endings.{reversing_finishes}
use Rattle.model.proofs.Entries.{entry_inside}
use Rattle.theory.proofs.Grid.{derives_empty}
use Rattle.model.proofs.Joining.{equiv_chain}
use Rattle.theory.proofs.Diagram.{run_diagram}

-- each entry's offset is below the length of the word that it applies to
abbrev pub Inside : (T : Presentation) (u : Positive) (es : List Entry) (v : Positive) → Leads T u es v → Type 0
Inside T u [] v h = Unit {0}
Inside T u (e ∷ es) v h = (e.offset < length u) × Inside T h.0 es v h.2

-- what a reversing of k steps, r of them on two different letters, gives
pub record Derivation (T : Presentation) (u v : Positive) (k r : ℕ) : Type 0 where
  pub entries : List Entry
  pub leads : Leads T u entries v
  pub many : length entries ≡ r
  pub few : length entries ≤ k
  pub inside : Inside T u entries v leads

module _ (T : Presentation) where
  leads_inside : (u : Positive) (es : List Entry) (v : Positive) (h : Leads T u es v) → Inside T u es v h
  leads_inside u [] v h = tt
  leads_inside u (e ∷ es) v h = (entry_inside T u e h.0 h.1, leads_inside h.0 es v h.2)

  pub run_derivation : (u v : Positive) {k r : ℕ} → Counted T (negative u ++ positive v) [] k r → Derivation T u v k r
  run_derivation u v c =
      let g = run_diagram u v [] [] c in
      let d = derives_empty g.grid in
      let l = equiv_chain T d.path in
      let many = l.many ∙ (d.many ∙ g.differ) in
      record {
        entries = l.entries;
        leads = l.leads;
        many = many;
        few = omega (arith, many, counted_within c);
        inside = leads_inside u l.entries v l.leads;
      }

  -- the same of the function
  pub reversing_derivation : (budget room : ℕ) (u v : Positive) (k r : ℕ) → reversing T budget room (negative u ++ positive v) ≡ finished [] [] k r
      → Derivation T u v k r
  reversing_derivation budget room u v k r h =
      run_derivation u v (reversing_finishes T budget room (negative u ++ positive v) [] [] k r h)
