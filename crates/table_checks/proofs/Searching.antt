-- The search for the first triple that does not hold: the check of all triples is the check of those that are left.
use mathlib.Core.Path.{◌≡◌, refl, sym, ap, ◌∙◌}
use mathlib.Core.List.{List, [], ◌∷◌, ◌++◌, append_assoc}
use Prim.Native.Nat.{ℕ, ◌+◌, ◌≤◌}
use Rattle.model.specs.Presentation.{Presentation}
use Rattle.model.specs.Enumeration.{Three, triples}
use Rattle.model.specs.Outcome.{Outcome, ◌>>=◌}
use Rattle.model.specs.Checks.{cube_check}
use Rattle.model.specs.declared.answers.Stop.TheVariants.{Budget, Room}
use Rattle.cells.specs.Stands.{Of}
use Rattle.table_checks.specs.Table.{triples_as, triples_with, TripleMeans, TriplesMean}
use Rattle.table_checks.specs.declared.table.TripleFault.{TripleFault}
use Rattle.table_checks.specs.declared.table.TripleFault.TheVariants.{Fails, Halts}
use Rattle.std.specs.Prelude.{Result, Ok, Err}
use Rattle.table_checks.proofs.Remaining.{firsts, seconds, thirds, firsts_some, seconds_some}
use Rattle.table_checks.proofs.Remaining.{thirds_some}
use Rattle.table_checks.proofs.Passing.{cubes_append, of_serves}

-- a fault ends the search
ends : (f : TripleFault) (o : Outcome (Unit {0})) → (triples_as (Err f) >>= λ ok. o) ≡ triples_as (Err f)
ends (Fails t) o = refl
ends (Halts Budget t) o = refl
ends (Halts Room t) o = refl

abbrev pub Left : List ℕ → ℕ → ℕ → ℕ → List Three → Type 0
Left cells size budget room rest = (T : Presentation) → Of cells size T → cube_check T budget room (triples size) ≡ cube_check T budget room rest

module _ (cells : List ℕ) (size budget room : ℕ) where
  left_as : {xs ys : List Three} → xs ≡ ys → Left cells size budget room xs → Left cells size budget room ys
  left_as e l T o = l T o ∙ ap (cube_check T budget room) e

  pub enter_first : (a : ℕ) → a ≤ size → Left cells size budget room (firsts size a)
      → Left cells size budget room (seconds size a (a + 1) ++ firsts size (a + 1))
  enter_first a h = left_as (firsts_some size a h)

  pub enter_second : (a b : ℕ) → b ≤ size → Left cells size budget room (seconds size a b ++ firsts size (a + 1))
      → Left cells size budget room (thirds size a b 1 ++ (seconds size a (b + 1) ++ firsts size (a + 1)))
  enter_second a b h =
      left_as (ap (λ l. l ++ firsts size (a + 1)) (seconds_some size a b h)
      ∙ append_assoc (thirds size a b 1) (seconds size a (b + 1)) (firsts size (a + 1)))

  -- the next triple is checked
  module _ (a b c : ℕ) (la : 1 ≤ a) (ha : a ≤ size) (lb : 1 ≤ b) (hb : b ≤ size) (lc : 1 ≤ c) (hc : c ≤ size) (rest : List Three)
      (l : Left cells size budget room (thirds size a b c ++ rest)) where
    abbrev Means : Result (Unit {0}) TripleFault → Type 0
    Means r = TripleMeans cells room (record { a = a; b = b; c = c }) budget r

    parted : (r : Result (Unit {0}) TripleFault) → Means r → (T : Presentation) → Of cells size T
        → cube_check T budget room (triples size) ≡ (triples_as r >>= λ ok. cube_check T budget room (thirds size a b (c + 1) ++ rest))
    parted r m T o =
        let after = thirds size a b (c + 1) ++ rest in
        left_as (ap (λ x. x ++ rest) (thirds_some size a b c hc) ∙ append_assoc (triples_with a b (c ∷ [])) (thirds size a b (c + 1)) rest) l T o
        ∙ (cubes_append T budget room (triples_with a b (c ∷ [])) after
        ∙ ap (λ x. x >>= λ ok. cube_check T budget room after) (sym (m T (of_serves o a b c la ha lb hb lc hc))))

    pub third_holds : (u : Unit {0}) → Means (Ok u) → Left cells size budget room (thirds size a b (c + 1) ++ rest)
    third_holds u m = parted (Ok u) m

    pub third_ends : (f : TripleFault) → Means (Err f) → TriplesMean cells size room budget (Err f)
    third_ends f m T o = sym (parted (Err f) m T o ∙ ends f (cube_check T budget room (thirds size a b (c + 1) ++ rest)))
