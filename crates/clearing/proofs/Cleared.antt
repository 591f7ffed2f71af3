-- Clearing a loaded table or its mirror, and the outcomes of clear and mirror_clear.
use mathlib.Core.Path.{◌≡◌, sym, ap, subst, ◌∙◌}
use mathlib.Core.List.{List}
use Prim.Native.Nat.{ℕ}
use lib.ListN.{length}
use Rattle.std.specs.declared.result.Result.{Result}
use Rattle.model.specs.Presentation.{Presentation}
use Rattle.model.specs.Enumeration.{pairs, triples}
use Rattle.model.specs.Outcome.{Outcome, answered, ◌>>=◌}
use Rattle.model.specs.Areas.{workspace_after}
use Rattle.model.specs.Checks.{weight_check, cube_check, cleared}
use Rattle.model.specs.Images.{read_table}
use Rattle.model.specs.Mirror.{mirror, mirror_check}
use Rattle.model.specs.Services.{clear, of_mirror, mirror_cleared, mirror_clear}
use Rattle.model.specs.Stated.{refusal, cleared_as}
use Rattle.model.specs.declared.answers.Refusal.{Refusal}
use Rattle.model.proofs.Outcomes.{goes_on}
use Rattle.theory.specs.Mirrors.{MirrorMeaning}
use Rattle.theory.proofs.Balance.{weight_meaning}
use Rattle.theory.proofs.Checked.{cube_exactly}
use Rattle.theory.proofs.MirrorClearing.{mirror_meaning}
use Rattle.images.proofs.RoundTrip.{table_in_range}
use Rattle.cells.specs.Stands.{Of}
use Rattle.loading.proofs.Reading.{table_refused}
use Rattle.clearing.specs.BothChecks.{BothMean}
use Rattle.clearing.specs.Clear.{ChecksMeaning, ClearSays, ClearPromise}
use Rattle.clearing.specs.MirrorClear.{MirrorClearSays, MirrorPromise}
use Rattle.clearing.specs.declared.both_checks.TriplesOf.TheVariants.{Table, Mirror}

-- CELLS THAT WERE LOADED

module _ (T : Presentation) (budget room : ℕ) (cells : List ℕ) (size : ℕ) (o : Of cells size T) (r : Result (Unit {0}) Refusal) where
  pub table_clears : BothMean Table cells cells size budget room r → cleared_as r ≡ cleared T budget room
  unfolding cleared
  table_clears b = b T T o o ∙ sym (ap (λ n. weight_check T (pairs n) >>= λ ok. cube_check T budget room (triples n)) o.sized)

  pub mirror_clears : (mirrored : List ℕ) → BothMean Mirror cells mirrored size budget room r
      → (mirror_check T ≡ answered tt) × Of mirrored size (mirror T) → cleared_as r ≡ mirror_cleared T budget room
  unfolding mirror_cleared
  mirror_clears mirrored b m =
      b T (mirror T) o m.1
      ∙ sym (goes_on (mirror_check T) tt m.0 _
      ∙ ap (λ n. weight_check T (pairs n) >>= λ ok. of_mirror (cube_check (mirror T) budget room (triples n))) o.sized)

-- THE IMAGE

-- a service that reads a table and then has only the rest to do, and what is promised of its outcome and workspace
module _ (table before : List ℕ) (rest : Presentation → Outcome (Unit {0})) (Promise : List ℕ → Outcome (Unit {0}) → Type 0)
    (promised : (after : List ℕ) (o : Outcome (Unit {0})) → o ≡ (read_table table >>= rest) → after ≡ workspace_after (read_table table >>= rest) before
    → Promise after o) where
  no_table : (r : Refusal) → read_table table ≡ refusal r → Promise before (refusal r)
  no_table r e = let f = table_refused table rest r e in promised before (refusal r) f.stated (f.workspace before)

  with_table : (T : Presentation) → read_table table ≡ answered T → (after : List ℕ) (r : Result (Unit {0}) Refusal) → cleared_as r ≡ rest T
      → after ≡ workspace_after (cleared_as r) before
      → Promise after (cleared_as r)
  with_table T t after r e w =
      let f = e ∙ sym (goes_on (read_table table) T t rest) in
      promised after (cleared_as r) f (w ∙ ap (λ o. workspace_after o before) f)

module _ (table : List ℕ) (budget : ℕ) (before : List ℕ) where
  abbrev room : ℕ
  room = length before

  clear_means : ClearSays table (clear table budget room)
  unfolding clear
  clear_means T t =
      subst (ChecksMeaning T) (sym (goes_on (read_table table) T t _)) (record { weights = weight_meaning T budget room; cube = cube_exactly T budget room })

  mirror_means : MirrorClearSays table budget room (mirror_clear table budget room)
  unfolding mirror_clear
  mirror_means T t =
      subst (MirrorMeaning T budget room) (sym (goes_on (read_table table) T t _)) (mirror_meaning T (table_in_range table T t) budget room)

  clear_promised : (after : List ℕ) (o : Outcome (Unit {0})) → o ≡ clear table budget room → after ≡ workspace_after (clear table budget room) before
      → ClearPromise table budget before after o
  clear_promised after o e w = record { stated = e; workspace_is = w; meaning = subst (ClearSays table) (sym e) clear_means }

  mirror_promised : (after : List ℕ) (o : Outcome (Unit {0})) → o ≡ mirror_clear table budget room
      → after ≡ workspace_after (mirror_clear table budget room) before
      → MirrorPromise table budget before after o
  mirror_promised after o e w = record { stated = e; workspace_is = w; meaning = subst (MirrorClearSays table budget room) (sym e) mirror_means }

  pub clear_refused : (r : Refusal) → read_table table ≡ refusal r → ClearPromise table budget before before (refusal r)
  unfolding clear
  clear_refused = no_table table before (λ T. cleared T budget room) (ClearPromise table budget before) clear_promised

  pub clear_done : (T : Presentation) → read_table table ≡ answered T → (after : List ℕ) (r : Result (Unit {0}) Refusal)
      → cleared_as r ≡ cleared T budget room → after ≡ workspace_after (cleared_as r) before
      → ClearPromise table budget before after (cleared_as r)
  unfolding clear
  clear_done = with_table table before (λ T. cleared T budget room) (ClearPromise table budget before) clear_promised

  pub mirror_refused : (r : Refusal) → read_table table ≡ refusal r → MirrorPromise table budget before before (refusal r)
  unfolding mirror_clear
  mirror_refused = no_table table before (λ T. mirror_cleared T budget room) (MirrorPromise table budget before) mirror_promised

  pub mirror_done : (T : Presentation) → read_table table ≡ answered T → (after : List ℕ) (r : Result (Unit {0}) Refusal)
      → cleared_as r ≡ mirror_cleared T budget room → after ≡ workspace_after (cleared_as r) before
      → MirrorPromise table budget before after (cleared_as r)
  unfolding mirror_clear
  mirror_done = with_table table before (λ T. mirror_cleared T budget room) (MirrorPromise table budget before) mirror_promised
