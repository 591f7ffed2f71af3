-- What enquire makes of each ending, and its outcome after each check.
use mathlib.Core.Path.{◌≡◌, refl, sym, ap, subst, ◌∙◌}
use mathlib.Core.List.{List}
use Prim.Native.Nat.{ℕ}
use lib.ListN.{length, replicate}
use Rattle.model.specs.Word.{Word}
use Rattle.model.specs.Presentation.{Presentation}
use Rattle.model.specs.Reversing.{Ending, finished, open_pair, stopped, no_budget, no_room, reversing}
use Rattle.model.specs.Outcome.{Outcome}
use Rattle.model.specs.Images.{read_program}
use Rattle.model.specs.Services.{Sizes, sizes_of, enquire}
use Rattle.model.specs.Areas.{workspace_after}
use Rattle.model.specs.Stated.{refusal, reversed, ending_answer}
use Rattle.model.specs.declared.answers.Ending.{Ending as EndingAnswer}
use Rattle.model.specs.declared.answers.Refusal.{Refusal}
use Rattle.engine.specs.Run.{Reverses}
use Rattle.loading.proofs.Early.{program_early}
use Rattle.loading.proofs.Late.{Late, late_answer, late_refusal, late_stop}
use Rattle.loading.proofs.Reading.{program_refused, program_runs}
use Rattle.reversal.specs.Enquire.{sizes_told, EnquireSays, EnquirePromise}
use Rattle.reversal.specs.Running.{Ran, NotRun}
use Rattle.reversal.proofs.Foretelling.{foretells}

pub sizes_stated : (e : Ending) → reversed (sizes_told (ending_answer e)) ≡ sizes_of e
sizes_stated (finished n d k r) = refl
sizes_stated (open_pair a b k) = refl
sizes_stated (stopped no_budget) = refl
sizes_stated (stopped no_room) = refl

-- .. as it is the ending of a reversing
pub sizes_are : (T : Presentation) (word : Word) (budget : ℕ) (workspace : List ℕ) (e : EndingAnswer) → Reverses T word budget workspace e
    → reversed (sizes_told e) ≡ sizes_of (reversing T budget (length workspace) word)
sizes_are T word budget workspace e p = ap (λ x. reversed (sizes_told x)) p.answer ∙ sizes_stated (reversing T budget (length workspace) word)

-- any of them comes after the work has begun
pub sizes_late : (e : Ending) → Late (sizes_of e)
sizes_late (finished n d k r) = late_answer
sizes_late (open_pair a b k) = late_refusal refl
sizes_late (stopped s) = late_stop s

module _ (table program : List ℕ) (budget : ℕ) (workspace : List ℕ) where
  abbrev room : ℕ
  room = length workspace

  abbrev outcome : Outcome Sizes
  outcome = enquire table program budget room

  promised : (workspace' : List ℕ) (told : Outcome Sizes) → told ≡ outcome → workspace' ≡ workspace_after outcome workspace
      → EnquireSays table program budget room outcome
      → EnquirePromise table program budget workspace workspace' told
  promised workspace' told t k m = record { stated = t; workspace_is = k; meaning = subst (EnquireSays table program budget room) (sym t) m }

  pub enquire_refused : (workspace' : List ℕ) (r : Refusal) → NotRun table program workspace workspace' r
      → EnquirePromise table program budget workspace workspace' (refusal r)
  unfolding enquire
  enquire_refused workspace' r n =
      let f = program_refused read_program table program (λ T w. sizes_of (reversing T budget room w)) program_early r n.refused in
      promised workspace' (refusal r) f.stated (n.as_found ∙ f.workspace workspace) (foretells table program budget room)

  pub enquire_runs : (mid : List ℕ) (e : EndingAnswer) → Ran table program budget mid e → length mid ≡ room → (workspace' : List ℕ)
      → workspace' ≡ replicate (length mid) 0
      → EnquirePromise table program budget workspace workspace' (reversed (sizes_told e))
  unfolding enquire
  enquire_runs mid e g same workspace' z =
      let end = reversing g.presentation budget room g.word in
      let o = program_runs read_program table program (λ T w. sizes_of (reversing T budget room w)) g.presentation g.word g.table_read g.program_read in
      let t = sizes_are g.presentation g.word budget mid e g.reverses ∙ (ap (λ i. sizes_of (reversing g.presentation budget i g.word)) same ∙ sym o) in
      promised workspace' (reversed (sizes_told e)) t
      (z ∙ (ap (λ n. replicate n 0) same ∙ sym (ap (λ q. workspace_after q workspace) o ∙ (sizes_late end).zero workspace)))
      (foretells table program budget room)
