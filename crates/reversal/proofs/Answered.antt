-- The services that write a fraction: what an early refusal comes to, and what the rest of the work does.
use mathlib.Core.Path.{◌≡◌, sym, ap, subst, ◌∙◌}
use mathlib.Core.List.{List}
use Prim.Native.Nat.{ℕ}
use lib.ListN.{length, replicate}
use Rattle.std.specs.Prelude.{Err}
use Rattle.std.specs.declared.result.Result.{Result}
use Rattle.model.specs.Reversing.{Ending, reversing}
use Rattle.model.specs.Outcome.{Outcome, ◌>>=◌, mapped}
use Rattle.model.specs.Images.{read_program}
use Rattle.model.specs.Services.{sizes, Fraction, read_table_with}
use Rattle.model.specs.Areas.{fraction_bytes, output_after, workspace_after}
use Rattle.model.specs.Stated.{reversed}
use Rattle.model.specs.declared.answers.Ending.{Ending as EndingAnswer}
use Rattle.model.specs.declared.answers.Refusal.{Refusal}
use Rattle.model.specs.declared.answers.Reversed.{Reversed}
use Rattle.loading.proofs.Early.{program_early}
use Rattle.loading.proofs.Late.{Late}
use Rattle.loading.proofs.Outcomes.{refused_stated, refused_output}
use Rattle.loading.proofs.Reading.{program_refused, program_runs}
use Rattle.reversal.specs.Asked.{Answers}
use Rattle.reversal.specs.Running.{Ran, NotRun}

-- the result and both areas that an outcome states
pub record States (outcome : Outcome Fraction) (workspace workspace' before after : List ℕ) (r : Result Reversed Refusal) : Type 0 where
  pub result : reversed r ≡ mapped sizes outcome
  pub area : after ≡ output_after fraction_bytes outcome before
  pub work : workspace' ≡ workspace_after outcome workspace

-- a wiped workspace, and what an ending comes to
pub answered_states : (o p : Outcome Fraction) → o ≡ p → Late p → {workspace workspace' before after : List ℕ} {r : Result Reversed Refusal}
    → workspace' ≡ replicate (length workspace) 0 → Answers p before after r → States o workspace workspace' before after r
answered_states o p is late {workspace} {workspace'} {before} z a =
    record {
      result = a.result ∙ sym (ap (mapped sizes) is);
      area = a.area ∙ sym (ap (λ q. output_after fraction_bytes q before) is);
      work = z ∙ sym (ap (λ q. workspace_after q workspace) is ∙ late.zero workspace);
    }

-- a service that reads a table and a program, and makes of its ending what it is told so
module _ (table program : List ℕ) (budget : ℕ) (workspace before : List ℕ) (made : ℕ → Ending → Outcome Fraction) where
  abbrev service : Outcome Fraction
  service = read_table_with read_program table program >>= λ l. made (length before) (reversing l.table budget (length workspace) l.word)

  pub not_run : (workspace' : List ℕ) (r : Refusal) → NotRun table program workspace workspace' r → States service workspace workspace' before before (Err r)
  not_run workspace' r n =
      let f = program_refused read_program table program (λ T w. made (length before) (reversing T budget (length workspace) w)) program_early r n.refused in
      record {
        result = refused_stated service r (sym f.stated) sizes;
        area = refused_output service r (sym f.stated) fraction_bytes before;
        work = n.as_found ∙ f.workspace workspace;
      }

  pub ran : ((area : ℕ) (e : Ending) → Late (made area e)) → (mid : List ℕ) (e : EndingAnswer) (g : Ran table program budget mid e)
      → length mid ≡ length workspace
      → (workspace' after : List ℕ) (r : Result Reversed Refusal) → workspace' ≡ replicate (length mid) 0
      → Answers (made (length before) (reversing g.presentation budget (length mid) g.word)) before after r
      → States service workspace workspace' before after r
  ran late mid e g same workspace' after r z a =
      answered_states service (made (length before) (reversing g.presentation budget (length workspace) g.word))
      (program_runs read_program table program (λ T w. made (length before) (reversing T budget (length workspace) w)) g.presentation g.word g.table_read
      g.program_read)
      (late (length before) (reversing g.presentation budget (length workspace) g.word))
      (z ∙ ap (λ n. replicate n 0) same)
      (subst (λ n. Answers (made (length before) (reversing g.presentation budget n g.word)) before after r) same a)
