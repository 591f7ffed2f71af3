-- Why a program was not run under the mirror.
use mathlib.Core.Path.{◌≡◌, refl, ap, subst, ◌∙◌}
use mathlib.Core.List.{List}
use mathlib.Core.Bool.{true, ◌||◌}
use Prim.Native.Nat.{ℕ, ◌≤◌}
use native.Mathlib.Omega.{arith}
use borrow.Author.Tests.{le-leb}
use lib.Dec.{eqb}
use Rattle.model.specs.Word.{Word}
use Rattle.model.specs.Presentation.{Presentation}
use Rattle.model.specs.Outcome.{answered}
use Rattle.model.specs.Images.{read_table, read_program}
use Rattle.model.specs.Mirror.{mirror_check}
use Rattle.model.specs.Services.{read_table_with}
use Rattle.model.specs.Areas.{before_work}
use Rattle.model.specs.Stated.{numbered, refusal}
use Rattle.model.specs.declared.answers.Refusal.{Refusal}
use Rattle.loading.proofs.Early.{Early, program_early}
use Rattle.loading.proofs.Reading.{table_with_early, program_still_refused, program_runs}
use Rattle.reversal.specs.Running.{NotMirrored}

module _ (table program workspace : List ℕ) where
  -- an image is refused with a small number
  pub not_read : (r : Refusal) → read_table_with read_program table program ≡ refusal r → NotMirrored table program workspace workspace r
  not_read r e =
      let small : (numbered r).0 ≤ 7 = subst (Early 7) e (table_with_early read_program table program program_early) in
      record {
        refused = program_still_refused read_program table program (λ T w. mirror_check T) r e;
        early = ap (λ b. b || (eqb (numbered r).0 16 || (eqb (numbered r).0 23 || eqb (numbered r).0 24))) (le-leb (numbered r).0 8 (omega arith));
        as_found = refl;
      }

  pub no_mirror : (T : Presentation) (w : Word) → read_table table ≡ answered T → read_program T.size program ≡ answered w → (r : Refusal)
      → mirror_check T ≡ refusal r → before_work (numbered r).0 ≡ true → NotMirrored table program workspace workspace r
  no_mirror T w t f r m h =
      record { refused = program_runs read_program table program (λ U v. mirror_check U) T w t f ∙ m; early = h; as_found = refl }
