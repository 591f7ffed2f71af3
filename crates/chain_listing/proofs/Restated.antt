-- What a situation says, with its faces written otherwise.
use mathlib.Core.Path.{◌≡◌, ap, subst, ◌∙◌}
use mathlib.Core.List.{List, map}
use Prim.Native.Nat.{ℕ}
use lib.ListN.{length}
use Rattle.model.specs.Word.{Positive}
use Rattle.chain_listing.specs.declared.moves.Progress.{Progress}
use Rattle.chain_listing.specs.Faces.{Face, slot_of, passed_of}
use Rattle.chain_listing.specs.Layout.{Layout}
use Rattle.chain_listing.specs.Course.{Task, Course, Situation}

module _ {t : Task} {cells : List ℕ} {size total : ℕ} {taken : Positive} {bytes answer : List ℕ} {at : Progress}
    (s : Situation t cells size total taken bytes answer at)
    {faces : List Face} (is : s.faces ≡ faces) where
  pub course_of : Course t size total taken s.rest faces s.done s.left s.entries
  course_of = subst (λ l. Course t size total taken s.rest l s.done s.left s.entries) is s.course

  pub layout_of : Layout size total t.area s.entries (map slot_of faces) answer
  layout_of = subst (λ l. Layout size total t.area s.entries (map slot_of l) answer) is s.held.layout

  pub passed_of_lem : at.passed ≡ length (passed_of faces s.done)
  passed_of_lem = s.held.passed ∙ ap (λ l. length (passed_of l s.done)) is

  pub stacked_of : at.stacked ≡ length faces
  stacked_of = s.held.stacked ∙ ap length is
