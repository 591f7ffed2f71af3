-- What a program of forward moves weighs under a table: what the cells hold for its letters.
use mathlib.Core.Path.{◌≡◌, sym, ap, ◌∙◌}
use mathlib.Core.List.{List}
use Prim.Native.Nat.{ℕ}
use Rattle.model.specs.Word.{positive}
use Rattle.model.specs.Presentation.{Presentation}
use Rattle.model.proofs.Impossible.{same_answer}
use Rattle.cells.proofs.Rules.{of_few}
use Rattle.images.specs.Programs.{ForwardMeasured}
use Rattle.images.proofs.RoundTrip.{program_in_range}
use Rattle.images.proofs.Measuring.{cells_weigh_lem}
use Rattle.loading.specs.Weighing.{Weighs}

pub measured_weighs : (cells : List ℕ) (size : ℕ) (program : List ℕ) (count weight : ℕ) → ForwardMeasured program cells size count weight
    → Weighs cells size program weight
measured_weighs cells size program count weight m T o u e =
    let w = m.forward.word in
    let same : w ≡ u = same_answer w u (sym m.forward.read ∙ e) in
    m.weight_is
    ∙ (cells_weigh_lem program cells size T o w (program_in_range size (of_few o) program (positive w) m.forward.read_signed).letters
    ∙ ap (Rattle.model.specs.Presentation.weigh T) same)
