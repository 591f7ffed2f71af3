-- Those of the bytes that were passed are counted.
use Rattle.std.proofs.Common.{◌≡◌, ◌≤◌, take}
use Rattle.std.specs.Prelude.{not, count_by}
use Rattle.model.specs.Plain.{names_letter}
use Rattle.plain_forms.proofs.reading.unnamed.Given as goal

abbrev pub invariant-loop-x : goal.invariant-loop-x
invariant-loop-x l = (l.others ≡ count_by (λ x. not (names_letter l.size x)) (take l.x-index l.plain)) × (l.others ≤ l.x-index)
