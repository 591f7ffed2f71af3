-- Two forward programs loaded for a comparison: the inverse of the first at the workspace's start, the second at its end.
use mathlib.Core.Path.{◌≡◌, sym, ap, subst, ◌∙◌}
use mathlib.Core.List.{List, ◌++◌}
use Prim.Native.Nat.{ℕ, ◌+◌, ◌-◌, ◌≤◌, ◌<◌}
use native.Mathlib.Omega.{arith}
use lib.ListN.{length, take, drop, length-append, length-take, length-drop, length-map}
use lib.Seq.{take_at, take-append-le, take-take}
use Rattle.model.specs.Word.{Word, Positive, positive, negative, inverse, byte}
use Rattle.model.specs.Presentation.{Presentation}
use Rattle.model.specs.Outcome.{answered}
use Rattle.model.specs.Images.{read_program, most_size}
use Rattle.model.specs.Plain.{plain_program}
use Rattle.model.specs.declared.answers.Ending.TheVariants.{Stopped}
use Rattle.model.specs.declared.answers.Stop.TheVariants.{Room}
use Rattle.model.specs.Range.{ProgramInRange, Lettered}
use Rattle.model.specs.Services.{read_forward}
use Rattle.model.proofs.Impossible.{same_answer}
use Rattle.images.specs.Programs.{ForwardOf}
use Rattle.model.specs.Areas.{written}
use Rattle.images.proofs.RoundTrip.{program_in_range}
use Rattle.engine.specs.Gap.{letters}
use Rattle.cells.specs.Stands.{Of}
use Rattle.engine.specs.Run.{Reverses}
use Rattle.engine.proofs.Lettering.{length_positive, length_negative}
use Rattle.engine.proofs.Loads.{loaded, load_searched, load_serves}
use Rattle.engine.specs.Words.{Inverted}
use Rattle.cells.proofs.Rules.{of_few}
use Rattle.loading.specs.Reversing.{LoadedPrograms}
use Rattle.loading.proofs.Programs.{byte_letters, written_end, too_long}

module _ (cells : List ℕ) (size : ℕ) (T : Presentation) (o : Of cells size T) (u v : Positive) (pu : ProgramInRange size (positive u))
    (pv : ProgramInRange size (positive v))
    (start turned : List ℕ) (firsts seconds : ℕ) (um : length u ≡ firsts) (vn : length v ≡ seconds) (fit : firsts + seconds ≤ length start)
    (i : Inverted (written start 0 (plain_program (positive u))) firsts turned) where
  abbrev unpacked : List ℕ
  unpacked = written start 0 (plain_program (positive u))

  abbrev pub both : List ℕ
  both = written turned (length start - seconds) (plain_program (positive v))

  few : size ≤ most_size
  few = of_few o

  plain_length : (w : Positive) → length (plain_program (positive w)) ≡ length w
  plain_length w = length-map (positive w) byte ∙ length_positive w

  unpacked_length : length unpacked ≡ length start
  unpacked_length =
      simp (length-append, length-drop, length-map) (omega (arith, um, fit))

  turned_length : length turned ≡ length start
  turned_length = i.same_length ∙ unpacked_length

  first_letters : letters (take firsts unpacked) ≡ positive u
  first_letters =
      ap letters (take_at (plain_program (positive u)) (drop (0 + length (plain_program (positive u))) start) firsts (plain_length u ∙ um))
      ∙ byte_letters size few (positive u) pu.letters

  front : take firsts both ≡ take firsts turned
  front =
      let k : firsts ≤ length (take (length start - seconds) turned) = simp length-take (omega (arith, turned_length, fit)) in
      take-append-le firsts (take (length start - seconds) turned)
      (plain_program (positive v) ++ drop (length start - seconds + length (plain_program (positive v))) turned) k
      ∙ take-take firsts (length start - seconds) turned (omega (arith, fit))

  left_word : letters (take firsts both) ≡ negative u
  left_word = ap letters front ∙ (i.inverted ∙ ap inverse first_letters)

  right_word : letters (drop (length start - seconds) both) ≡ positive v
  right_word =
      ap letters (written_end turned (plain_program (positive v)) (length start - seconds) (omega (arith, plain_length v, vn, turned_length, fit)))
      ∙ byte_letters size few (positive v) pv.letters

  pub both_length : length both ≡ length start
  both_length =
      simp (length-append, length-take, length-drop, length-map) (omega (arith, turned_length, vn, fit))

  named : (w : Positive) → ProgramInRange size (positive w) → Lettered T.size (positive w)
  named w p = subst (λ k. Lettered k (positive w)) (sym o.sized) p.letters

  pub programs_loaded : LoadedPrograms cells T u v both firsts (length start - seconds)
  programs_loaded =
      record {
        word = loaded both firsts (length start - seconds) u v (omega (arith, fit)) (omega (arith, both_length)) left_word right_word;
        searched = load_searched both firsts (length start - seconds) u v (omega (arith, fit)) (omega (arith, both_length)) left_word right_word;
        serves =
            load_serves both firsts (length start - seconds) u v (omega (arith, fit)) (omega (arith, both_length)) left_word right_word o.stands (named u pu)
            (named v pv);
      }

-- what is accepted as a program of so many forward letters has so many
pub forward_count : (size : ℕ) (program : List ℕ) (count : ℕ) → ForwardOf program size count → (u : Positive) → read_forward size program ≡ answered u
    → length u ≡ count
forward_count size program count p u e = ap length (same_answer u p.word (sym e ∙ p.read)) ∙ p.count_is

-- programs that do not fit together
pub pair_too_long : (T : Presentation) (u v : Positive) (budget : ℕ) (area : List ℕ) → length area < length u + length v
    → Reverses T (negative u ++ positive v) budget area (Stopped Room)
pair_too_long T u v budget area h =
    too_long T (negative u ++ positive v) budget area
    (simp (length-append, length_negative, length_positive) h)

-- from what the three writes of `load_programs` promise
pub loads_pair : (cells : List ℕ) (size : ℕ) (T : Presentation) → Of cells size T → (u v : Positive) (first second : List ℕ) (firsts seconds : ℕ)
    → size ≤ most_size
    → (one : ForwardOf first size firsts) (two : ForwardOf second size seconds) → one.word ≡ u → two.word ≡ v
    → (start loaded_first turned last : List ℕ) → firsts + seconds ≤ length start
    → ((w : Word) → read_program size first ≡ answered w → loaded_first ≡ written start 0 (plain_program w)) → Inverted loaded_first firsts turned
    → ((w : Word) → read_program size second ≡ answered w → last ≡ written turned (length start - seconds) (plain_program w))
    → LoadedPrograms cells T u v last firsts (length start - seconds)
loads_pair cells size T o u v first second firsts seconds few one two eu ev start loaded_first turned last fit w₁ i w₂ =
    let ru : read_program size first ≡ answered (positive u) = one.read_signed ∙ ap (λ x. answered (positive x)) eu in
    let rv : read_program size second ≡ answered (positive v) = two.read_signed ∙ ap (λ x. answered (positive x)) ev in
    let pu = program_in_range size few first (positive u) ru in
    let pv = program_in_range size few second (positive v) rv in
    let i' = subst (λ l. Inverted l firsts turned) (w₁ (positive u) ru) i in
    subst (λ l. LoadedPrograms cells T u v l firsts (length start - seconds)) (sym (w₂ (positive v) rv))
    (programs_loaded cells size T o u v pu pv start turned firsts seconds (ap length (sym eu) ∙ one.count_is) (ap length (sym ev) ∙ two.count_is) fit i')
