-- A program laid at the workspace's end, read forward or backward.
use mathlib.Core.Path.{◌≡◌, refl, sym, ap, ap₂, subst, ◌∙◌}
use mathlib.Core.List.{List, ◌++◌, reverse, append-nil}
use mathlib.Core.Bool.{Bool, true, false}
use Prim.Native.Nat.{ℕ, ◌+◌, ◌-◌, ◌^◌, ◌<◌}
use native.Mathlib.Omega.{arith}
use borrow.Rule.Slice.PartMut.{put_mid}
use lib.ListN.{length, take, drop, length-drop, length-map, length-reverse}
use lib.Seq.{take_at, length-take-le, take_all, drop-length}
use Rattle.model.specs.Word.{Word, byte}
use Rattle.model.specs.Range.{LetterInRange, ProgramInRange}
use Rattle.model.specs.Presentation.{Presentation}
use Rattle.model.specs.Outcome.{answered}
use Rattle.model.specs.Images.{count_width, read_program}
use Rattle.model.specs.Plain.{plain_program}
use Rattle.model.specs.Areas.{written}
use Rattle.model.proofs.Lists.{all_reverse}
use Rattle.model.proofs.Words.{map_reverse}
use Rattle.model.proofs.Impossible.{same_answer}
use Rattle.images.specs.Programs.{Accepted}
use Rattle.images.proofs.RoundTrip.{program_in_range}
use Rattle.cells.specs.Stands.{Of}
use Rattle.areas.proofs.Parts.{part_back}
use Rattle.loading.specs.Reversing.{faced, FacedAtEnd, LoadedWord}
use Rattle.loading.proofs.Programs.{written_end, word_loaded, word_searched, word_served}

-- a word read backward has the same letters
pub faced_length : (backward : Bool) (w : Word) → length (faced backward w) ≡ length w
faced_length true w = length-reverse w
faced_length false w = refl

pub faced_in_range : (backward : Bool) (n : ℕ) (w : Word) → ProgramInRange n w → ProgramInRange n (faced backward w)
faced_in_range true n w p =
    record { short = subst (λ k. k < 2 ^ count_width) (sym (length-reverse w)) p.short; letters = all_reverse (LetterInRange n) w p.letters }
faced_in_range false n w p = p

-- the part of an area that a word fills to the end was lent, turned around and is back
pub backward_word : (area mid part : List ℕ) (w : Word) (right : ℕ) → right + length w ≡ length area → length mid ≡ length area
    → mid ≡ written area right (plain_program w)
    → part ≡ reverse (take (length mid - right) (drop right mid))
    → put_mid right (length mid - right) mid part ≡ written area right (plain_program (reverse w))
backward_word area mid part w right fit long e p =
    let bytes = plain_program (reverse w) in
    let filled : right + length (plain_program w) ≡ length area = ap (λ k. right + k) (length-map w byte) ∙ fit in
    let ends : right + length bytes ≡ length area = ap (λ k. right + k) (length-map (reverse w) byte ∙ length-reverse w) ∙ fit in
    let whole : take (length mid - right) (drop right mid) ≡ drop right mid =
    take_all (length mid - right) (drop right mid) (omega (arith, length-drop right mid)) in
    let turned : part ≡ bytes =
    p ∙ (ap reverse (whole ∙ (ap (drop right) e ∙ written_end area (plain_program w) right filled)) ∙ sym (map_reverse byte w)) in
    let front : take right mid ≡ take right area =
    ap (take right) e
    ∙ take_at (take right area) (plain_program w ++ drop (right + length (plain_program w)) area) right (length-take-le right area (omega (arith, fit))) in
    let none : bytes ++ drop (right + length bytes) area ≡ bytes =
    ap (λ k. bytes ++ drop k area) ends ∙ (ap (λ l. bytes ++ l) (drop-length area) ∙ append-nil bytes) in
    part_back right mid part (omega (arith, fit, long)) ∙ ap₂ (λ l r. l ++ r) front (turned ∙ sym none)

-- a program that was accepted and loaded so
module _ (size : ℕ) (program : List ℕ) (count : ℕ) (q : Accepted program size count) (backward : Bool) (w : Word)
    (e : read_program size program ≡ answered w) where
  pub faced_count : length (faced backward w) ≡ count
  faced_count = faced_length backward w ∙ (ap length (same_answer w q.program.word (sym e ∙ q.program.read)) ∙ q.program.count_is)

  pub faced_ready : (before after : List ℕ) (right : ℕ) → right + count ≡ length before → FacedAtEnd backward size program before right after
      → (cells : List ℕ) (T : Presentation) → Of cells size T → LoadedWord cells T (faced backward w) after 0 right
  faced_ready before after right fit f cells T o =
      let v = faced backward w in
      let p = faced_in_range backward size w (program_in_range size q.few program w e) in
      let ends = ap (λ k. right + k) faced_count ∙ fit in
      subst (λ l. LoadedWord cells T v l 0 right) (sym (f.bytes w e))
      (record {
        word = word_loaded cells size T o v p before right ends;
        searched = word_searched cells size T o v p before right ends;
        serves = word_served cells size T o v p before right ends;
      })
