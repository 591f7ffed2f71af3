-- A program without back letters is read as its numbers. One with a back letter is refused with 7.
use mathlib.Core.Path.{◌≡◌, refl, sym, ap, ◌∙◌}
use mathlib.Core.List.{List, [], ◌∷◌}
use mathlib.Core.Bool.{Bool, true, false, not}
use Prim.Native.Nat.{ℕ}
use native.Mathlib.Omega.{arith}
use lib.ListN.{length, length-map}
use Rattle.model.specs.declared.answers.Refusal.{Refusal}
use Rattle.model.specs.Word.{forward, back, Word, Positive, positive, forwards}
use Rattle.model.specs.Outcome.{unplaced, Outcome, answered, refused, ◌>>=◌, unless}
use Rattle.model.specs.Images.{read_program}
use Rattle.model.specs.Services.{is_forward, read_forward}
use Rattle.model.specs.Stated.{refusal}
use Rattle.model.proofs.Outcomes.{still_refused}
use Rattle.images.specs.Programs.{ProgramOf, ForwardOf, cells_weigh, Measured, ForwardMeasured, MeasuredAs, read_as}
use Rattle.images.specs.declared.programs.Signs.{Signs}
use Rattle.images.specs.declared.programs.Signs.TheVariants.{Any, Forward}

pub positive_forwards : (w : Word) → is_forward w ≡ true → w ≡ positive (forwards w)
positive_forwards [] e = refl
positive_forwards (forward a ∷ w) e = ap (λ l. forward a ∷ l) (positive_forwards w e)
positive_forwards (back a ∷ w) e = absurd (let z : ◌≡◌ {A = ℕ} 0 1 = cc in omega arith)

module _ (image : List ℕ) (size : ℕ) where
  unfoldable forward_of : Word → Outcome Positive
  forward_of w = unless (not (is_forward w)) 7 (forwards w)

  pub forward_refused : (r : Refusal) → read_program size image ≡ refusal r → read_forward size image ≡ refusal r
  unfolding read_forward forward_of
  forward_refused r e = still_refused (read_program size image) r e forward_of

  pub refused_as : (s : Signs) (r : Refusal) → read_program size image ≡ refusal r → read_as s size image ≡ refusal r
  refused_as Any r e = e
  refused_as Forward r e = forward_refused r e

  module _ (count : ℕ) (p : ProgramOf image size count) where
    pub read_is : read_forward size image ≡ unless (not (is_forward p.word)) 7 (forwards p.word)
    unfolding read_forward forward_of
    read_is = ap (λ o. o >>= forward_of) p.read

    unfoldable pub forward_read : is_forward p.word ≡ true → ForwardOf image size count
    forward_read f =
        record {
          word = forwards p.word;
          read = read_is ∙ ap (λ t. unless (not t) 7 (forwards p.word)) f;
          read_signed = p.read ∙ ap answered (positive_forwards p.word f);
          count_is = sym (ap length (positive_forwards p.word f) ∙ length-map (forwards p.word) forward) ∙ p.count_is;
        }

    pub back_read : is_forward p.word ≡ false → read_forward size image ≡ refused 7 unplaced
    back_read f = read_is ∙ ap (λ t. unless (not t) 7 (forwards p.word)) f

    -- with its weight
    forward_measured : (cells : List ℕ) (weight : ℕ) → weight ≡ cells_weigh cells p.word → is_forward p.word ≡ true
        → ForwardMeasured image cells size count weight
    unfolding forward_read
    forward_measured cells weight e f = record { forward = forward_read f; weight_is = e ∙ ap (cells_weigh cells) (positive_forwards p.word f) }

  -- a program of forward moves is taken by every service
  pub measured_as : (count : ℕ) (cells : List ℕ) (all : Bool) (weight : ℕ) → Measured image cells size count all weight → all ≡ true
      → (s : Signs) → MeasuredAs s image cells size count all weight
  measured_as count cells all weight m f Any = m
  measured_as count cells all weight m f Forward = forward_measured count m.program cells weight m.weight_is (sym m.forward_is ∙ f)
