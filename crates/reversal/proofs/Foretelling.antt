-- What an enquiry says of reverse and of commit: first of an ending, then of the images.
use mathlib.Core.Path.{◌≡◌, refl, sym, ap, ap₂, ◌∙◌}
use mathlib.Core.List.{List}
use mathlib.Core.Bool.{true, ◌&&◌, cond}
use Prim.Native.Nat.{ℕ, ◌+◌}
use native.Mathlib.Omega.{arith}
use borrow.Author.Tests.{eq-eqb, lt-ltb, le-ltb}
use lib.ListN.{length}
use Rattle.model.specs.Word.{Positive}
use Rattle.model.specs.Reversing.{Ending, finished, open_pair, stopped, reversing}
use Rattle.model.specs.Outcome.{unplaced, Outcome, answered, refused, ◌>>=◌, unless}
use Rattle.model.specs.Images.{read_program}
use Rattle.model.specs.Services.{read_table_with, Fraction, fraction_of, reverse, Sizes, sizes_of, enquire, agree, committed_of, commit}
use Rattle.model.proofs.Impossible.{impossible}
use Rattle.reversal.specs.Enquire.{Foretells, EnquireSays}

-- AN ENDING

agrees_with_itself : (z : Sizes) → agree z z ≡ true
agrees_with_itself z =
    ap₂ (λ s t. s && t) (eq-eqb z.numerator z.numerator refl)
    (ap₂ (λ s t. s && t) (eq-eqb z.denominator z.denominator refl) (eq-eqb z.steps z.steps refl))

module _ (area : ℕ) where
  module _ (n d : Positive) (k r : ℕ) where
    abbrev own : Sizes
    own = record { numerator = length n; denominator = length d; steps = k }

    abbrev fraction : Fraction
    fraction = record { numerator = n; denominator = d; steps = k }

    -- with its own numbers commit is reverse
    own_committed : (z : Sizes) → answered own ≡ answered z → committed_of z area (finished n d k r) ≡ fraction_of area (finished n d k r)
    own_committed z e =
        let same : own ≡ z = cc in
        ap (λ y. cond (agree y own) (fraction_of area (finished n d k r)) (refused 18 unplaced)) (sym same)
        ∙ ap (λ t. cond t (fraction_of area (finished n d k r)) (refused 18 unplaced)) (agrees_with_itself own)

    both_lengths : (z : Sizes) → ◌≡◌ {A = Outcome Sizes} (answered own) (answered z) → z.numerator + z.denominator ≡ length n + length d
    both_lengths z e =
        let same : own ≡ z = cc in
        ap₂ (λ i j. i + j) (ap (λ y. y.numerator) (sym same)) (ap (λ y. y.denominator) (sym same))

  pub of_ending : (e : Ending) → Foretells (sizes_of e) area (fraction_of area e) (λ z. committed_of z area e)
  of_ending (finished n d k r) =
      record {
        answers = λ z h fits.
            let same : own n d k r ≡ z = cc in
            let reversed = ap (λ t. unless t 13 (fraction n d k r)) (le-ltb area (length n + length d) (omega (arith, both_lengths n d k r z h))) in
            (fraction n d k r, same, reversed, own_committed n d k r z h ∙ reversed);
        short_area = λ z h short.
            let reversed = ap (λ t. unless t 13 (fraction n d k r)) (lt-ltb area (length n + length d) (omega (arith, both_lengths n d k r z h))) in
            (reversed, own_committed n d k r z h ∙ reversed);
        refuses = λ i place h. impossible (cc);
      }
  of_ending (open_pair a b k) =
      record { answers = λ z h. impossible (cc); short_area = λ z h. impossible (cc); refuses = λ i place h. (cc, λ z. cc) }
  of_ending (stopped s) =
      record { answers = λ z h. impossible (cc); short_area = λ z h. impossible (cc); refuses = λ i place h. (cc, λ z. cc) }

  -- THE IMAGES

  after : {A : Type 0} (o : Outcome A) (f : A → Outcome Sizes) (g : A → Outcome Fraction) (h : A → Sizes → Outcome Fraction)
      → ((x : A) → Foretells (f x) area (g x) (h x)) → Foretells (o >>= f) area (o >>= g) (λ z. o >>= λ x. h x z)
  after (answered x) f g h p = p x
  after (refused n place) f g h p =
      record { answers = λ z e. impossible (cc); short_area = λ z e. impossible (cc); refuses = λ i there e. (cc, λ z. cc) }

pub foretells : (table program : List ℕ) (budget room : ℕ) → EnquireSays table program budget room (enquire table program budget room)
unfolding reverse enquire commit
foretells table program budget room area =
    after area (read_table_with read_program table program) _ _ _ (λ l. of_ending area (reversing l.table budget room l.word))
