-- What the answer of reverse tells of its outcome.
use mathlib.Core.Path.{◌≡◌, refl, sym, ap}
use Prim.Native.Nat.{ℕ}
use lib.ListN.{length}
use Rattle.model.specs.Outcome.{Outcome, answered, refused, mapped}
use Rattle.model.specs.Services.{sizes, Fraction}
use Rattle.model.specs.Stated.{refusal}
use Rattle.model.specs.declared.answers.Refusal.{Refusal}
use Rattle.model.proofs.Impossible.{impossible}

-- the outcome whose sizes a refusal states
pub mapped_refused : (o : Outcome Fraction) (r : Refusal) → refusal r ≡ mapped sizes o → o ≡ refusal r
mapped_refused (answered f) r e = impossible (cc)
mapped_refused (refused k place) r e = cc

-- the fraction whose sizes an answer states
pub record Sized (o : Outcome Fraction) (n d k : ℕ) : Type 0 where
  pub fraction : Fraction
  pub is : o ≡ answered fraction
  pub numerator_length : length fraction.numerator ≡ n
  pub denominator_length : length fraction.denominator ≡ d
  pub steps_are : fraction.steps ≡ k

pub mapped_answered : (o : Outcome Fraction) (n d k : ℕ) → answered (record { numerator = n; denominator = d; steps = k }) ≡ mapped sizes o → Sized o n d k
mapped_answered (answered f) n d k e =
    let u : record { numerator = n; denominator = d; steps = k } ≡ sizes f = cc in
    record {
      fraction = f;
      is = refl;
      numerator_length = ap (λ s. s.numerator) (sym u);
      denominator_length = ap (λ s. s.denominator) (sym u);
      steps_are = ap (λ s. s.steps) (sym u);
    }
mapped_answered (refused i place) n d k e = impossible (cc)
