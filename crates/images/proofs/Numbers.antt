-- A field that a reader takes, and one that says a number: each gives the answer or the refusal of reading the bits.
use mathlib.Core.Path.{◌≡◌, sym, ap, ◌∙◌}
use mathlib.Core.List.{List}
use mathlib.Core.Bool.{◌||◌}
use Prim.Native.Nat.{ℕ, ◌-◌, ◌≤◌, ◌<◌}
use borrow.Author.Tests.{lt-ltb, le-ltb, le-leb, lt-leb}
use lib.Dec.{ltb, leb}
use lib.ListN.{length, take, drop}
use Rattle.model.specs.Outcome.{unplaced, Outcome, answered, refused, ◌>>=◌, unless}
use Rattle.model.specs.Bits.{Read, field, number}
use Rattle.images.specs.Forms.{number_in}
use Rattle.images.specs.BitReader.{TakenAt, TakenDone}
use Rattle.images.specs.declared.fields.FieldFault.{FieldFault}
use Rattle.images.specs.declared.fields.FieldFault.TheVariants.{Ends}
use Rattle.images.proofs.Failing.{or_ok, or_err}
use Rattle.std.specs.Prelude.{Ok, Err}
use Rattle.std.specs.declared.option.Option.{Option}
use Rattle.std.specs.Option.{ok_or}

module _ (early width : ℕ) (before : List ℕ) where
  pub field_taken : (v : ℕ) (after : List ℕ) → TakenAt before width v after → field early width before ≡ answered (record { value = v; rest = after })
  unfolding field
  field_taken v after t =
      ap (λ t. unless t early (record { value = number 0 (take width before); rest = drop width before })) (le-ltb (length before) width t.inside)
      ∙ (ap (λ v. answered (record { value = v; rest = drop width before })) (sym t.value_is)
      ∙ ap (λ r. answered (record { value = v; rest = r })) (sym t.after_is))

  pub field_short : length before < width → field early width before ≡ refused early unplaced
  unfolding field
  field_short h = ap (λ t. unless t early (record { value = number 0 (take width before); rest = drop width before })) (lt-ltb (length before) width h)

-- what a reader took, told of the result that is made of its answer
module _ (width : ℕ) (before after : List ℕ) (o : Option ℕ) (t : TakenDone before width o after) where
  pub was_taken : (v : ℕ) → ok_or o Ends ≡ Ok v → TakenAt before width v after
  was_taken v e = or_ok Ends (λ o. TakenDone before width o after) o t v e

  pub was_short : (f : FieldFault) → ok_or o Ends ≡ Err f → ((length before < width) × (after ≡ before)) × (f ≡ Ends)
  was_short f e = or_err Ends (λ o. TakenDone before width o after) o t f e

  pub field_read : (early v : ℕ) → ok_or o Ends ≡ Ok v → field early width before ≡ answered (record { value = v; rest = after })
  field_read early v e = field_taken early width before v after (was_taken v e)

module _ (width low many : ℕ) (bits : List ℕ) where
  number_of : Outcome (Read ℕ) → Outcome (Read ℕ)
  number_of o = o >>= λ r. unless (ltb r.value low || leb many (r.value - low)) 2 (record { value = r.value - low; rest = r.rest })

  pub number_ends : field 1 width bits ≡ refused 1 unplaced → number_in width low many bits ≡ refused 1 unplaced
  unfolding number_of
  number_ends e = ap number_of e

  module _ (v : ℕ) (rest : List ℕ) (e : field 1 width bits ≡ answered (record { value = v; rest = rest })) where
    pub number_below : v < low → number_in width low many bits ≡ refused 2 unplaced
    unfolding number_of
    number_below h = ap number_of e ∙ ap (λ t. unless (t || leb many (v - low)) 2 (record { value = v - low; rest = rest })) (lt-ltb v low h)

    number_is : low ≤ v → number_in width low many bits ≡ unless (leb many (v - low)) 2 (record { value = v - low; rest = rest })
    unfolding number_of
    number_is h = ap number_of e ∙ ap (λ t. unless (t || leb many (v - low)) 2 (record { value = v - low; rest = rest })) (le-ltb v low h)

    pub number_above : low ≤ v → many ≤ v - low → number_in width low many bits ≡ refused 2 unplaced
    number_above h g = number_is h ∙ ap (λ t. unless t 2 (record { value = v - low; rest = rest })) (le-leb many (v - low) g)

    pub number_said : low ≤ v → v - low < many → number_in width low many bits ≡ answered (record { value = v - low; rest = rest })
    number_said h g = number_is h ∙ ap (λ t. unless t 2 (record { value = v - low; rest = rest })) (lt-leb many (v - low) g)
