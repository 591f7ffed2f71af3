-- What holds of an option or a result, told of the result that is made of it; and the refusal of a fault.
use Rattle.std.proofs.Common.{◌≡◌, Some, None, Ok, Err, subst}
use Rattle.std.specs.declared.option.Option.{Option}
use Rattle.std.specs.declared.result.Result.{Result}
use Rattle.std.specs.Option.{ok_or}
use Rattle.std.specs.Result.{MatchResult, IsErrAnd}
use Rattle.std.proofs.lemmas.Result.{err_from_is_err_and}
use Rattle.model.specs.Outcome.{Outcome, unplaced, refused}
use Rattle.model.specs.Stated.{refusal}
use Rattle.images.specs.Fields.{fault_code, image_refusal, table_refusal}
use Rattle.images.specs.declared.fields.FieldFault.{FieldFault}
use Rattle.images.specs.declared.fields.FieldFault.TheVariants.{Ends, Wrong}

-- `ok_or`
module _ {A E : Type 0} (fault : E) (P : Option A → Type 0) where
  pub or_ok : (o : Option A) → P o → (x : A) → ok_or o fault ≡ Ok x → P (Some x)
  or_ok None p x e = cc
  or_ok (Some y) p x e = let same : Some y ≡ Some x = cc in subst P same p

  pub or_err : (o : Option A) → P o → (f : E) → ok_or o fault ≡ Err f → P None × (f ≡ fault)
  or_err None p f e = (p, cc)
  or_err (Some y) p f e = cc

-- `map_err`
module _ {A E F : Type 0} (tell : E → F) (P : Result A E → Type 0) where
  pub mapped_ok : (r : Result A E) (m : Result A F) → MatchResult r (λ x. m ≡ Ok x) (λ e. IsErrAnd m (λ f. f ≡ tell e)) → P r → (x : A) → m ≡ Ok x → P (Ok x)
  mapped_ok (Ok y) m h p x e = let same : Ok y ≡ Ok x = cc in subst P same p
  mapped_ok (Err y) m h p x e = let q = err_from_is_err_and m h in cc (q.1)

  pub mapped_err : (r : Result A E) (m : Result A F) → MatchResult r (λ x. m ≡ Ok x) (λ e. IsErrAnd m (λ f. f ≡ tell e)) → P r → (f : F) → m ≡ Err f
      → (e : E) × (f ≡ tell e) × P (Err e)
  mapped_err (Ok y) m h p f e = cc
  mapped_err (Err y) m h p f e = let q = err_from_is_err_and m h in (y, cc (q.1, q.2), p)

pub image_code : {A : Type 0} (f : FieldFault) (o : Outcome A) → o ≡ refused (fault_code 4 5 f) unplaced → o ≡ refusal (image_refusal f)
image_code Ends o e = e
image_code Wrong o e = e

pub table_code : {A : Type 0} (f : FieldFault) (o : Outcome A) → o ≡ refused (fault_code 1 2 f) unplaced → o ≡ refusal (table_refusal f)
table_code Ends o e = e
table_code Wrong o e = e
