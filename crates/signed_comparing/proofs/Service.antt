-- The comparison after what comes before it, and the outcome of compare_signed after its reading.
use mathlib.Core.Path.{◌≡◌, refl, sym, ap, subst, ◌∙◌}
use mathlib.Core.List.{List, ◌++◌}
use Prim.Native.Nat.{ℕ}
use lib.ListN.{length}
use Rattle.std.specs.Prelude.{Result, Ok, Err}
use Rattle.model.specs.Word.{Word, inverse}
use Rattle.model.specs.Presentation.{Presentation}
use Rattle.model.specs.Enumeration.{triples}
use Rattle.model.specs.Reversing.{Ending, finished, open_pair, stopped, reversing}
use Rattle.model.specs.Outcome.{Outcome, answered, refused, ◌>>=◌, mapped}
use Rattle.model.specs.Checks.{cube_check, cleared}
use Rattle.model.specs.Mirror.{mirror, mirror_check}
use Rattle.model.specs.Images.{read_table, read_program}
use Rattle.model.specs.Services.{of_mirror, forward_verdict, Images, read_images}
use Rattle.model.specs.Signed.{SignedVerdict, grown_set, after_first, signed_of, signed_comparison, compare_signed}
use Rattle.model.specs.Stated.{refusal, stop_refusal, compared, compared_signed}
use Rattle.model.specs.declared.answers.Stop.{Stop as StopAnswer}
use Rattle.model.specs.declared.answers.Pair.{Pair}
use Rattle.model.specs.declared.answers.Ending.TheVariants.{Finished, Undefined, Stopped}
use Rattle.model.specs.declared.answers.Refusal.{Refusal}
use Rattle.model.specs.declared.answers.Refusal.TheVariants.{OpenPair}
use Rattle.model.specs.declared.answers.Compared.{Compared}
use Rattle.model.specs.declared.answers.Compared.TheVariants.{Same, Different}
use Rattle.model.proofs.Outcomes.{still_refused, goes_on}
use Rattle.theory.specs.Signed.{ComparisonSigned}
use Rattle.theory.proofs.SignedComparison.{comparison_signed}
use Rattle.images.proofs.RoundTrip.{table_in_range, program_in_range}
use Rattle.engine.specs.Run.{LeavesLetters, Reverses}
use Rattle.engine.proofs.Ended.{done, finishable, met, halted, stop_numbered}
use Rattle.cells.specs.Stands.{Stands}
use Rattle.loading.proofs.Early.{program_early}
use Rattle.loading.proofs.Late.{Late, late_refusal, late_mapped, late_stop}
use Rattle.loading.proofs.Outcomes.{AsFound}
use Rattle.loading.proofs.Reading.{images_refused, images_run}
use Rattle.comparing.proofs.Comparing.{forward_late}
use Rattle.signed_comparing.specs.Preparing.{prepared}
use Rattle.signed_comparing.specs.Fraction.{Left}
use Rattle.signed_comparing.specs.Service.{after_first_as, SignedSays}

-- THE SECOND REVERSING

pub after_stated : (k : ℕ) (c : Result Compared Refusal) → compared_signed (after_first_as k c) ≡ mapped (after_first k) (compared c)
after_stated k (Ok (Same j r)) = refl
after_stated k (Ok (Different j)) = refl
after_stated k (Err r) = refl

module _ (cells : List ℕ) (T : Presentation) (s : Stands cells T) (word : Word) (budget : ℕ) (workspace : List ℕ) where
  -- what a finished reversing left
  pub left_of : (n d k r : ℕ) (p : Reverses T word budget workspace (Finished n d k r)) → Left cells workspace n d T (done T word budget workspace n d k r p).N
      (done T word budget workspace n d k r p).D
  left_of n d k r p =
      let q = done T word budget workspace n d k r p in
      record {
        stands = s;
        inside = finishable T word budget workspace (Finished n d k r) p;
        n_long = q.n_length;
        d_long = q.d_length;
        word = q.stands;
        named = subst (LeavesLetters T.size) q.is p.named;
      }

module _ (T : Presentation) (word : Word) (budget : ℕ) (workspace : List ℕ) where
  pub settled_finished : (n d k r : ℕ) (p : Reverses T word budget workspace (Finished n d k r)) (c : Result Compared Refusal)
      → compared c ≡ forward_verdict T (done T word budget workspace n d k r p).N (done T word budget workspace n d k r p).D budget (length workspace)
      → compared_signed (after_first_as k c) ≡ signed_of T budget (length workspace) (reversing T budget (length workspace) word)
  settled_finished n d k r p c e =
      let q = done T word budget workspace n d k r p in
      after_stated k c ∙ ap (mapped (after_first k)) e ∙ ap (signed_of T budget (length workspace)) (sym q.is)

  pub settled_open : (p : Pair) (k : ℕ) → Reverses T word budget workspace (Undefined p k) → compared_signed (Err (OpenPair p)) ≡ signed_of T budget
      (length workspace) (reversing T budget (length workspace) word)
  settled_open p k q = sym (ap (signed_of T budget (length workspace)) (met T word budget workspace p k q))

  pub settled_stopped : (s : StopAnswer) → Reverses T word budget workspace (Stopped s) → compared_signed (Err (stop_refusal s)) ≡ signed_of T budget
      (length workspace) (reversing T budget (length workspace) word)
  settled_stopped s q =
      let h = halted T word budget workspace s q in
      ap (λ x. compared_signed (Err (stop_refusal x))) (sym h.told) ∙ stop_numbered h.stop ∙ ap (signed_of T budget (length workspace))
      (sym h.is)

-- THE WORKSPACE

-- whatever comes of the reversings, the work has begun
pub signed_late : (T : Presentation) (budget room : ℕ) (e : Ending) → Late (signed_of T budget room e)
signed_late T budget room (finished n d k r) = late_mapped (after_first k) _ (forward_late T n d budget room)
signed_late T budget room (open_pair a b k) = late_refusal refl
signed_late T budget room (stopped s) = late_stop s

-- THE WHOLE COMPARISON

-- the checks and the set in a row, then the rest
regrouped : {A B C D E : Type 0} (a : Outcome A) (b : Outcome B) (c : Outcome C) (g : Outcome D) (rest : Outcome E)
    → ((a >>= λ x. b >>= λ y. c >>= λ z. mapped (λ (v : D). tt {0}) g) >>= λ ok. rest) ≡ (a >>= λ x. b >>= λ y. c >>= λ z. g >>= λ v. rest)
regrouped (answered x) (answered y) (answered z) (answered v) rest = refl
regrouped (answered x) (answered y) (answered z) (refused n p) rest = refl
regrouped (answered x) (answered y) (refused n p) g rest = refl
regrouped (answered x) (refused n p) c g rest = refl
regrouped (refused n p) b c g rest = refl

module _ (T : Presentation) (w v : Word) (budget room : ℕ) where
  abbrev rest : Outcome SignedVerdict
  rest = signed_of T budget room (reversing T budget room (inverse w ++ v))

  begins_prepared : signed_comparison T w v budget room ≡ (prepared T budget room >>= λ ok. rest)
  unfolding signed_comparison prepared
  begins_prepared = sym (regrouped (mirror_check T) (cleared T budget room) (of_mirror (cube_check (mirror T) budget room (triples T.size)))
      (grown_set T budget room) rest)

  pub signed_refused : (r : Refusal) → refusal r ≡ prepared T budget room → refusal r ≡ signed_comparison T w v budget room
  signed_refused r e = sym (begins_prepared ∙ still_refused (prepared T budget room) r (sym e) (λ ok. rest))

  pub signed_runs : answered tt ≡ prepared T budget room → signed_comparison T w v budget room ≡ rest
  signed_runs e = begins_prepared ∙ goes_on (prepared T budget room) tt (sym e) (λ ok. rest)

-- THE SERVICE

module _ (table first second : List ℕ) (budget room : ℕ) where
  abbrev judges : Images Word → Outcome SignedVerdict
  judges p = signed_comparison p.table p.first p.second budget room

  pub read_refused : (r : Refusal) → read_images read_program table first second ≡ refusal r → AsFound (compare_signed table first second budget room) r
  unfolding compare_signed
  read_refused = images_refused read_program table first second judges program_early

  pub compare_runs : (T : Presentation) (w v : Word) → read_table table ≡ answered T → read_program T.size first ≡ answered w
      → read_program T.size second ≡ answered v
      → compare_signed table first second budget room ≡ signed_comparison T w v budget room
  unfolding compare_signed
  compare_runs = images_run read_program table first second judges

  -- what the answer says
  pub says : (o : Outcome SignedVerdict) → o ≡ compare_signed table first second budget room → SignedSays table first second budget room o
  says o e T t w v ew ev =
      let r = table_in_range table T t in
      subst (ComparisonSigned T w v budget room) (sym (e ∙ compare_runs T w v t ew ev))
      (comparison_signed T r budget room w v (program_in_range T.size r.few first w ew).letters
      (program_in_range T.size r.few second v ev).letters)
