-- Checking a chain: the first program as it is loaded, what following the entries comes to, and the outcome of check after its readings.
use mathlib.Core.Path.{◌≡◌, refl, sym, ap, ap₂, ◌∙◌}
use mathlib.Core.List.{List, [], ◌∷◌, ◌++◌, append-nil}
use mathlib.Core.Bool.{Bool, cond}
use mathlib.Core.Option.{Option, none, some}
use Prim.Native.Nat.{ℕ, suc, ◌+◌, ◌-◌, ◌≤◌}
use native.Mathlib.Omega.{arith}
use lib.Dec.{ltb}
use lib.ListN.{length, take, drop, replicate}
use lib.Seq.{drop-length}
use Rattle.model.specs.Word.{Word, Positive, positive}
use Rattle.model.specs.Presentation.{Presentation}
use Rattle.model.specs.Equivalence.{Entry, equal, applied, Joined}
use Rattle.model.specs.Outcome.{Outcome, answered, ◌>>=◌}
use Rattle.model.specs.Images.{read_program, read_chain}
use Rattle.model.specs.Plain.{plain_program}
use Rattle.model.specs.Services.{Passage, joins, ends_elsewhere, read_forward, followed_by, followed, passage, check, Images, read_images}
use Rattle.model.specs.Areas.{Compares, workspace_after, written}
use Rattle.model.specs.Stated.{refusal}
use Rattle.model.specs.declared.answers.Refusal.{Refusal}
use Rattle.model.proofs.Impossible.{answer_of, impossible}
use Rattle.model.proofs.Words.{plain_positive}
use Rattle.theory.specs.Passages.{Passes, arrives, broken, elsewhere, starts_long, grows_long}
use Rattle.model.proofs.Outcomes.{goes_on}
use Rattle.theory.proofs.Passages.{passage_exactly, passage_fits}
use Rattle.images.specs.Programs.{ForwardOf}
use Rattle.swaps.specs.Held.{held_at, Placed, Carried}
use Rattle.swaps.proofs.Applying.{held_length}
use Rattle.images.proofs.RoundTrip.{table_in_range, chain_image_of}
use Rattle.chain_check.specs.Check.{CheckSays, CheckPromise}
use Rattle.loading.proofs.Early.{chain_early}
use Rattle.loading.proofs.Late.{Late, late_answer, late_refusal, late_cond}
use Rattle.loading.proofs.Outcomes.{AsFound, reading_refused}
use Rattle.loading.proofs.Programs.{written_end}
use Rattle.loading.proofs.Reading.{programs_refused, programs_run}

module _ (area : List ℕ) (u : Positive) (right : ℕ) (fit : right + length u ≡ length area) where
  abbrev loaded : List ℕ
  loaded = written area right (plain_program (positive u))

  plain_length : length (plain_program (positive u)) ≡ length u
  plain_length = ap length (plain_positive u)

  loaded_word : held_at loaded 0 right ≡ u
  unfolding held_at
  loaded_word = written_end area (plain_program (positive u)) right (ap (λ k. right + k) plain_length ∙ fit) ∙ plain_positive u

-- a gap at the end: all letters stand before it
pub gathered : (bytes : List ℕ) (all right : ℕ) → right ≡ length bytes → held_at bytes all right ≡ take all bytes
unfolding held_at
gathered bytes all right e = ap (λ i. take all bytes ++ drop i bytes) e ∙ (ap (λ l. take all bytes ++ l) (drop-length bytes) ∙ append-nil (take all bytes))

-- after carrying all letters before the gap
ends_at : (after : List ℕ) (left right : ℕ) (carried : List ℕ) (all right' : ℕ) → Placed after left right → Carried after left right all carried right'
    → all ≡ left + (length after - right) → held_at after left right ≡ take all carried
ends_at after left right carried all right' p k e =
    sym k.word
    ∙ gathered carried all right'
    (omega (
      arith,
      held_length carried all right' k.placed,
      held_length after left right p,
      ap length k.word,
      k.same_length,
      k.placed.inside,
      p.inside,
      e,
    ))

-- so a comparison of all letters, brought together, is one of the word
pub arrived : (bytes : List ℕ) (left right : ℕ) (carried : List ℕ) (right' : ℕ) → Placed bytes left right
    → Carried bytes left right (left + (length bytes - right)) carried right' → (v : Positive) (same : Bool)
    → equal (take (left + (length bytes - right)) carried) v ≡ same
    → answered (cond same joins ends_elsewhere) ≡ answered (cond (equal (held_at bytes left right) v) joins ends_elsewhere)
arrived bytes left right carried right' p k v same e =
    sym (ap (λ t. answered (cond t joins ends_elsewhere))
    (ap (λ w. equal w v) (ends_at bytes left right carried (left + (length bytes - right)) right' p k refl) ∙ e))

module _ (T : Presentation) (room : ℕ) where
  -- following ends in an answer or in 12, after the work has begun
  entry_late : (k : ℕ) (go : Positive → Outcome Passage) → ((w : Positive) → Late (go w)) → (o : Option Positive) → Late (followed_by room k go o)
  entry_late k go h none = late_answer
  entry_late k go h (some w) = late_cond (ltb room (length w)) (late_refusal refl) (h w)

  followed_late : (es : List Entry) (k : ℕ) (u v : Positive) → Late (followed T room k u es v)
  unfolding followed
  followed_late [] k u v = late_answer
  followed_late (e ∷ es) k u v = entry_late k (λ w. followed T room (suc k) w es v) (λ w. followed_late es (suc k) w v) (applied T u e)

  module _ (u : Positive) (es : List Entry) (v : Positive) where
    pub passage_wipes : (area : List ℕ) → workspace_after (passage T room u es v) area ≡ replicate (length area) 0
    passage_wipes = (late_cond (ltb room (length u)) (late_refusal refl) (followed_late es 0 u v)).zero

    -- from the first program as it is loaded
    passed : (unpacked : List ℕ) (right : ℕ) → length unpacked ≡ room → held_at unpacked 0 right ≡ u → length u ≤ room
        → passage T room u es v ≡ followed T (length unpacked) 0 (held_at unpacked 0 right) es v
    passed unpacked right l held h = passage_fits T room u es v h ∙ ap₂ (λ w x. followed T w 0 x es v) (sym l) (sym held)

-- the first program, of so many letters, was laid at the area's end
module _ (image : List ℕ) (size count : ℕ) (f : ForwardOf image size count) (u : Positive) (read : read_forward size image ≡ answered u) (area laid : List ℕ)
    (inside : count ≤ length area) (same_length : length laid ≡ length area)
    (bytes : (w : Word) → read_program size image ≡ answered w → laid ≡ written area (length area - count) (plain_program w)) where
  word : f.word ≡ u
  word = cc (f.read, read)

  counted : length u ≡ count
  counted = ap length (sym word) ∙ f.count_is

  fit : length area - count + length u ≡ length area
  fit = omega (arith, counted, inside)

  pub passage_laid : (T : Presentation) (es : List Entry) (v : Positive)
      → followed T (length laid) 0 (held_at laid 0 (length area - count)) es v ≡ passage T (length area) u es v
  passage_laid T es v =
      let z = bytes (positive u) (f.read_signed ∙ ap (λ i. answered (positive i)) word) in
      sym (passed T (length area) u es v laid (length area - count) same_length
      (ap (λ l. held_at l 0 (length area - count)) z ∙ loaded_word area u (length area - count) fit) (omega (arith, counted, inside)))

-- THE SERVICE

module _ (table first second entries : List ℕ) (room : ℕ) where
  abbrev follows : Images Positive → Outcome Passage
  follows p = read_chain p.table.size entries >>= λ es. passage p.table room p.first es p.second

  check_refused : (r : Refusal) → read_images read_forward table first second ≡ refusal r → AsFound (check table first second entries room) r
  unfolding check
  check_refused = programs_refused table first second follows

  module _ (T : Presentation) (u v : Positive) (c : Compares table first second T u v) (size : ℕ) (sized : T.size ≡ size) where
    reads_chain : check table first second entries room ≡ (read_chain size entries >>= λ es. passage T room u es v)
    unfolding check
    reads_chain = programs_run table first second follows T u v c ∙ ap (λ i. read_chain i entries >>= λ es. passage T room u es v) sized

    check_no_chain : (r : Refusal) → read_chain size entries ≡ refusal r → AsFound (check table first second entries room) r
    check_no_chain r e = reading_refused _ (read_chain size entries) _ reads_chain r e 6 (chain_early size entries) (omega arith)

    pub check_runs : (es : List Entry) → read_chain size entries ≡ answered es → check table first second entries room ≡ passage T room u es v
    check_runs es e = reads_chain ∙ goes_on (read_chain size entries) es e _

  check_says : (o : Outcome Passage) → o ≡ check table first second entries room → CheckSays table first second entries room o
  check_says o e =
      record {
        joins_joined = λ h T u v c.
            let list = answer_of (read_chain T.size entries) (λ es. passage T room u es v) joins (sym (e ∙ reads_chain T u v c T.size refl) ∙ h) in
            joined T u v list.0 ((passage_exactly T room u list.0 v (answered joins)).0 list.2);
        exactly = λ T u v c es r o'. (
          λ h. (passage_exactly T room u es v o').0 (sym (is T u v c es r) ∙ h),
          λ p. is T u v c es r ∙ (passage_exactly T room u es v o').1 p,
        );
        one_image = λ T u v c bs es r. chain_image_of T.size (table_in_range table T c.table_read).few entries bs es r;
      }
    where
      is : (T : Presentation) (u v : Positive) → Compares table first second T u v → (es : List Entry) → read_chain T.size entries ≡ answered es
          → o ≡ passage T room u es v
      is T u v c es r = e ∙ check_runs T u v c T.size refl es r

      by : (T : Presentation) (u v : Positive) (es : List Entry) (o : Outcome Passage) → o ≡ answered joins → Passes T room u es v o → Joined T u v
      by T u v es o h (arrives l) = (es, l.0)
      by T u v es o h (broken before x after w p l q) = impossible (cc)
      by T u v es o h (elsewhere w l d) = impossible (cc)
      by T u v es o h (starts_long l) = impossible (cc)
      by T u v es o h (grows_long before x after w w' p l q long) = impossible (cc)

      joined : (T : Presentation) (u v : Positive) (es : List Entry) → Passes T room u es v (answered joins) → Joined T u v
      joined T u v es p = by T u v es (answered joins) refl p

-- THE PROMISE

module _ (table first second entries area : List ℕ) where
  as_found : (r : Refusal) → AsFound (check table first second entries (length area)) r → CheckPromise table first second entries area area (refusal r)
  as_found r o =
      record { stated = o.stated; workspace_is = o.workspace area; meaning = check_says table first second entries (length area) _ o.stated }

  pub promised_refused : (r : Refusal) → read_images read_forward table first second ≡ refusal r
      → CheckPromise table first second entries area area (refusal r)
  promised_refused r e = as_found r (check_refused table first second entries (length area) r e)

  module _ (T : Presentation) (u v : Positive) (c : Compares table first second T u v) (size : ℕ) (sized : T.size ≡ size) where
    pub promised_no_chain : (r : Refusal) → read_chain size entries ≡ refusal r → CheckPromise table first second entries area area (refusal r)
    promised_no_chain r e = as_found r (check_no_chain table first second entries (length area) T u v c size sized r e)

    pub promised_passage : (es : List Entry) → read_chain size entries ≡ answered es → (after : List ℕ) (o : Outcome Passage)
        → after ≡ workspace_after o area → o ≡ passage T (length area) u es v → CheckPromise table first second entries area after o
    promised_passage es e after o w p =
        let q = p ∙ sym (check_runs table first second entries (length area) T u v c size sized es e) in
        record {
          stated = q;
          workspace_is = w ∙ ap (λ x. workspace_after x area) q;
          meaning = check_says table first second entries (length area) _ q;
        }
