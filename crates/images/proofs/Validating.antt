-- Validating an image of a count and as many values: the values read so far, and what is left to read. Programs and chains are such images.
use mathlib.Core.Path.{◌≡◌, refl, sym, ap, ◌∙◌}
use mathlib.Core.List.{List, [], ◌∷◌, ◌++◌}
use mathlib.Core.Bool.{true, false, cond}
use Prim.Native.Nat.{ℕ, suc, ◌+◌, ◌-◌, ◌≤◌, ◌<◌}
use native.Mathlib.Omega.{arith}
use lib.ListN.{length, length-append}
use Rattle.model.specs.Word.{Letter}
use Rattle.model.specs.Equivalence.{Entry}
use Rattle.model.specs.Outcome.{unplaced, Outcome, answered, refused, ◌>>=◌}
use Rattle.model.specs.Bits.{Read, bits_of, field, finish, filling}
use Rattle.model.specs.Images.{count_width, chain_count_width, several, signed_field, read_program, entry_field, read_chain}
use Rattle.images.specs.Fields.{FieldAt, from}
use Rattle.images.proofs.Several.{after, after_none, several_step, several_refused, several_done}

-- a kind of such images: how one is read, and a value of it, and how wide its count is
pub record Counted (A : Type 0) : Type 0 where
  pub reads : List ℕ → Outcome (List A)
  pub one : List ℕ → Outcome (Read A)
  pub head : ℕ
  pub is : (image : List ℕ) → reads image ≡ (field 4 head (bits_of image) >>= λ k. several one k.value k.rest >>= λ w. finish 6 w)

-- programs and chains are such images
pub program_is : (size : ℕ) (image : List ℕ)
    → read_program size image ≡ (field 4 count_width (bits_of image) >>= λ k. several (signed_field size) k.value k.rest >>= λ w. finish 6 w)
unfolding read_program
program_is size image = refl

abbrev pub program : ℕ → Counted Letter
program size = record { reads = read_program size; one = signed_field size; head = count_width; is = program_is size }

pub chain_is : (size : ℕ) (image : List ℕ)
    → read_chain size image ≡ (field 4 chain_count_width (bits_of image) >>= λ k. several (entry_field size) k.value k.rest >>= λ w. finish 6 w)
unfolding read_chain
chain_is size image = refl

abbrev pub chain : ℕ → Counted Entry
chain size = record { reads = read_chain size; one = entry_field size; head = chain_count_width; is = chain_is size }

-- the count and so many values were read, and `rest` is left
pub record Validated {A : Type 0} (c : Counted A) (image : List ℕ) (count : ℕ) (rest : List ℕ) (i : ℕ) : Type 0 where
  pub first : FieldAt image 0 c.head count
  pub some_left : i ≤ count
  pub done : List A
  pub done_length : length done ≡ i
  pub resumed : several c.one count (from image c.head) ≡ after done (several c.one (count - i) rest)

-- the image is accepted: its values, as many as it says
pub record Holds {A : Type 0} (c : Counted A) (image : List ℕ) (count : ℕ) (values : List A) : Type 0 where
  pub read : c.reads image ≡ answered values
  pub count_is : length values ≡ count

module _ {A : Type 0} (c : Counted A) (image : List ℕ) where
  unfoldable after_count : Outcome (Read ℕ) → Outcome (List A)
  after_count o = o >>= λ k. several c.one k.value k.rest >>= λ w. finish 6 w

  -- the end, whatever the values are
  unfoldable after_values : Outcome (Read (List A)) → Outcome (List A)
  after_values o = o >>= λ w. finish 6 w

  pub count_ends : ((early : ℕ) → field early c.head (from image 0) ≡ refused early unplaced) → c.reads image ≡ refused 4 unplaced
  unfolding after_count
  count_ends e = c.is image ∙ ap after_count (e 4)

  module _ (count : ℕ) (first : FieldAt image 0 c.head count) where
    whole_is : c.reads image ≡ after_values (several c.one count (from image c.head))
    unfolding after_count after_values
    whole_is =
        c.is image
        ∙ (ap after_count (first.read 4)
        ∙ ap (λ n. after_values (several c.one count (from image n))) {x = 0 + c.head} {y = c.head} (omega arith))

    unfoldable pub validated_none : Validated c image count (from image c.head) 0
    validated_none =
        record {
          first = first;
          some_left = omega arith;
          done = [];
          done_length = refl;
          resumed =
              sym (after_none (several c.one (count - 0) (from image c.head))
              ∙ ap (λ k. several c.one k (from image c.head)) {x = count - 0} {y = count} (omega arith));
        }

  module _ (count : ℕ) (rest : List ℕ) (i : ℕ) (v : Validated c image count rest i) where
    pub left : i < count → count - i ≡ suc (count - (i + 1))
    left h = omega arith

    unfoldable pub validated_more : (x : A) (next : List ℕ) → i < count → c.one rest ≡ answered (record { value = x; rest = next })
        → Validated c image count next (i + 1)
    validated_more x next h e =
        record {
          first = v.first;
          some_left = omega arith;
          done = v.done ++ (x ∷ []);
          done_length = length-append v.done (x ∷ []) ∙ omega (arith, v.done_length);
          resumed =
              v.resumed
              ∙ (ap (λ k. after v.done (several c.one k rest)) (left h)
              ∙ several_step c.one v.done (count - (i + 1)) rest (record { value = x; rest = next }) e);
        }

    pub value_refused : (n : ℕ) → i < count → c.one rest ≡ refused n unplaced → c.reads image ≡ refused n unplaced
    unfolding after_values
    value_refused n h e =
        whole_is count v.first
        ∙ ap after_values
        (v.resumed
        ∙ (ap (λ k. after v.done (several c.one k rest)) (left h)
        ∙ several_refused c.one v.done (count - (i + 1)) rest n unplaced e))

    ended : count ≤ i → c.reads image ≡ finish 6 (record { value = v.done; rest = rest })
    unfolding after_values
    ended h =
        whole_is count v.first
        ∙ ap after_values
        (v.resumed
        ∙ (ap (λ k. after v.done (several c.one k rest)) {x = count - i} {y = 0} (omega arith)
        ∙ several_done c.one v.done rest))

    pub whole_held : count ≤ i → filling rest ≡ true → Holds c image count v.done
    unfolding finish
    whole_held h f =
        record {
          read = ended h ∙ ap (λ t. cond t (answered v.done) (refused 6 unplaced)) f;
          count_is = v.done_length ∙ omega (arith, v.some_left);
        }

    pub whole_tail : count ≤ i → filling rest ≡ false → c.reads image ≡ refused 6 unplaced
    unfolding finish
    whole_tail h f = ended h ∙ ap (λ t. cond t (answered v.done) (refused 6 unplaced)) f
