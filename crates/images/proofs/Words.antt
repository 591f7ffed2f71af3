-- Reading a word of a table into its cell: the letters read so far, what is left to read, and what the cell holds. The laws are for any
-- reader of a letter.
use mathlib.Core.Path.{◌≡◌, refl, sym, ap, subst, ◌∙◌}
use mathlib.Core.Logic.{⊎_elim}
use mathlib.Core.List.{List, [], ◌∷◌, ◌++◌}
use Prim.Native.Nat.{ℕ, suc, ◌+◌, ◌-◌, ◌≤◌, ◌<◌}
use native.Mathlib.Omega.{arith}
use lib.ListN.{length, set, get_or, length-append, length-set, get_or-append}
use lib.Seq.{get_or-set_same, get_or-set_other, get_or_at}
use Rattle.model.specs.Word.{Positive}
use Rattle.model.specs.Outcome.{unplaced, Outcome, answered, refused, ◌>>=◌}
use Rattle.model.specs.Bits.{Read}
use Rattle.model.specs.Images.{several, word_lengths}
use Rattle.model.proofs.Numbers.{below_or}
use Rattle.model.proofs.Lists.{all_more}
use Rattle.model.specs.Range.{All, InRange}
use Rattle.cells.specs.Kept.{KeptOutside}
use Rattle.cells.proofs.Kept.{kept_store}
use Rattle.cells.specs.Layout.{cell_length}
use Rattle.images.specs.Forms.{number_in, letter_in, word_in}
use Rattle.images.specs.Tables.{WordFrom}
use Rattle.images.specs.declared.forms.Form.{Form}
use Rattle.images.proofs.Several.{after, after_none, several_step, several_refused, several_done}

-- the letters of a word whose length was read and stored; `begin` is what was left to read then, and `rest` is left now
pub record Filled (reader : List ℕ → Outcome (Read ℕ)) (begin : List ℕ) (size : ℕ) (before : List ℕ) (cell count : ℕ) (cells rest : List ℕ)
    (k : ℕ) : Type 0 where
  pub some_left : k ≤ count
  pub same_length : length cells ≡ length before
  pub done : Positive
  pub done_length : length done ≡ k
  pub resumed : several reader count begin ≡ after done (several reader (count - k) rest)
  pub first : get_or cells cell 0 ≡ count
  pub letters : (j : ℕ) → j < length done → get_or cells (cell + 1 + j) 0 ≡ get_or done j 0
  pub in_range : All (InRange size) done
  pub kept : KeptOutside before cell cells

-- one letter more
stored_letters : (cells : List ℕ) (place : ℕ) (done : Positive) (a : ℕ) → place + length done < length cells
    → ((j : ℕ) → j < length done → get_or cells (place + j) 0 ≡ get_or done j 0)
    → (j : ℕ) → j < length (done ++ (a ∷ [])) → get_or (set cells (place + length done) a) (place + j) 0 ≡ get_or (done ++ (a ∷ [])) j 0
stored_letters cells place done a h old j l =
    ⊎_elim
    (λ (b : j < length done).
    get_or-set_other cells (place + length done) (place + j) a 0 (λ e. omega arith)
    ∙ (old j b ∙ sym (get_or-append done (a ∷ []) 0 j b)))
    (λ (b : length done ≤ j).
    let e : j ≡ length done = omega (arith, length-append done (a ∷ [])) in
    ap (λ j. get_or (set cells (place + length done) a) (place + j) 0) e
    ∙ (get_or-set_same cells (place + length done) a 0 h
    ∙ (sym (get_or_at done a [] 0 (length done) refl) ∙ ap (λ j. get_or (done ++ (a ∷ [])) j 0) (sym e))))
    (below_or j (length done))

module _ (reader : List ℕ → Outcome (Read ℕ)) (begin : List ℕ) (size : ℕ) (before : List ℕ) (cell count : ℕ) (room : cell + cell_length ≤ length before)
    (small : count < word_lengths) where
  pub letters_none : Filled reader begin size (set before cell count) cell count (set before cell count) begin 0
  letters_none =
      record {
        some_left = omega arith;
        same_length = refl;
        done = [];
        done_length = refl;
        resumed = sym (after_none (several reader (count - 0) begin) ∙ ap (λ k. several reader k begin) {x = count - 0} {y = count} (omega arith));
        first = get_or-set_same before cell count 0 (omega arith);
        letters = λ j h. absurd (omega arith);
        in_range = tt;
        kept = λ i o. refl;
      }

  module _ (cells rest : List ℕ) (k : ℕ) (f : Filled reader begin size (set before cell count) cell count cells rest k) where
    left : k < count → count - k ≡ suc (count - (k + 1))
    left h = omega arith

    pub letters_more : (a : ℕ) (rest' : List ℕ) → k < count → InRange size a → reader rest ≡ answered (record { value = a; rest = rest' })
        → Filled reader begin size (set before cell count) cell count (set cells (cell + 1 + k) a) rest' (k + 1)
    letters_more a rest' h range e =
        let n : length f.done ≡ k = f.done_length in
        record {
          some_left = omega arith;
          same_length = length-set cells (cell + 1 + k) a ∙ f.same_length;
          done = f.done ++ (a ∷ []);
          done_length = length-append f.done (a ∷ []) ∙ omega arith;
          resumed =
              f.resumed
              ∙ (ap (λ m. after f.done (several reader m rest)) (left h)
              ∙ several_step reader f.done (count - (k + 1)) rest (record { value = a; rest = rest' }) e);
          first = get_or-set_other cells (cell + 1 + k) cell a 0 (λ e. omega arith) ∙ f.first;
          letters =
              subst (λ m. (j : ℕ) → j < length (f.done ++ (a ∷ [])) → get_or (set cells (cell + 1 + m) a) (cell + 1 + j) 0 ≡ get_or (f.done ++ (a ∷ [])) j 0) n
              (stored_letters cells (cell + 1) f.done a (omega (arith, f.same_length, length-set before cell count)) f.letters);
          in_range = all_more (InRange size) f.done a f.in_range range;
          kept = kept_store (set before cell count) cell cells (cell + 1 + k) a f.kept (omega arith) (omega arith);
        }

    pub letters_refused : (n : ℕ) → k < count → reader rest ≡ refused n unplaced → several reader count begin ≡ refused n unplaced
    letters_refused n h e =
        f.resumed
        ∙ (ap (λ m. after f.done (several reader m rest)) (left h)
        ∙ several_refused reader f.done (count - (k + 1)) rest n unplaced e)

    -- the word that a reader of its letters reads
    pub word_from : (word : List ℕ → Outcome (Read Positive)) (input : List ℕ) → word input ≡ several reader count begin → count ≤ k
        → WordFrom word size before cell cells input rest
    word_from word input is h =
        record {
          word = f.done;
          read =
              is
              ∙ (f.resumed
              ∙ (ap (λ m. after f.done (several reader m rest)) {x = count - k} {y = 0} (omega arith)
              ∙ several_done reader f.done rest));
          holds =
              record {
                count = f.first ∙ omega (arith, f.some_left, f.done_length);
                letters = f.letters;
                in_range = record { short = omega (arith, f.some_left, f.done_length); letters = f.in_range };
              };
          kept = λ i o. f.kept i o ∙ kept_store before cell before cell count (λ i o. refl) (omega arith) (omega arith) i o;
        }

-- the word of a form: its length is read, then its letters
module _ (f : Form) (size : ℕ) (bits : List ℕ) where
  unfoldable of_length : Outcome (Read ℕ) → Outcome (Read Positive)
  of_length o = o >>= λ k. several (letter_in f size) k.value k.rest

  pub word_letters : (k : ℕ) (rest : List ℕ) → number_in f.lengths 0 word_lengths bits ≡ answered (record { value = k; rest = rest })
      → word_in f size bits ≡ several (letter_in f size) k rest
  unfolding of_length
  word_letters k rest e = ap of_length e

  unfoldable of_number : Outcome (Read ℕ) → Outcome (Read ℕ)
  of_number o = o >>= λ r. answered (record { value = r.value + 1; rest = r.rest })

  pub letter_unread : (n : ℕ) → number_in f.letters f.low size bits ≡ refused n unplaced → letter_in f size bits ≡ refused n unplaced
  unfolding of_number
  letter_unread n e = ap of_number e

  pub letter_said : (k : ℕ) (rest : List ℕ) → number_in f.letters f.low size bits ≡ answered (record { value = k; rest = rest })
      → letter_in f size bits ≡ answered (record { value = k + 1; rest = rest })
  unfolding of_number
  letter_said k rest e = ap of_number e
