-- A plain program is accepted where every byte names a letter, and refused where one does not. The count is tested before the letters.
use mathlib.Core.Path.{◌≡◌, refl, sym, ap, subst, ◌∙◌}
use mathlib.Core.List.{List, [], ◌∷◌, map}
use mathlib.Core.Bool.{Bool, true, false, not, cond}
use Prim.Native.Nat.{ℕ, zero, suc, ◌+◌, ◌%◌, ◌≤◌, ◌<◌}
use native.Mathlib.Omega.{arith}
use borrow.Author.Tests.{lt-ltb, le-ltb, leb-true}
use lib.Dec.{leb}
use Rattle.bits.proofs.Packing.{and_first, and_second}
use Rattle.std.specs.List.{count_by}
use Rattle.std.proofs.lemmas.List.Sums.{sum_by-cons}
use lib.ListN.{length, get_or}
use Rattle.model.specs.Word.{Letter, Word, letter}
use Rattle.model.specs.Outcome.{unplaced, Outcome, answered, refused, ◌>>=◌, unless}
use Rattle.model.specs.Plain.{names_letter, plain_letters_signed, read_plain_program, most_letters}
use Rattle.plain_forms.specs.Reading.{PlainProgram}

-- the number of a byte that names a letter
pub named_positive : (size x : ℕ) → names_letter size x ≡ true → 1 ≤ x % 128
named_positive size x e = leb-true 1 (x % 128) (and_first (leb 1 (x % 128)) (leb (x % 128) size) e)

pub named_small : (size x : ℕ) → names_letter size x ≡ true → x % 128 ≤ size
named_small size x e = leb-true (x % 128) size (and_second (leb 1 (x % 128)) (leb (x % 128) size) e)

unfoldable rest : ℕ → List ℕ → Letter → Outcome Word
rest n xs a = plain_letters_signed n xs >>= λ w. answered (a ∷ w)

first_named : (n x : ℕ) (xs : List ℕ) → names_letter n x ≡ true → plain_letters_signed n (x ∷ xs) ≡ (plain_letters_signed n xs >>= λ w. answered (letter x ∷ w))
unfolding rest
first_named n x xs e = ap (λ t. unless (not t) 5 (letter x) >>= rest n xs) e

first_unnamed : (n x : ℕ) (xs : List ℕ) → names_letter n x ≡ false → plain_letters_signed n (x ∷ xs) ≡ refused 5 unplaced
unfolding rest
first_unnamed n x xs e = ap (λ t. unless (not t) 5 (letter x) >>= rest n xs) e

all_named : (n : ℕ) (xs : List ℕ) → ((i : ℕ) → i < length xs → names_letter n (get_or xs i 0) ≡ true) → plain_letters_signed n xs ≡ answered (map letter xs)
all_named n [] h = refl
all_named n (x ∷ xs) h =
    first_named n x xs (h 0 (omega arith)) ∙ ap (λ o. o >>= λ w. answered (letter x ∷ w)) (all_named n xs (λ i l. h (suc i) (omega arith)))

-- the bytes that name no letter, counted: none, and some
first_none : (t : Bool) (k : ℕ) → cond (not t) 1 0 + k ≡ 0 → (t ≡ true) × (k ≡ 0)
first_none true k e = (refl, omega arith)
first_none false k e = absurd (omega arith)

count_first : (n x : ℕ) (xs : List ℕ)
    → count_by (λ x. not (names_letter n x)) (x ∷ xs) ≡ cond (not (names_letter n x)) 1 0 + count_by (λ x. not (names_letter n x)) xs
count_first n x xs = sum_by-cons (λ x. cond (not (names_letter n x)) 1 0) x xs

none_unnamed : (n : ℕ) (xs : List ℕ) → count_by (λ x. not (names_letter n x)) xs ≡ 0 → (i : ℕ) → i < length xs → names_letter n (get_or xs i 0) ≡ true
none_unnamed n [] e i h = absurd (omega arith)
none_unnamed n (x ∷ xs) e zero h = (first_none (names_letter n x) _ (sym (count_first n x xs) ∙ e)).0
none_unnamed n (x ∷ xs) e (suc i) h = none_unnamed n xs (first_none (names_letter n x) _ (sym (count_first n x xs) ∙ e)).1 i (omega arith)

-- a fault behind a letter, whatever the letter is
behind : (n x : ℕ) (xs : List ℕ) (k : ℕ) → (0 < k → plain_letters_signed n xs ≡ refused 5 unplaced) → (t : Bool) → names_letter n x ≡ t
    → 0 < cond (not t) 1 0 + k → plain_letters_signed n (x ∷ xs) ≡ refused 5 unplaced
behind n x xs k r true f h = first_named n x xs f ∙ ap (λ o. o >>= λ w. answered (letter x ∷ w)) (r (omega arith))
behind n x xs k r false f h = first_unnamed n x xs f

some_unnamed : (n : ℕ) (xs : List ℕ) → 0 < count_by (λ x. not (names_letter n x)) xs → plain_letters_signed n xs ≡ refused 5 unplaced
some_unnamed n [] h = absurd (omega arith)
some_unnamed n (x ∷ xs) h =
    behind n x xs (count_by (λ x. not (names_letter n x)) xs) (λ l. some_unnamed n xs l) (names_letter n x) refl (subst (λ k. 0 < k) (count_first n x xs) h)

module _ (plain : List ℕ) (size : ℕ) where
  pub too_many : most_letters < length plain → read_plain_program size plain ≡ refused 4 unplaced
  unfolding read_plain_program
  too_many h = ap (λ t. unless t 4 plain >>= plain_letters_signed size) (lt-ltb most_letters (length plain) h)

  module _ (few : length plain ≤ most_letters) where
    read_is : read_plain_program size plain ≡ plain_letters_signed size plain
    unfolding read_plain_program
    read_is = ap (λ t. unless t 4 plain >>= plain_letters_signed size) (le-ltb most_letters (length plain) few)

    pub plain_accepted : count_by (λ x. not (names_letter size x)) plain ≡ 0 → PlainProgram plain size
    plain_accepted e =
        let h = none_unnamed size plain e in record { named = record { short = few; named = h }; read = read_is ∙ all_named size plain h }

    pub plain_refused : 0 < count_by (λ x. not (names_letter size x)) plain → read_plain_program size plain ≡ refused 5 unplaced
    plain_refused h = read_is ∙ some_unnamed size plain h
