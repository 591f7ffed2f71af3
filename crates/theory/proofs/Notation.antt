-- Texts of patterns (specification 6.17), whole: what is written is read, what is read was written so, every other text is refused with 19, and the moves of
-- a pattern are as many as it is counted to have.
-- From `text_read` and `text_back`. Main name: `notation_meaning`.
use mathlib.Core.Path.{◌≡◌, refl, sym, ap, subst, ◌∙◌}
use mathlib.Core.List.{List, [], ◌∷◌, map}
use mathlib.Core.Bool.{Bool, true, false, cond}
use Prim.Native.Nat.{ℕ, zero, suc, ◌*◌}
use native.Mathlib.Omega.{arith}
use lib.Dec.{ltb, eqb}
use lib.ListN.{length, length-append, length-reverse, length-map}
use Rattle.model.specs.Word.{Word, flip}
use Rattle.model.specs.Outcome.{unplaced, Outcome, answered, refused, ◌>>=◌, unless}
use Rattle.model.specs.Bits.{Read}
use Rattle.model.specs.Notation.{Pattern, nothing, ◌then◌, Item, item, Body, move, bracket, most_nested, repeated, times, undone, meaning, item_meaning}
use Rattle.model.specs.Notation.{body_meaning, moves, item_moves, body_moves, space_byte, opening_byte, closing_byte, count_byte, is_digit, read_number}
use Rattle.model.specs.Notation.{read_minus}
use Rattle.model.specs.Notation.{read_count, read_move, read_close, read_body, read_item, read_on, read_items, read_in, read_pattern, read_text}
use Rattle.model.proofs.Impossible.{impossible, same_answer}
use Rattle.theory.specs.Notation.{NotationMeaning}
use Rattle.theory.proofs.WrittenRead.{text_read}
use Rattle.theory.proofs.ReadWritten.{text_back}

-- REFUSALS

-- an outcome that is a refusal is refusal 19, without a place
abbrev Only19 : {A : Type 0} → Outcome A → Type 0
Only19 (answered x) = Unit {0}
Only19 (refused n place) = (n ≡ 19) × (place ≡ unplaced)

-- two steps refuse so if each does
bound_19 : {A B : Type 0} (o : Outcome A) (f : A → Outcome B) → Only19 o → ((x : A) → Only19 (f x)) → Only19 (o >>= f)
bound_19 (answered x) f h g = g x
bound_19 (refused n place) f h g = h

-- a test does if both its arms do
cond_19 : {A : Type 0} (b : Bool) (s t : Outcome A) → Only19 s → Only19 t → Only19 (cond b s t)
cond_19 true s t h g = h
cond_19 false s t h g = g

-- a test that refuses with 19 does
unless_19 : {A : Type 0} (b : Bool) (x : A) → Only19 (unless b 19 x)
unless_19 true x = (refl, refl)
unless_19 false x = tt

-- every reader does: of numbers
number_19 : (text : List ℕ) → Only19 (read_number text)
number_19 [] = (refl, refl)
number_19 (x ∷ xs) = cond_19 (is_digit x) _ _ tt (refl, refl)

-- of counts
count_19 : (text : List ℕ) → Only19 (read_count text)
count_19 [] = tt
count_19 (x ∷ xs) = cond_19 (eqb x count_byte) _ _ (bound_19 (read_number xs) _ (number_19 xs) (λ k. tt)) tt

-- of moves
move_19 : (text : List ℕ) → Only19 (read_move text)
move_19 text = bound_19 (read_number text) _ (number_19 text) (λ a. unless_19 (eqb a.value 0) _)

-- of the ends of brackets
close_19 : (p : Pattern) (text : List ℕ) → Only19 (read_close p text)
close_19 p [] = (refl, refl)
close_19 p (x ∷ xs) = cond_19 (eqb x closing_byte) _ _ tt (refl, refl)

-- of what follows an item, if `more` does
on_19 : (more : List ℕ → Outcome (Read Pattern)) → ((text : List ℕ) → Only19 (more text)) → (i : Item) (text : List ℕ) → Only19 (read_on more i text)
on_19 more h i [] = tt
on_19 more h i (x ∷ xs) = cond_19 (eqb x space_byte) _ _ (bound_19 (more xs) _ (h xs) (λ p. tt)) tt

-- and, if what reads within brackets does, the others
module _ (within : List ℕ → Outcome (Read Pattern)) (within_19 : (text : List ℕ) → Only19 (within text)) where
  -- of bodies
  body_19 : (text : List ℕ) → Only19 (read_body within text)
  body_19 [] = (refl, refl)
  body_19 (x ∷ xs) =
      cond_19 (eqb x opening_byte) _ _ (bound_19 (within xs) _ (within_19 xs) (λ p. close_19 p.value p.rest)) (move_19 (x ∷ xs))

  -- of items
  item_19 : (text : List ℕ) → Only19 (read_item within text)
  unfolding read_item
  item_19 text =
      bound_19 (read_body within (read_minus text).rest) _ (body_19 (read_minus text).rest)
      (λ b. bound_19 (read_count b.rest) _ (count_19 b.rest) (λ k. tt))

  -- of any number of items
  items_19 : (k : ℕ) (text : List ℕ) → Only19 (read_items within k text)
  unfolding read_items
  items_19 zero text = (refl, refl)
  items_19 (suc k) text =
      bound_19 (read_item within text) _ (item_19 text) (λ i. on_19 (read_items within k) (λ t. items_19 k t) i.value i.rest)

  -- of patterns, by their items
  in_19 : (text : List ℕ) → Only19 (read_in within text)
  in_19 [] = tt
  in_19 (x ∷ xs) = cond_19 (eqb x closing_byte) _ _ tt (items_19 (suc (length xs)) (x ∷ xs))

-- of patterns, however deep brackets may nest
pattern_19 : (d : ℕ) (text : List ℕ) → Only19 (read_pattern d text)
unfolding read_pattern
pattern_19 zero text = in_19 _ (λ t. (refl, refl)) text
pattern_19 (suc d) text = in_19 (read_pattern d) (λ t. pattern_19 d t) text

-- of whole texts
text_19 : (text : List ℕ) → Only19 (read_text text)
unfolding read_text
text_19 text = bound_19 (read_pattern most_nested text) _ (pattern_19 most_nested text) (λ p. unless_19 (ltb 0 (length p.rest)) p.value)

-- COUNTS

-- an undoing has as many moves
length_undone : (minus : Bool) (w : Word) → length (undone minus w) ≡ length w
length_undone true w = length-reverse (map flip w) ∙ length-map w flip
length_undone false w = refl

-- a word k times has k times as many
length_repeated : (k : ℕ) (w : Word) → length (repeated k w) ≡ k * length w
length_repeated zero w = omega arith
length_repeated (suc k) w = omega (arith, length-append w (repeated k w), length_repeated k w)

-- a tree means as many moves as are counted
mutual
  pattern_counted : (p : Pattern) → length (meaning p) ≡ moves p
  pattern_counted nothing = refl
  pattern_counted (i then p) = omega (arith, length-append (item_meaning i) (meaning p), item_counted i, pattern_counted p)

  pub item_counted : (i : Item) → length (item_meaning i) ≡ item_moves i
  item_counted (item minus b count) =
      length_undone minus (repeated (times count) (body_meaning b))
      ∙ (length_repeated (times count) (body_meaning b) ∙ ap (λ n. times count * n) (body_counted b))

  pub body_counted : (b : Body) → length (body_meaning b) ≡ body_moves b
  body_counted (move a) = refl
  body_counted (bracket p) = pattern_counted p

-- ALL OF IT

-- the reader reads exactly the texts of trees in range, each as the one tree
pub notation_meaning : NotationMeaning
notation_meaning =
    record {
      reads_written = text_read;
      writes_read = text_back;
      one_tree = λ p q h g e. same_answer p q (sym (text_read p h) ∙ (ap read_text e ∙ text_read q g));
      else_19 = λ text n place e.
          let only = subst Only19 e (text_19 text) in
          (only.0, (only.1, λ p h w. let f = sym (text_read p h) ∙ (ap read_text w ∙ e) in impossible (cc)));
      counted = pattern_counted;
    }
