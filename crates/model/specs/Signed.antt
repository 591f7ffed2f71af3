-- Specification 6.18: which words of either sign are joined, by explicit steps on the words themselves; and the comparison of two such words.
-- Once the table, its mirror and the set allow it, a verdict comes from two reversings.
use Rattle.std.specs.Prelude.{List, [], ◌∷◌, ◌++◌, map, Bool, false, ◌||◌, cond, ◌≡◌, ℕ, zero, suc, ◌-◌, leb, ltb, length, get_or}
use Rattle.model.specs.Word.{Letter, Word, Positive, flip, inverse, positive, negative}
use Rattle.model.specs.Presentation.{Presentation, complement, complete}
use Rattle.model.specs.Range.{InRange, LetterInRange}
use Rattle.model.specs.Equivalence.{equal}
use Rattle.model.specs.Reversing.{no_room, Ending, finished, open_pair, stopped, reversing}
use Rattle.model.specs.Enumeration.{range, Two, triples}
use Rattle.model.specs.Checks.{stop_number, cube_check, cleared}
use Rattle.model.specs.Mirror.{mirror, mirror_check}
use Rattle.model.specs.Outcome.{unplaced, pair_of, the_set, Outcome, answered, refused, ◌>>=◌, unless, mapped}
use Rattle.model.specs.Images.{read_program}
use Rattle.model.specs.Services.{read_images, of_mirror, Verdict, same_after, different_after, forward_verdict}
use Rattle.model.specs.Ways.{listing_bytes}

-- JOINED WORDS (6.18)

-- 6.18: one step from a word to the next, at any place of it: x stands before, y after, and both stay as they are; every letter named is one of the table's
pub data GroupStep (T : Presentation) : Word → Word → Type 0 where
  -- a swap (2.3) on forward letters that stand together: a, then u = C(a,b), becomes b, then v = C(b,a); the way back is the swap of b and a
  swap : (x : Word) (a b : ℕ) (u v : Positive) (y : Word) → InRange T.size a → InRange T.size b → complete T a b ≡ complement u v
      → GroupStep T (x ++ (positive (a ∷ u) ++ y)) (x ++ (positive (b ∷ v) ++ y))
  -- a letter, forward or back, and directly after it its undoing are put in
  insert : (x : Word) (l : Letter) (y : Word) → LetterInRange T.size l → GroupStep T (x ++ y) (x ++ (l ∷ flip l ∷ y))
  -- the same taken out
  remove : (x : Word) (l : Letter) (y : Word) → LetterInRange T.size l → GroupStep T (x ++ (l ∷ flip l ∷ y)) (x ++ y)

-- 6.18: some chain of such steps, perhaps an empty one, leads from the first word to the second
pub data GroupJoined (T : Presentation) : Word → Word → Type 0 where
  stay : {w : Word} → GroupJoined T w w
  go : {w w' w'' : Word} → GroupStep T w w' → GroupJoined T w' w'' → GroupJoined T w w''

-- THE SET (6.18)

-- the empty word, then the single letters in order
abbrev pub first_words : ℕ → List Positive
first_words n = [] ∷ map (λ a. a ∷ []) (range 1 n)

-- whether a word is listed, letter for letter
abbrev pub is_listed : Positive → List Positive → Bool
is_listed w [] = false
is_listed w (v ∷ vs) = equal w v || is_listed w vs

-- two places of the list, of which the later is m: those with u before the later word, by u; then those with u the later word, by v
abbrev pub places_at : ℕ → List Two
places_at m = map (λ i. record { a = i; b = m }) (range 0 m) ++ map (λ j. record { a = m; b = j }) (range 0 (suc m))

-- the most words that are listed
abbrev pub most_words : ℕ
most_words = 256

-- the bytes that the words take in the workspace, a zero byte after each
abbrev pub set_bytes : List Positive → ℕ
set_bytes vs = length (listing_bytes vs)

-- a reversing in the room that the words leave: none, whatever its word, where they alone are longer than the workspace
abbrev pub beside : Presentation → ℕ → ℕ → List Positive → Word → Ending
beside T budget room vs w = cond (ltb room (set_bytes vs)) (stopped no_room) (reversing T budget (room - set_bytes vs) w)

-- the list after a reversing: its numerator is added at the end unless it is listed, 22 where there is no place for it; 21 names the open pair as 10 does; a
-- stop names the set
abbrev pub added_to : List Positive → Ending → Outcome (List Positive)
added_to vs (finished n d k r) = cond (is_listed n vs) (answered vs) (unless (leb most_words (length vs)) 22 (vs ++ (n ∷ [])))
added_to vs (open_pair a b k) = refused 21 (pair_of a b)
added_to vs (stopped s) = refused (stop_number s) the_set

module _ (T : Presentation) (budget room : ℕ) where
  -- u\v for two places, one pair of places after another
  abbrev pub taken_pairs : List Two → List Positive → Outcome (List Positive)
  taken_pairs [] vs = answered vs
  taken_pairs (p ∷ ps) vs =
      added_to vs (beside T budget room vs (negative (get_or vs p.a []) ++ positive (get_or vs p.b []))) >>= taken_pairs ps

  -- the pairs of each place from m on, as long as there are words; `rounds` is how many places are looked at
  unfoldable pub grown_from : ℕ → ℕ → List Positive → Outcome (List Positive)
  grown_from zero m vs = answered vs
  grown_from (suc rounds) m vs = cond (ltb m (length vs)) (taken_pairs (places_at m) vs >>= grown_from rounds (suc m)) (answered vs)

  -- the set: no list has more places than the most words
  unfoldable pub grown_set : Outcome (List Positive)
  grown_set = grown_from most_words 0 (first_words T.size)

-- THE PROGRAMS (6.18)

-- a verdict, with the steps of the first and of the second reversing
pub data SignedVerdict : Type 0 where
  same_after_both : ℕ → ℕ → SignedVerdict
  different_after_both : ℕ → ℕ → SignedVerdict

abbrev pub after_first : ℕ → Verdict → SignedVerdict
after_first k (same_after j r) = same_after_both k j
after_first k (different_after j) = different_after_both k j

-- the first reversing came to N and D, which are compared as forward programs; once the set is closed no reversing meets an open pair
abbrev pub signed_of : Presentation → ℕ → ℕ → Ending → Outcome SignedVerdict
signed_of T budget room (finished n d k r) = mapped (after_first k) (forward_verdict T n d budget room)
signed_of T budget room (open_pair a b k) = refused 10 (pair_of a b)
signed_of T budget room (stopped s) = refused (stop_number s) unplaced

-- two words of either sign under a table that was read: it has a mirror, it clears, the mirror clears, the set closes; then the words are compared
unfoldable pub signed_comparison : Presentation → Word → Word → ℕ → ℕ → Outcome SignedVerdict
signed_comparison T w v budget room =
    mirror_check T >>= λ ok.
    cleared T budget room >>= λ ok.
    of_mirror (cube_check (mirror T) budget room (triples T.size)) >>= λ ok.
    grown_set T budget room >>= λ vs.
    signed_of T budget room (reversing T budget room (inverse w ++ v))

-- 6.18: two programs of either sign under a table, each as it is read
unfoldable pub compare_signed : List ℕ → List ℕ → List ℕ → ℕ → ℕ → Outcome SignedVerdict
compare_signed table first second budget room =
    read_images read_program table first second >>= λ i.
    signed_comparison i.table i.first i.second budget room
