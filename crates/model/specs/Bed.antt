-- Specification 2.4 and 6.11: the braid table, and the bed of a program under it: which bobbin stands at each place, and how often each two crossed.
use Rattle.std.specs.Prelude.{List, [], ◌∷◌, ◌++◌, Bool, true, false, not, ◌&&◌, ◌||◌, cond, ◌≡◌, ℕ, zero, suc, ◌-◌, ◌/◌, ◌%◌, ◌≤◌, eqb, length, take, get_or}
use Rattle.std.specs.Prelude.{set, replicate, ℤ, pos, negsuc, nat_abs, ◌+ℤ◌}
use Rattle.model.specs.Word.{Letter, forward, back, Word, Positive}
use Rattle.model.specs.Presentation.{Presentation, Complement, undefined, complement, complete}
use Rattle.model.specs.Equivalence.{equal}
use Rattle.model.specs.Enumeration.{range, concat_map, Two, pairs}
use Rattle.model.specs.Outcome.{Outcome, ◌>>=◌, unless}
use Rattle.model.specs.Images.{read_table, read_program}
use Rattle.model.specs.Services.{fitted}

-- THE BRAID TABLE (2.4)

-- whether two numbers differ by 1
abbrev pub adjacent : ℕ → ℕ → Bool
adjacent a b = eqb (suc a) b || eqb (suc b) a

-- 2.4: C(a,b) of two different letters
abbrev pub braid_word : ℕ → ℕ → Positive
braid_word a b = cond (adjacent a b) (b ∷ a ∷ []) (b ∷ [])

-- whether a pair is defined and has these two words
abbrev pub has_words : Positive → Positive → Complement → Bool
has_words x y undefined = false
has_words x y (complement u v) = equal u x && equal v y

-- whether each element passes a test
abbrev pub every : {A : Type 0} → (A → Bool) → List A → Bool
every test [] = true
every test (x ∷ xs) = test x && every test xs

-- 2.4: whether a pair of a table is as in the braid table
abbrev pub braid_pair : Presentation → Two → Bool
braid_pair T p = has_words (braid_word p.a p.b) (braid_word p.b p.a) (complete T p.a p.b)

-- 2.4: whether a table is the braid table of its n; that of one letter has no pair
unfoldable pub is_braid : Presentation → Bool
is_braid T = every (braid_pair T) (pairs T.size)

-- THE BED (6.11)

-- the number of the bobbin at each place, from place 1 on, and the total of each pair of bobbins, in the order of 4.1
pub record Bed : Type 0 where
  pub bobbins : List ℕ
  pub totals : List ℤ

-- n letters have n + 1 bobbins, at first in their order, and no crossing
abbrev pub first_bed : ℕ → Bed
first_bed n = record { bobbins = range 1 (suc n); totals = replicate (length (pairs (suc n))) (pos 0) }

-- the bobbins with the two after the first i exchanged, where there are two
abbrev pub exchanged : List ℕ → ℕ → List ℕ
exchanged [] i = []
exchanged (x ∷ []) zero = x ∷ []
exchanged (x ∷ y ∷ bs) zero = y ∷ x ∷ bs
exchanged (x ∷ bs) (suc i) = x ∷ exchanged bs i

-- whether the pair is x and y, in either order
abbrev pub is_pair : ℕ → ℕ → Two → Bool
is_pair x y p = (eqb p.a x && eqb p.b y) || (eqb p.a y && eqb p.b x)

-- how many of the pairs come before that of x and y; all where it is not among them
abbrev pub position : ℕ → ℕ → List Two → ℕ
position x y [] = 0
position x y (p ∷ ps) = cond (is_pair x y p) 0 (suc (position x y ps))

-- d more at an index; past the end nothing changes
abbrev pub increased : List ℤ → ℕ → ℤ → List ℤ
increased ts k d = set ts k (get_or ts k (pos 0) +ℤ d)

-- the index of the total of the two bobbins after the first i
abbrev pub crossing : List ℕ → ℕ → ℕ
crossing bs i = position (get_or bs i 0) (get_or bs (suc i) 0) (pairs (length bs))

-- the two bobbins after the first i cross: they are exchanged, and d is added to their total
abbrev pub crossed : ℕ → ℤ → Bed → Bed
crossed i d B = record { bobbins = exchanged B.bobbins i; totals = increased B.totals (crossing B.bobbins i) d }

-- a move is a crossing at the places i and i + 1; forward adds 1, back takes 1 away
abbrev pub moved : Letter → Bed → Bed
moved (forward i) B = crossed (i - 1) (pos 1) B
moved (back i) B = crossed (i - 1) (negsuc 0) B

-- the moves of a word, one after the other
abbrev pub laid : Word → Bed → Bed
laid [] B = B
laid (x ∷ w) B = laid w (moved x B)

-- the bed after the first k moves of a program under n letters, all where it has no more than k
abbrev pub bed_after : ℕ → ℕ → Word → Bed
bed_after n k w = laid (take k w) (first_bed n)

-- WHAT HOLDS OF A BED (6.11)

-- the same numbers in some order: each occurs as often
abbrev pub occurrences : ℕ → List ℕ → ℕ
occurrences p [] = 0
occurrences p (x ∷ xs) = cond (eqb x p) (suc (occurrences p xs)) (occurrences p xs)

abbrev pub Rearranged : List ℕ → List ℕ → Type 0
Rearranged xs ys = (p : ℕ) → occurrences p xs ≡ occurrences p ys

-- no total is further from 0 than c
abbrev pub Within : ℕ → List ℤ → Type 0
Within c ts = (k : ℕ) → nat_abs (get_or ts k (pos 0)) ≤ c

-- what holds of the bed of m bobbins after c moves
pub record Sound (m c : ℕ) (B : Bed) : Type 0 where
  pub places : length B.bobbins ≡ m
  pub many : length B.totals ≡ length (pairs m)
  pub order : Rearranged B.bobbins (range 1 m)
  pub within : Within c B.totals

-- THE ANSWER (6.11)

-- a total in two's complement of 16 bits: -1 is 65535
abbrev pub sixteen_bits : ℤ → ℕ
sixteen_bits (pos k) = k
sixteen_bits (negsuc k) = 65535 - k

-- two bytes, the high one first
abbrev pub total_bytes : ℤ → List ℕ
total_bytes t = (sixteen_bits t / 256) ∷ (sixteen_bits t % 256) ∷ []

-- the bobbin at each place, a byte each, then the totals
abbrev pub bed_bytes : Bed → List ℕ
bed_bytes B = B.bobbins ++ concat_map total_bytes B.totals

-- 6.11: a table is read; refusal 15 where it is not the braid table of its n
unfoldable pub read_braid : List ℕ → Outcome Presentation
read_braid table = read_table table >>= λ T. unless (not (is_braid T)) 15 T

-- 6.11: the table's tests come before those of the program, and 13 comes last
unfoldable pub bed : List ℕ → List ℕ → ℕ → ℕ → Outcome (List ℕ)
bed table program k area =
    read_braid table >>= λ T.
    read_program T.size program >>= λ w.
    fitted area (bed_bytes (bed_after T.size k w))
