-- Specification 1.3, what is in range: bytes, and the words, programs, tables and chains that an image can hold.
use Rattle.std.specs.Prelude.{List, [], ◌∷◌, ◌≡◌, ℕ, zero, suc, ◌^◌, ◌≤◌, ◌<◌, length, get_or}
use Rattle.model.specs.Word.{Letter, forward, back, Word, Positive}
use Rattle.model.specs.Presentation.{Presentation, Complement, undefined, complement}
use Rattle.model.specs.Equivalence.{Entry}
use Rattle.model.specs.Images.{most_size, weight_width, length_width, count_width, chain_count_width, offset_width}

-- every element
abbrev pub All : {A : Type 0} → (A → Type 0) → List A → Type 0
All P [] = Unit {0}
All P (x ∷ xs) = P x × All P xs

-- an area or image: every element is a byte
abbrev pub AreBytes : List ℕ → Type 0
AreBytes xs = (i : ℕ) → get_or xs i 0 < 256

-- 2.1: the numbers of n letters go from 1 to n
pub record InRange (n a : ℕ) : Type 0 where
  pub low : 1 ≤ a
  pub high : a ≤ n

abbrev pub number_of : Letter → ℕ
number_of (forward a) = a
number_of (back a) = a

abbrev pub LetterInRange : ℕ → Letter → Type 0
LetterInRange n x = InRange n (number_of x)

-- 2.1: every letter of a word is one of n
abbrev pub Lettered : ℕ → Word → Type 0
Lettered n w = All (LetterInRange n) w

-- 1.3: a program, of at most 4,095 letters
pub record ProgramInRange (n : ℕ) (w : Word) : Type 0 where
  pub short : length w < 2 ^ count_width
  pub letters : Lettered n w

-- 1.3: a completion, of at most 15 letters
pub record WordInRange (n : ℕ) (x : Positive) : Type 0 where
  pub short : length x < 2 ^ length_width
  pub letters : All (InRange n) x

abbrev pub PairInRange : ℕ → Complement → Type 0
PairInRange n undefined = Unit {0}
PairInRange n (complement x y) = WordInRange n x × WordInRange n y

-- 2.2: k rows, the first of k - 1 pairs, the next of k - 2, .. down to none
abbrev pub Rows : {A : Type 0} → (A → Type 0) → ℕ → List (List A) → Type 0
Rows P zero [] = Unit {0}
Rows P zero (row ∷ rows) = ⊥
Rows P (suc k) [] = ⊥
Rows P (suc k) (row ∷ rows) = (length row ≡ k) × All P row × Rows P k rows

-- 1.3: a table, of 1 to 16 letters, each with a weight of 1 to 8
pub record TableInRange (T : Presentation) : Type 0 where
  pub some : 1 ≤ T.size
  pub few : T.size ≤ most_size
  pub weighed : length T.excess ≡ T.size
  pub light : All (λ w. w < 2 ^ weight_width) T.excess
  pub pairs : Rows (PairInRange T.size) T.size T.rows

-- 1.3: an entry, with an offset of at most 32,767, and a chain, of at most 65,535 entries
pub record EntryInRange (n : ℕ) (e : Entry) : Type 0 where
  pub offset_small : e.offset < 2 ^ offset_width
  pub a_names : InRange n e.a
  pub b_names : InRange n e.b

pub record ChainInRange (n : ℕ) (es : List Entry) : Type 0 where
  pub short : length es < 2 ^ chain_count_width
  pub entries : All (EntryInRange n) es
