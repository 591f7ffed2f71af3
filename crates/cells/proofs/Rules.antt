-- What the cells of a pair tell of its complement.
use mathlib.Core.Path.{◌≡◌, refl, ap, subst, ◌∙◌}
use mathlib.Core.List.{List, [], ◌∷◌}
use Prim.Native.Nat.{ℕ, suc, ◌+◌, ◌-◌, ◌*◌, ◌≤◌, ◌<◌}
use native.Mathlib.Omega.{arith}
use lib.ListN.{length, take, drop, get_or, replicate, length-drop, length-replicate, get_or-replicate}
use lib.Seq.{get_or-take, get_or-drop, length-take-le, ext_get_or}
use Rattle.model.specs.Word.{Positive, positive}
use Rattle.model.specs.Presentation.{Presentation, Complement, undefined, complement, swapped, complete, weight_of, weigh}
use Rattle.model.specs.Range.{All, InRange, Lettered}
use Rattle.model.proofs.Complete.{complete_turn}
use Rattle.model.specs.Images.{most_size, most_length}
use Rattle.cells.specs.Layout.{cell_at, weight_at, cell_length, cell_bytes}
use Rattle.cells.specs.Stands.{HoldsWord, HoldsFirst, Stands, Of, Sized, Filled, Blank}

lettered_all : (n : ℕ) (x : Positive) → All (InRange n) x → Lettered n (positive x)
lettered_all n [] p = tt
lettered_all n (a ∷ x) p = (p.0, lettered_all n x p.1)

-- LETTERS OF A TABLE OF SO MANY

module _ {cells : List ℕ} {size : ℕ} {T : Presentation} (o : Of cells size T) where
  pub of_some : 1 ≤ size
  of_some = omega (arith, o.sized, o.stands.some)

  pub of_few : size ≤ most_size
  of_few = omega (arith, o.sized, o.stands.few)

  pub of_size : (1 ≤ size) × (size ≤ most_size)
  of_size = (of_some, of_few)

  pub of_range : (a : ℕ) → 1 ≤ a → a ≤ size → InRange T.size a
  of_range a low high = record { low = low; high = omega (arith, o.sized) }

pub filled : {cells : List ℕ} {size : ℕ} → Sized cells size → (a b : ℕ) → 1 ≤ a → a ≤ size → 1 ≤ b → b ≤ size → Filled cells a b
filled s a b low_a high-a low-b high_b =
    record {
      table = s.0;
      stands = s.1.stands;
      a_names = of_range s.1 a low_a high-a;
      b_names = of_range s.1 b low-b high_b;
    }

-- WORDS IN CELLS

-- a cell's word as the bytes behind its length
pub record WordAt (cells : List ℕ) (at n : ℕ) (x : Positive) : Type 0 where
  pub count : get_or cells at 0 ≡ length x
  pub word : take (length x) (drop (at + 1) cells) ≡ x
  pub short : length x ≤ most_length
  pub lettered : Lettered n (positive x)

pub word_at : (size : ℕ) (cells : List ℕ) (cell : ℕ) (x : Positive) → cell + cell_length ≤ length cells → HoldsWord size cells cell x → WordAt cells cell size x
word_at size cells cell x room h =
    record {
      count = h.count;
      word = ext_get_or 0 (take (length x) (drop (cell + 1) cells)) x long same;
      short = omega (arith, h.in_range.short);
      lettered = lettered_all size x h.in_range.letters;
    }
  where
    long : length (take (length x) (drop (cell + 1) cells)) ≡ length x
    long = length-take-le (length x) (drop (cell + 1) cells) (simp length-drop (omega (arith, h.in_range.short)))

    same : (k : ℕ) → k < length (take (length x) (drop (cell + 1) cells)) → get_or (take (length x) (drop (cell + 1) cells)) k 0 ≡ get_or x k 0
    same k i =
        let j : k < length x = omega (arith, long) in
        get_or-take (length x) (drop (cell + 1) cells) k 0 j ∙ (get_or-drop (cell + 1) cells k 0 ∙ h.letters k j)

-- both words of a pair that is not undefined
pub record Rule (cells : List ℕ) (T : Presentation) (a b : ℕ) : Type 0 where
  pub x : Positive
  pub y : Positive
  pub rule : complete T a b ≡ complement x y
  pub to : WordAt cells (cell_at a b) T.size x
  pub from : WordAt cells (cell_at b a) T.size y

module _ (cells : List ℕ) (T : Presentation) (s : Stands cells T) (a b : ℕ) (ra : InRange T.size a) (rb : InRange T.size b) where
  pub inside : cell_at a b + cell_length ≤ length cells
  inside = omega (arith, s.full, s.few, ra.high, rb.high)

  -- the word of a complement
  pub cell_word : (x y : Positive) → complete T a b ≡ complement x y → WordAt cells (cell_at a b) T.size x
  cell_word x y e = word_at T.size cells (cell_at a b) x inside (subst (HoldsFirst T.size cells (cell_at a b)) e (s.cell a b ra rb))

  pub open_cell : get_or cells (cell_at a b) 0 ≡ 255 → complete T a b ≡ undefined
  open_cell e = go (complete T a b) refl
    where
      go : (c : Complement) → complete T a b ≡ c → complete T a b ≡ undefined
      go undefined p = p
      go (complement x y) p = let w = cell_word x y p in absurd (omega (arith, w.count, w.short))

module _ (cells : List ℕ) (T : Presentation) (s : Stands cells T) (a b : ℕ) (ra : InRange T.size a) (rb : InRange T.size b) where
  pub word_cell : (get_or cells (cell_at a b) 0 ≡ 255 → ⊥) → Rule cells T a b
  word_cell e = go (complete T a b) refl
    where
      go : (c : Complement) → complete T a b ≡ c → Rule cells T a b
      go undefined p = absurd (e (subst (HoldsFirst T.size cells (cell_at a b)) p (s.cell a b ra rb)))
      go (complement x y) p =
          record {
            x = x;
            y = y;
            rule = p;
            to = cell_word cells T s a b ra rb x y p;
            from = cell_word cells T s b a rb ra y x (complete_turn T a b ∙ ap swapped p);
          }

-- cells of zeros
pub blank_zeros : Blank (replicate cell_bytes 0)
blank_zeros = record {
  full = length-replicate {A = ℕ} cell_bytes 0;
  diagonal = λ a l. get_or-replicate {A = ℕ} cell_bytes (cell_at a a) 0 0 (omega
      (arith, l.low, l.high));
}

-- the weight that stands in a letter's place is the letter's
module _ (cells : List ℕ) (T : Presentation) (s : Stands cells T) (a : ℕ) (ra : InRange T.size a) where
  place : get_or cells (weight_at a) 0 ≡ get_or T.excess (a - 1) 0
  place =
      let back : 1 + (a - 1) ≡ a = omega (arith, ra.low) in
      subst (λ i. get_or cells (weight_at i) 0 ≡ get_or T.excess (a - 1) 0) back (s.weights.holds (a - 1) (omega (arith, s.weights.many, ra.low, ra.high)))

  pub held_weight : suc (get_or cells (weight_at a) 0) ≡ weight_of T a
  held_weight = ap suc place

  pub light_letter : weight_of T a ≤ 8
  light_letter = omega (arith, s.weights.light (a - 1) (omega (arith, s.weights.many, ra.low, ra.high)))

-- so a word of the table's letters weighs at most 8 times its length
pub weight_within : (cells : List ℕ) (T : Presentation) → Stands cells T → (u : Positive) → Lettered T.size (positive u) → weigh T u ≤ 8 * length u
weight_within cells T s [] h = omega arith
weight_within cells T s (a ∷ u) h = omega (arith, light_letter cells T s a h.0, weight_within cells T s u h.1)
