-- Where a set of words that has every letter of the table is closed under residuals, any two words of the table's letters have a diagram: it is paved with
-- diagrams of the set, row by row ([D1] Lemma 1.3). So any two such words have a common right multiple, and some order of steps finishes every word of
-- either sign. From diagrams put side by side and one below the other (Grid.antt).
-- Main names: `paved`, `diagram`, `common_multiple`, `finishable`.
use mathlib.Core.Path.{◌≡◌, sym, ap, ◌∙◌, subst}
use mathlib.Core.List.{[], ◌∷◌, ◌++◌, append_assoc}
use Prim.Native.Nat.{ℕ, ◌+◌}
use native.Mathlib.Omega.{arith}
use Rattle.model.specs.Word.{Letter, forward, back, Word, Positive, positive, negative}
use Rattle.model.specs.Presentation.{Presentation, complete}
use Rattle.model.specs.Reversing.{replaced, Reduces}
use Rattle.model.specs.Range.{All, InRange, Lettered}
use Rattle.model.proofs.Complete.{complete_turn}
use Rattle.model.proofs.Words.{negative_append}
use Rattle.model.proofs.Equiv.{symm}
use Rattle.theory.specs.Orders.{FinishesInSomeOrder}
use Rattle.theory.proofs.Letters.{all_append}
use Rattle.theory.proofs.Reduction.{reduces}
use Rattle.theory.proofs.Grid.{Grid, left_nil, beside, below, any_bottom, sound}
use Rattle.theory.proofs.Diagram.{finishes}
use Rattle.theory.proofs.Acting.{Multiple}

-- words of the set one after the other
data Tiles (In : Positive → Type 0) : Positive → Type 0 where
  none : Tiles In []
  tile : {u w : Positive} → In u → Tiles In w → Tiles In (u ++ w)

-- a diagram whose numerator and denominator are of the set
pub record Within (T : Presentation) (In : Positive → Type 0) (u v : Positive) : Type 0 where
  pub n : Positive
  pub d : Positive
  pub k : ℕ
  pub grid : Grid (complete T) u v n d k
  pub above : In n
  pub beyond : In d

-- one word of the set against several: the numerator is several, the denominator one
record Row (T : Presentation) (In : Positive → Type 0) (u v : Positive) : Type 0 where
  n : Positive
  d : Positive
  k : ℕ
  grid : Grid (complete T) u v n d k
  above : Tiles In n
  beyond : In d

-- some order of steps finishes the word, with a numerator and a denominator of the table's letters
pub record Finishable (T : Presentation) (w : Word) : Type 0 where
  pub n : Positive
  pub d : Positive
  pub k : ℕ
  pub run : FinishesInSomeOrder T w n d k
  pub over : All (InRange T.size) n
  pub under : All (InRange T.size) d

-- STEPS WITHIN A LONGER WORD

module _ {T : Presentation} where
  -- steps one after another
  reduces_then : {w v f : Word} {j k : ℕ} → Reduces T w v j → Reduces T v f k → Reduces T w f (j + k)
  reduces_then {w} {f} {k} Reduces.stay r = subst (λ i. Reduces T w f i) (omega arith) r
  reduces_then {w} {f} {k} (Reduces.go p a b s {k = i} e c q) r =
      subst (λ i. Reduces T w f i) (omega arith) (Reduces.go p a b s e c (reduces_then q r))

  -- after a letter, and before a word
  reduces_after : (l : Letter) {w v : Word} {k : ℕ} → Reduces T w v k → Reduces T (l ∷ w) (l ∷ v) k
  reduces_after l Reduces.stay = Reduces.stay
  reduces_after l (Reduces.go p a b s e c r) = Reduces.go (l ∷ p) a b s (ap (λ w. l ∷ w) e) c (reduces_after l r)

  reduces_before : (t : Word) {w v : Word} {k : ℕ} → Reduces T w v k → Reduces T (w ++ t) (v ++ t) k
  reduces_before t Reduces.stay = Reduces.stay
  reduces_before t {v} {k = j} (Reduces.go p a b s {k} {x} {y} e c r) =
      let next : replaced p x y s ++ t ≡ replaced p x y (s ++ t) = simp append_assoc in
      Reduces.go p a b (s ++ t) (ap (λ w. w ++ t) e ∙ append_assoc p (back a ∷ forward b ∷ s) t) c
      (subst (λ w. Reduces T w (v ++ t) k) next (reduces_before t r))

-- DIAGRAMS

module _ (T : Presentation) (In : Positive → Type 0) (closed : (u v : Positive) → In u → In v → Within T In u v) where
  -- one against several
  row : {u v : Positive} → In u → Tiles In v → Row T In u v
  row {u} i none = record { n = []; d = u; k = 0; grid = any_bottom u; above = none; beyond = i }
  row {u} i (tile {u = v} {w = w} j t) =
      let first = closed u v i j in
      let rest = row {u = first.d} first.beyond t in
      record {
        n = first.n ++ rest.n;
        d = rest.d;
        k = first.k + rest.k;
        grid = beside first.grid rest.grid;
        above = tile first.above rest.above;
        beyond = rest.beyond;
      }

  -- several against several
  paved : {u v : Positive} → Tiles In u → Tiles In v → Within T (Tiles In) u v
  paved {v} none t = record { n = v; d = []; k = 0; grid = left_nil; above = t; beyond = none }
  paved (tile i s) t =
      let first = row i t in
      let rest = paved s first.above in
      record {
        n = rest.n;
        d = first.d ++ rest.d;
        k = first.k + rest.k;
        grid = below first.grid rest.grid;
        above = rest.above;
        beyond = tile first.beyond rest.beyond;
      }

  -- where the set has the table's letters, and its words no others
  module _ (single : (a : ℕ) → InRange T.size a → In (a ∷ [])) (inside : (u : Positive) → In u → All (InRange T.size) u) where
    -- words of the table's letters are several of the set, and have no other letters
    tiled : (u : Positive) → All (InRange T.size) u → Tiles In u
    tiled [] h = none
    tiled (a ∷ u) h = tile (single a h.0) (tiled u h.1)

    tiles_letters : {u : Positive} → Tiles In u → All (InRange T.size) u
    tiles_letters none = tt
    tiles_letters (tile {u} {w} i t) = all_append (InRange T.size) u w (inside u i) (tiles_letters t)

    -- any two words of the table's letters have a diagram, within these letters
    diagram : (u v : Positive) → All (InRange T.size) u → All (InRange T.size) v → Within T (All (InRange T.size)) u v
    diagram u v g h =
        let t = paved (tiled u g) (tiled v h) in
        record { n = t.n; d = t.d; k = t.k; grid = t.grid; above = tiles_letters t.above; beyond = tiles_letters t.beyond }

    -- the sides of a diagram are a common multiple
    pub common_multiple : (a : ℕ) (u : Positive) → InRange T.size a → All (InRange T.size) u → Multiple T a u
    common_multiple a u g h =
        let t = diagram (a ∷ []) u (g, tt) h in
        record { z = t.d; r = t.n; letters = t.beyond; same = symm (complete_turn T) (sound t.grid) }

    -- EVERY WORD IS FINISHED

    -- a back letter before a finished word
    back_finished : (a : ℕ) {w : Word} → InRange T.size a → Finishable T w → Finishable T (back a ∷ w)
    back_finished a {w} g f =
        let t = diagram (a ∷ []) f.n (g, tt) f.over in
        let more : Reduces T (back a ∷ (positive f.n ++ negative f.d)) ((positive t.n ++ negative t.d) ++ negative f.d) t.k =
        reduces_before (negative f.d) (reduces (finishes t.grid)) in
        let last : (positive t.n ++ negative t.d) ++ negative f.d ≡ positive t.n ++ negative (f.d ++ t.d) =
        append_assoc (positive t.n) (negative t.d) (negative f.d) ∙ ap (λ v. positive t.n ++ v) (sym (negative_append f.d t.d)) in
        record {
          n = t.n;
          d = f.d ++ t.d;
          k = f.k + t.k;
          run = subst (λ v. Reduces T (back a ∷ w) v (f.k + t.k)) last (reduces_then (reduces_after (back a) f.run) more);
          over = t.above;
          under = all_append (InRange T.size) f.d t.d f.under t.beyond;
        }

    -- letter by letter from the end
    pub finishable : (w : Word) → Lettered T.size w → Finishable T w
    finishable [] h = record { n = []; d = []; k = 0; run = Reduces.stay; over = tt; under = tt }
    finishable (forward a ∷ w) h =
        let f = finishable w h.1 in
        record { n = a ∷ f.n; d = f.d; k = f.k; run = reduces_after (forward a) f.run; over = (h.0, f.over); under = f.under }
    finishable (back a ∷ w) h = back_finished a h.0 (finishable w h.1)
